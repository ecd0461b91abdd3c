use Rattle.std.proofs.Common.{◌≡◌, drop}
use Rattle.yarn_tree.specs.Checks.{own_of}
use Rattle.yarn_tree.proofs.checks.has_own_ids.Given as goal

abbrev pub invariant-loop-read : goal.invariant-loop-read
invariant-loop-read l = own_of (drop l.read-index l.reads) ≡ own_of l.reads

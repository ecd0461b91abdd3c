use Rattle.std.proofs.Common.{◌≡◌, ◌++◌, drop}
use Rattle.yarn_tree.specs.Checks.{ids_of}
use Rattle.yarn_tree.proofs.checks.ids_of.Given as goal

abbrev pub invariant-loop-read : goal.invariant-loop-read
invariant-loop-read l = l.ids.items ++ ids_of (drop l.read-index l.reads) ≡ ids_of l.reads

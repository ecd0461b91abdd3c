use Rattle.std.proofs.Common.{◌≡◌, ◌++◌, drop}
use Rattle.yarn_tree.specs.Uses.{uses_in}
use Rattle.yarn_tree.proofs.uses.collect.Given as goal

abbrev pub invariant-loop-read : goal.invariant-loop-read
invariant-loop-read l = l.uses ++ uses_in (drop l.read-index l.reads) ≡ uses_in l.reads

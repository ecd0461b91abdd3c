use Rattle.std.proofs.Common.{◌≡◌, length}
use Rattle.yarn_tree.specs.Checks.{own_in}
use Rattle.yarn_tree.proofs.checks.has_own_in.Given as goal

abbrev pub invariant-loop-found : goal.invariant-loop-found
invariant-loop-found l = own_in l.left ≡ own_in l.body

abbrev pub decreases-loop-found : goal.decreases-loop-found
decreases-loop-found l = length l.left

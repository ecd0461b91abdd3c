use Rattle.std.proofs.Common.{◌≡◌, ◌++◌, length}
use Rattle.yarn_tree.specs.Checks.{ids_in}
use Rattle.yarn_tree.proofs.checks.push_ids_in.Given as goal

abbrev pub invariant-loop-found : goal.invariant-loop-found
invariant-loop-found l = l.ids.items ++ ids_in l.file l.left ≡ l.fn.ids.items ++ ids_in l.file l.body

abbrev pub decreases-loop-found : goal.decreases-loop-found
decreases-loop-found l = length l.left

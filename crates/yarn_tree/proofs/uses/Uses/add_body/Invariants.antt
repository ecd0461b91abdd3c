use Rattle.std.proofs.Common.{◌≡◌, ◌++◌, length}
use Rattle.yarn_tree.specs.Uses.{uses_in_body}
use Rattle.yarn_tree.proofs.uses.Uses.add_body.Given as goal

abbrev pub invariant-loop-found : goal.invariant-loop-found
invariant-loop-found l = l.self ++ uses_in_body l.file l.left ≡ l.fn.self ++ uses_in_body l.file l.body

abbrev pub decreases-loop-found : goal.decreases-loop-found
decreases-loop-found l = length l.left

use Rattle.std.proofs.Common.{◌≡◌, drop, map}
use Rattle.yarn_tree.specs.Checks.{first_use, is_unknown_title}
use Rattle.yarn_tree.specs.Names.{has}
use Rattle.yarn_tree.specs.Uses.{use_at}
use Rattle.yarn_tree.proofs.misuse.first_unknown_title.Given as goal

abbrev pub invariant-loop-one : goal.invariant-loop-one
invariant-loop-one l = first_use (is_unknown_title (has l.known)) (map use_at (drop l.one-index l.uses)) ≡ first_use (is_unknown_title (has l.known)) (map use_at l.uses)

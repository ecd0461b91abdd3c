use Rattle.std.proofs.Common.{◌≡◌, drop, map}
use Rattle.yarn_tree.specs.Checks.{first_use, is_reserved}
use Rattle.yarn_tree.specs.Uses.{use_at}
use Rattle.yarn_tree.proofs.misuse.first_reserved.Given as goal

abbrev pub invariant-loop-one : goal.invariant-loop-one
invariant-loop-one l = first_use is_reserved (map use_at (drop l.one-index l.uses)) ≡ first_use is_reserved (map use_at l.uses)

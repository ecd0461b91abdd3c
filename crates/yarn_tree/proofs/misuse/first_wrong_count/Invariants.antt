use Rattle.std.proofs.Common.{◌≡◌, drop, map}
use Rattle.yarn_tree.specs.Checks.{first_use, has_wrong_count}
use Rattle.yarn_tree.specs.Uses.{use_at}
use Rattle.yarn_tree.proofs.misuse.first_wrong_count.Given as goal

abbrev pub invariant-loop-one : goal.invariant-loop-one
invariant-loop-one l = first_use (has_wrong_count l.functions) (map use_at (drop l.one-index l.uses)) ≡ first_use (has_wrong_count l.functions) (map use_at l.uses)

use Rattle.std.proofs.Common.{◌≡◌, drop, map}
use Rattle.yarn_tree.specs.Checks.{declarations_in}
use Rattle.yarn_tree.specs.Names.{no_sight, sees_all, sight_of}
use Rattle.yarn_tree.specs.Uses.{use_at}
use Rattle.yarn_tree.proofs.misuse.second_declaration.Given as goal

abbrev pub invariant-loop-one : goal.invariant-loop-one
invariant-loop-one l =
    sees_all (sight_of l.seen) (declarations_in (map use_at (drop l.one-index l.uses))) ≡ sees_all no_sight (declarations_in (map use_at l.uses))

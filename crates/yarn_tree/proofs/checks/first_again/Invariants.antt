use Rattle.std.proofs.Common.{◌≡◌, drop}
use Rattle.yarn_tree.specs.Names.{no_sight, sees_all, sight_of}
use Rattle.yarn_tree.proofs.checks.first_again.Given as goal

abbrev pub invariant-loop-id : goal.invariant-loop-id
invariant-loop-id l = sees_all (sight_of l.seen) (drop l.id-index l.ids) ≡ sees_all no_sight l.ids

use Rattle.std.proofs.Common.{◌≡◌, ◌++◌, map}
use Rattle.yarn_markup.specs.Slots.{ended_at}
use Rattle.yarn_markup.proofs.slot.end_all.Given as goal

abbrev pub invariant-loop-slot : goal.invariant-loop-slot
invariant-loop-slot l = l.attributes ≡ l.initial.attributes ++ map (ended_at l.now) l.yielded

use Rattle.std.proofs.Common.{◌≡◌, drop}
use Rattle.yarn_markup.specs.Slots.{open_slots}
use Rattle.yarn_markup.proofs.slot.first_open.Given as goal

abbrev pub invariant-loop-slot : goal.invariant-loop-slot
invariant-loop-slot l = open_slots l.slots ≡ open_slots (drop l.slot-index l.slots)

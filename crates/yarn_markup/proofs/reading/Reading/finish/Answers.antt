use Rattle.std.proofs.Common.{◌≡◌, List, None, subst}
use Rattle.yarn_markup.specs.declared.slot.Slot.{Slot}
use Rattle.yarn_markup.specs.Attributes.{left_open}
use Rattle.yarn_markup.specs.Slots.{kept, open_slots}
use Rattle.yarn_markup.proofs.SlotLemmas.{finish_found}
use Rattle.yarn_markup.proofs.reading.Reading.finish.Goals as goal

pub returns : goal.returns
returns c = finish_found (kept c.args.self) _
    (subst (λ (l : List Slot). left_open (open_slots l) ≡ None) c.as_slice.ensures.value c.in_default.ensures)
    c.in_ok-end_all.ensures

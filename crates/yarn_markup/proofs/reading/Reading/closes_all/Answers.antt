use Rattle.std.proofs.Common.{◌≡◌, ◌++◌, List, true, map, subst, ap, ◌∙◌}
use Rattle.yarn_markup.specs.declared.slot.Slot.{Slot}
use Rattle.yarn_markup.specs.Attributes.{is_some_open}
use Rattle.yarn_markup.specs.Slots.{kept, open_slots, ended_at}
use Rattle.yarn_markup.proofs.SlotLemmas.{all_taken}
use Rattle.yarn_markup.proofs.LatestLemmas.{tracked_none}
use Rattle.yarn_markup.proofs.reading.Reading.closes_all.Goals as goal

pub returns-clause-taken : goal.returns-clause-taken
returns-clause-taken c = all_taken (kept c.args.self.now) c.args.at _ _
    (subst (λ (l : List Slot). true ≡ is_some_open (open_slots l)) c.as_slice.ensures.value c.if-not-is_some_open.ensures)
    (c.in_ok-end_all.ensures ∙ ap (λ (l : List Slot). c.args.self.now.attributes ++ map (ended_at c.args.self.now.count) l) c.take_all-slots.ensures.all)
    c.take_all-slots.ensures.none

pub returns-clause-tracked : goal.returns-clause-tracked
returns-clause-tracked c = tracked_none c.new.result _ c.new.ensures.empty c.take_all-slots.ensures.none

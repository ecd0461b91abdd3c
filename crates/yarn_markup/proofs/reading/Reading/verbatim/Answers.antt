use Rattle.yarn_markup.specs.Slots.{kept}
use Rattle.yarn_markup.proofs.SlotLemmas.{verbatim_taken}
use Rattle.yarn_markup.proofs.LatestLemmas.{tracked_closed}
use Rattle.yarn_markup.proofs.reading.Reading.verbatim.Goals as goal

pub returns-clause-taken : goal.returns-clause-taken
returns-clause-taken c =
    verbatim_taken (kept c.args.self.now) (kept c.shows.new.self) c.args.text.now c.in_ok-from_str.field-0 c.new.result c.args.at c.saturating_sub.result _
    c.in_ok-shows.ensures.grown c.saturating_sub.ensures c.in_ok-from_str.ensures c.new.ensures c.in_ok-push.ensures.items

pub returns-clause-tracked : goal.returns-clause-tracked
returns-clause-tracked c =
    tracked_closed c.shows.new.self.latest c.in_ok-from_str.field-0 c.args.self.now.count c.saturating_sub.result c.new.result c.args.at c.shows.new.self.slots.items _
    c.in_ok-shows.ensures.tracked c.in_ok-push.ensures.items

use Rattle.yarn_markup.specs.Slots.{kept}
use Rattle.yarn_markup.proofs.SlotLemmas.{lone_taken}
use Rattle.yarn_markup.proofs.LatestLemmas.{tracked_closed}
use Rattle.yarn_markup.proofs.reading.Reading.lone.Goals as goal

pub returns-clause-taken : goal.returns-clause-taken
returns-clause-taken c = lone_taken (kept c.args.self.now) c.args.tag c.args.at _ c.in_ok-push.ensures.items

pub returns-clause-tracked : goal.returns-clause-tracked
returns-clause-tracked c =
    tracked_closed c.args.self.now.latest c.args.tag.name c.args.self.now.count 0 c.args.tag.properties c.args.at c.args.self.now.slots.items _
    c.requires c.in_ok-push.ensures.items

use Rattle.std.proofs.Common.{◌∙◌}
use Rattle.yarn_markup.specs.Slots.{kept}
use Rattle.yarn_markup.proofs.SlotLemmas.{opens_taken}
use Rattle.yarn_markup.proofs.LatestLemmas.{tracked_open}
use Rattle.yarn_markup.proofs.reading.Reading.opens.Goals as goal

pub returns-clause-taken : goal.returns-clause-taken
returns-clause-taken c = opens_taken (kept c.args.self.now) c.args.tag c.args.at c.copied-outer.result _ c.in_ok-push.ensures.items

pub returns-clause-tracked : goal.returns-clause-tracked
returns-clause-tracked c =
    tracked_open c.args.self.now.latest c.set_latest.new.latest c.args.tag.name c.args.self.now.count c.args.tag.properties c.args.at c.len.result c.copied-outer.result
    c.args.self.now.slots.items _ c.requires (c.copied-outer.ensures ∙ c.get.ensures.value) c.in_ok-set_latest.ensures
    (c.len.ensures ∙ c.args.self.now.slots.ok.0) c.in_ok-push.ensures.items

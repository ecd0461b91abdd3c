use Rattle.std.proofs.Common.{sym, ◌∙◌}
use Rattle.yarn_markup.specs.Slots.{kept}
use Rattle.yarn_markup.proofs.SlotLemmas.{closes_taken, fails_closes}
use Rattle.yarn_markup.proofs.reading.Reading.closes.Goals as goal

pub returns-then-branch-clause-taken : goal.returns-then-branch-clause-taken
returns-then-branch-clause-taken c = closes_taken (kept c.args.self.now) c.args.name.now c.args.at _
    (sym c.if-branch.true ∙ c.in_ok-close_latest.ensures.found) c.in_ok-close_latest.ensures.closed

pub returns-else-branch-clause-taken : goal.returns-else-branch-clause-taken
returns-else-branch-clause-taken c = fails_closes (kept c.args.self.now) c.args.name.now c.args.at
    (sym c.if-branch.false ∙ c.in_ok-close_latest.ensures.found)

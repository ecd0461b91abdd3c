use Rattle.yarn_markup.specs.Slots.{kept}
use Rattle.yarn_markup.proofs.SlotLemmas.{stands_taken}
use Rattle.yarn_markup.proofs.reading.Reading.stands.Goals as goal

pub returns-clause-taken : goal.returns-clause-taken
returns-clause-taken c = λ at. stands_taken (kept c.args.self.now) c.args.c at _ _ c.in_ok-push_char.ensures.ok c.in_ok-self.ensures

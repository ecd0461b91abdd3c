use Rattle.yarn_markup.proofs.MarkupLemmas.{none_refused}
use Rattle.yarn_markup.proofs.laws.none_refused.Goals as goal

pub returns : goal.returns
returns c = none_refused

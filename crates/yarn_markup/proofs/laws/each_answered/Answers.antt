use Rattle.yarn_markup.proofs.MarkupLemmas.{each_answered}
use Rattle.yarn_markup.proofs.laws.each_answered.Goals as goal

pub returns : goal.returns
returns c = each_answered

use Rattle.yarn_markup.proofs.MarkupLemmas.{one_reading}
use Rattle.yarn_markup.proofs.laws.one_reading.Goals as goal

pub returns : goal.returns
returns c = one_reading

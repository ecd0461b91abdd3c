use Rattle.yarn_plural.proofs.MeaningLemmas.{line_is_one}
use Rattle.yarn_plural.proofs.laws.line_is_one_thing.Goals as goal

pub returns : goal.returns
returns c = line_is_one

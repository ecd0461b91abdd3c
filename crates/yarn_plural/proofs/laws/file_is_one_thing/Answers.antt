use Rattle.yarn_plural.proofs.OneReadingLemmas.{file_is_one}
use Rattle.yarn_plural.proofs.laws.file_is_one_thing.Goals as goal

pub returns : goal.returns
returns c = file_is_one

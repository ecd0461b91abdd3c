use Rattle.yarn_plural.proofs.EnglishLemmas.{english_is_written}
use Rattle.yarn_plural.proofs.laws.english_is_written.Goals as goal

pub returns : goal.returns
returns c = english_is_written

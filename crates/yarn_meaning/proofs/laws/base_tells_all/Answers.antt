use Rattle.yarn_meaning.proofs.BaseLemmas.{base_tells}
use Rattle.yarn_meaning.proofs.laws.base_tells_all.Goals as goal

pub returns : goal.returns
returns c = base_tells

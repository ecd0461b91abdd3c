use Rattle.yarn_items.proofs.FoundLemmas.{nothing-is-left}
use Rattle.yarn_items.proofs.laws.nothing_is_left.Goals as goal

pub returns : goal.returns
returns c = nothing-is-left

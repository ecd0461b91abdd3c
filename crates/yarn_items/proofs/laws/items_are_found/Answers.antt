use Rattle.yarn_items.proofs.FoundLemmas.{items-are-found}
use Rattle.yarn_items.proofs.laws.items_are_found.Goals as goal

pub returns : goal.returns
returns c = items-are-found

use Rattle.yarn_items.proofs.FoundLemmas.{one-item}
use Rattle.yarn_items.proofs.laws.one_item.Goals as goal

pub returns : goal.returns
returns c = one-item

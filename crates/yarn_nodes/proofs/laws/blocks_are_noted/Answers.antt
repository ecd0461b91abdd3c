use Rattle.yarn_nodes.proofs.ShownLemmas.{blocks_are_noted}
use Rattle.yarn_nodes.proofs.laws.blocks_are_noted.Goals as goal

pub returns : goal.returns
returns c = blocks_are_noted c.items_are_found.ensures

use Rattle.yarn_nodes.proofs.PlaceLemmas.{misplaced_is_noted}
use Rattle.yarn_nodes.proofs.laws.misplaced_is_noted.Goals as goal

pub returns : goal.returns
returns c = misplaced_is_noted c.items_are_found.ensures

use Rattle.yarn_tree.proofs.PlaceLaws.{too_deep}
use Rattle.yarn_tree.proofs.NodeLaws.{node_laws}
use Rattle.yarn_tree.proofs.laws.too_deep_is_right.Goals as goal

pub returns : goal.returns
returns c = too_deep (node_laws c.items_are_found.ensures)

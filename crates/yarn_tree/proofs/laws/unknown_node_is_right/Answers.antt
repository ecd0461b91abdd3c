use Rattle.yarn_tree.proofs.PlaceLaws.{unknown_node}
use Rattle.yarn_tree.proofs.NodeLaws.{node_laws}
use Rattle.yarn_tree.proofs.laws.unknown_node_is_right.Goals as goal

pub returns : goal.returns
returns c = unknown_node (node_laws c.items_are_found.ensures)

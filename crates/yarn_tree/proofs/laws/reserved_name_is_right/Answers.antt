use Rattle.yarn_tree.proofs.PlaceLaws.{reserved_name}
use Rattle.yarn_tree.proofs.NodeLaws.{node_laws}
use Rattle.yarn_tree.proofs.laws.reserved_name_is_right.Goals as goal

pub returns : goal.returns
returns c = reserved_name (node_laws c.items_are_found.ensures)

use Rattle.yarn_tree.proofs.PlaceLaws.{number_too_large}
use Rattle.yarn_tree.proofs.NodeLaws.{node_laws}
use Rattle.yarn_tree.proofs.laws.number_too_large_is_right.Goals as goal

pub returns : goal.returns
returns c = number_too_large (node_laws c.items_are_found.ensures)

use Rattle.yarn_tree.proofs.PlaceLaws.{unknown_function}
use Rattle.yarn_tree.proofs.NodeLaws.{node_laws}
use Rattle.yarn_tree.proofs.laws.unknown_function_is_right.Goals as goal

pub returns : goal.returns
returns c = unknown_function (node_laws c.items_are_found.ensures)

use Rattle.yarn_tree.proofs.PlaceLaws.{wrong_arguments}
use Rattle.yarn_tree.proofs.NodeLaws.{node_laws}
use Rattle.yarn_tree.proofs.laws.wrong_arguments_is_right.Goals as goal

pub returns : goal.returns
returns c = wrong_arguments (node_laws c.items_are_found.ensures)

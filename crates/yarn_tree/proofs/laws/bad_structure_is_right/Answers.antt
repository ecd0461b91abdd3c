use Rattle.yarn_tree.proofs.PlaceLaws.{bad_structure}
use Rattle.yarn_tree.proofs.NodeLaws.{node_laws}
use Rattle.yarn_tree.proofs.laws.bad_structure_is_right.Goals as goal

pub returns : goal.returns
returns c = bad_structure (node_laws c.items_are_found.ensures)

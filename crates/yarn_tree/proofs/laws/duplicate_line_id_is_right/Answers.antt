use Rattle.yarn_tree.proofs.PlaceLaws.{duplicate_line_id}
use Rattle.yarn_tree.proofs.NodeLaws.{node_laws}
use Rattle.yarn_tree.proofs.laws.duplicate_line_id_is_right.Goals as goal

pub returns : goal.returns
returns c = duplicate_line_id (node_laws c.items_are_found.ensures)

use Rattle.yarn_tree.proofs.PlaceLaws.{bad_line}
use Rattle.yarn_tree.proofs.NodeLaws.{node_laws}
use Rattle.yarn_tree.proofs.laws.bad_line_is_right.Goals as goal

pub returns : goal.returns
returns c = bad_line (node_laws c.items_are_found.ensures)

use Rattle.yarn_tree.proofs.PlaceLaws.{duplicate_declare}
use Rattle.yarn_tree.proofs.NodeLaws.{node_laws}
use Rattle.yarn_tree.proofs.laws.duplicate_declare_is_right.Goals as goal

pub returns : goal.returns
returns c = duplicate_declare (node_laws c.items_are_found.ensures)

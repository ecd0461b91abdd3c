use Rattle.yarn_tree.proofs.PlaceLaws.{fraction}
use Rattle.yarn_tree.proofs.NodeLaws.{node_laws}
use Rattle.yarn_tree.proofs.laws.fraction_is_right.Goals as goal

pub returns : goal.returns
returns c = fraction (node_laws c.items_are_found.ensures)

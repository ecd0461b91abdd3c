use Rattle.yarn_tree.proofs.TitleLaws.{duplicate_title}
use Rattle.yarn_tree.proofs.NodeLaws.{node_laws}
use Rattle.yarn_tree.proofs.laws.duplicate_title_is_right.Goals as goal

pub returns : goal.returns
returns c = duplicate_title (node_laws c.items_are_found.ensures)

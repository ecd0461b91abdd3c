use Rattle.yarn_tree.proofs.AloneLaws.{file_refused}
use Rattle.yarn_tree.proofs.NodeLaws.{node_laws}
use Rattle.yarn_tree.proofs.laws.file_refused_exactly.Goals as goal

pub returns : goal.returns
returns c = λ source. file_refused source (node_laws c.items_are_found.ensures)

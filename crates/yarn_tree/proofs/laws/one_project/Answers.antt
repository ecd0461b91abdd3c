use Rattle.yarn_tree.proofs.LawLemmas.{one_project}
use Rattle.yarn_tree.proofs.NodeLaws.{node_laws}
use Rattle.yarn_tree.proofs.laws.one_project.Goals as goal

pub returns : goal.returns
returns c = one_project (node_laws c.items_are_found.ensures)

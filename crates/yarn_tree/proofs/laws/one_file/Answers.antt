use Rattle.yarn_tree.proofs.LawLemmas.{one_file}
use Rattle.yarn_tree.proofs.NodeLaws.{node_laws}
use Rattle.yarn_tree.proofs.laws.one_file.Goals as goal

pub returns : goal.returns
returns c = one_file (node_laws c.items_are_found.ensures)

use Rattle.yarn_tree.proofs.LawLemmas.{file_exactly}
use Rattle.yarn_tree.proofs.NodeLaws.{node_laws}
use Rattle.yarn_tree.proofs.laws.file_read_exactly.Goals as goal

pub returns : goal.returns
returns c = λ source. file_exactly source (node_laws c.items_are_found.ensures)

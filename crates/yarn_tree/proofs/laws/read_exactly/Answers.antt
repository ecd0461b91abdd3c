use Rattle.yarn_tree.proofs.LawLemmas.{exactly}
use Rattle.yarn_tree.proofs.NodeLaws.{node_laws}
use Rattle.yarn_tree.proofs.laws.read_exactly.Goals as goal

pub returns : goal.returns
returns c = exactly (node_laws c.items_are_found.ensures)

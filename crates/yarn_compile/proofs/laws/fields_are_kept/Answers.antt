use Rattle.yarn_tree.proofs.LawLemmas.{exactly}
use Rattle.yarn_tree.proofs.NodeLaws.{node_laws}
use Rattle.yarn_compile.proofs.Fields.{fielded}
use Rattle.yarn_compile.proofs.laws.fields_are_kept.Goals as goal

pub returns : goal.returns
returns c = fielded c.items_are_found.ensures (exactly (node_laws c.items_are_found.ensures))

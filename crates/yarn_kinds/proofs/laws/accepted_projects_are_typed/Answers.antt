use Rattle.yarn_tree.proofs.LawLemmas.{exactly}
use Rattle.yarn_tree.proofs.NodeLaws.{node_laws}
use Rattle.yarn_kinds.proofs.Typed.{accepted_is_typed}
use Rattle.yarn_kinds.proofs.laws.accepted_projects_are_typed.Goals as goal

pub returns : goal.returns
returns c = accepted_is_typed (exactly (node_laws c.items_are_found.ensures))

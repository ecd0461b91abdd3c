use Rattle.yarn_tree.proofs.LawLemmas.{exactly}
use Rattle.yarn_tree.proofs.NodeLaws.{node_laws}
use Rattle.yarn_compile.proofs.Accepted.{valid}
use Rattle.yarn_compile.proofs.laws.code_is_valid.Goals as goal

pub returns : goal.returns
returns c = valid c.items_are_found.ensures (exactly (node_laws c.items_are_found.ensures))

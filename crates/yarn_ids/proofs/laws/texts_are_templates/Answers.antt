use Rattle.yarn_tree.proofs.LawLemmas.{exactly}
use Rattle.yarn_tree.proofs.NodeLaws.{node_laws}
use Rattle.yarn_ids.proofs.TextRows.{texts-are-templates}
use Rattle.yarn_ids.proofs.laws.texts_are_templates.Goals as goal

pub returns : goal.returns
returns c = texts-are-templates c.items_are_found.ensures (exactly (node_laws c.items_are_found.ensures))

use Rattle.yarn_nodes.proofs.NotedLemmas.{lines_are_noted}
use Rattle.yarn_nodes.proofs.laws.lines_are_noted.Goals as goal

pub returns : goal.returns
returns c = lines_are_noted c.items_are_found.ensures

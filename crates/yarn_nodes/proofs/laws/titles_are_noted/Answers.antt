use Rattle.yarn_nodes.proofs.TitleLemmas.{titles_are_noted}
use Rattle.yarn_nodes.proofs.laws.titles_are_noted.Goals as goal

pub returns : goal.returns
returns c = titles_are_noted c.items_are_found.ensures

use Rattle.yarn_nodes.proofs.LinesLemmas.{standing_is_read}
use Rattle.yarn_nodes.proofs.laws.standing_is_read.Goals as goal

pub returns : goal.returns
returns c = standing_is_read c.items_are_found.ensures

use Rattle.yarn_nodes.proofs.LinesLemmas.{files_stand}
use Rattle.yarn_nodes.proofs.laws.files_stand.Goals as goal

pub returns : goal.returns
returns c = files_stand c.items_are_found.ensures

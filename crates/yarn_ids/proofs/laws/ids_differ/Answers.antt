use Rattle.yarn_ids.proofs.RowLemmas.{ids-differ}
use Rattle.yarn_ids.proofs.laws.ids_differ.Goals as goal

pub returns : goal.returns
returns c = ids-differ

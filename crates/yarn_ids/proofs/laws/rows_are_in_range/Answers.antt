use Rattle.yarn_ids.proofs.RangeLemmas.{rows-are_in_range}
use Rattle.yarn_ids.proofs.laws.rows_are_in_range.Goals as goal

pub returns : goal.returns
returns c = rows-are_in_range

use Rattle.yarn_ids.proofs.RowLemmas.{rows-are-the-table}
use Rattle.yarn_ids.proofs.laws.rows_are_the_table.Goals as goal

pub returns : goal.returns
returns c = rows-are-the-table

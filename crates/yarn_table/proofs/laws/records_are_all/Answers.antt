use Rattle.yarn_table.proofs.LawLemmas.{records_are_all}
use Rattle.yarn_table.proofs.laws.records_are_all.Goals as goal

pub returns : goal.returns
returns c = records_are_all

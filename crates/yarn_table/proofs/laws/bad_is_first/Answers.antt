use Rattle.yarn_table.proofs.LawLemmas.{bad_is_first}
use Rattle.yarn_table.proofs.laws.bad_is_first.Goals as goal

pub returns : goal.returns
returns c = bad_is_first

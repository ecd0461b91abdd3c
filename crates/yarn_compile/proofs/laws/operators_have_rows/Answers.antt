use Rattle.yarn_compile.proofs.Rows.{operators_have_rows}
use Rattle.yarn_compile.proofs.laws.operators_have_rows.Goals as goal

pub returns : goal.returns
returns c = operators_have_rows

use Rattle.yarn_check.proofs.Exact.{pass_is_exact}
use Rattle.yarn_check.proofs.laws.pass_is_exact.Goals as goal

pub returns : goal.returns
returns c = pass_is_exact

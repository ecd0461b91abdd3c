use Rattle.yarn_check.proofs.Checks.{check_is_exact}
use Rattle.yarn_check.proofs.laws.check_is_exact.Goals as goal

pub returns : goal.returns
returns c = check_is_exact

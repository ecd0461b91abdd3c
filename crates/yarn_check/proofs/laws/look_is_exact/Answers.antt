use Rattle.yarn_check.proofs.Look.{look_is_exact}
use Rattle.yarn_check.proofs.laws.look_is_exact.Goals as goal

pub returns : goal.returns
returns c = look_is_exact

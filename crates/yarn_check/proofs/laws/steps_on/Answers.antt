use Rattle.yarn_check.proofs.Stuck.{steps_on}
use Rattle.yarn_check.proofs.laws.steps_on.Goals as goal

pub returns : goal.returns
returns c = steps_on

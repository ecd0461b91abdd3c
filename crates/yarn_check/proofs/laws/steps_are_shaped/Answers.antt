use Rattle.yarn_check.proofs.Steps.{steps}
use Rattle.yarn_check.proofs.laws.steps_are_shaped.Goals as goal

pub returns : goal.returns
returns c = steps

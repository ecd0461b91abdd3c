use Rattle.yarn_check.proofs.Steps.{begins}
use Rattle.yarn_check.proofs.laws.entries_are_shaped.Goals as goal

pub returns : goal.returns
returns c = begins

use Rattle.yarn_check.proofs.Outcomes.{have_outcomes}
use Rattle.yarn_check.proofs.laws.runs_have_one_outcome.Goals as goal

pub returns : goal.returns
returns c = have_outcomes

use Rattle.yarn_check.proofs.Stuck.{never_stuck}
use Rattle.yarn_check.proofs.laws.never_stuck.Goals as goal

pub returns : goal.returns
returns c = never_stuck

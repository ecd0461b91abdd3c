use Rattle.yarn_check.proofs.Stuck.{none_open}
use Rattle.yarn_check.proofs.laws.none_open_is_a_fault.Goals as goal

pub returns : goal.returns
returns c = none_open

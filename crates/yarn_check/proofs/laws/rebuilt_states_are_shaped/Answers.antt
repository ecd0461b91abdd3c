use Rattle.yarn_check.proofs.Rebuilding.{rebuilds_shaped}
use Rattle.yarn_check.proofs.laws.rebuilt_states_are_shaped.Goals as goal

pub returns : goal.returns
returns c = rebuilds_shaped

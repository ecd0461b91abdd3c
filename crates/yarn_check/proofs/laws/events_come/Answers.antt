use Rattle.yarn_check.proofs.Comes.{comes_soon}
use Rattle.yarn_check.proofs.laws.events_come.Goals as goal

pub returns : goal.returns
returns c = comes_soon

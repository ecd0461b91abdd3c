use Rattle.yarn_blocks.proofs.Viable.{viable}
use Rattle.yarn_blocks.proofs.laws.goes_on_where_viable.Goals as goal

pub returns : goal.returns
returns c = viable

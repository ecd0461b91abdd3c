use Rattle.yarn_blocks.proofs.Places.{Viable-front}
use Rattle.yarn_blocks.proofs.laws.fronts_are_viable.Goals as goal

pub returns : goal.returns
returns c = Viable-front

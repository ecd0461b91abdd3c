use Rattle.yarn_blocks.proofs.Viable.{read-block}
use Rattle.yarn_blocks.proofs.laws.read_are_blocks.Goals as goal

pub returns : goal.returns
returns c = read-block

use Rattle.yarn_blocks.proofs.Viable.{one_block}
use Rattle.yarn_blocks.proofs.laws.one_block.Goals as goal

pub returns : goal.returns
returns c = λ xs b d r q. one_block r q

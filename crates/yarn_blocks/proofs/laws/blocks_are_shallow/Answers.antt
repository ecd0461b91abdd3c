use Rattle.yarn_blocks.proofs.FrameLemmas.{block-shallow}
use Rattle.yarn_blocks.proofs.laws.blocks_are_shallow.Goals as goal

pub returns : goal.returns
returns c = block-shallow

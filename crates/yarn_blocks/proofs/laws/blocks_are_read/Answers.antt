use Rattle.yarn_blocks.proofs.Viable.{block-read}
use Rattle.yarn_blocks.proofs.laws.blocks_are_read.Goals as goal

pub returns : goal.returns
returns c = λ xs b r. block-read r

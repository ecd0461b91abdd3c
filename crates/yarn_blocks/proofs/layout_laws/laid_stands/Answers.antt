use Rattle.yarn_blocks.proofs.Laid.{laid_stands}
use Rattle.yarn_blocks.proofs.layout_laws.laid_stands.Goals as goal

pub returns : goal.returns
returns c = laid_stands

use Rattle.yarn_blocks.proofs.Laid.{laid_keeps_lines}
use Rattle.yarn_blocks.proofs.layout_laws.laid_keeps_lines.Goals as goal

pub returns : goal.returns
returns c = laid_keeps_lines

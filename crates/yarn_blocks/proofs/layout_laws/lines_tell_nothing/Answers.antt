use Rattle.yarn_blocks.proofs.Renumber.{lines_tell_nothing}
use Rattle.yarn_blocks.proofs.layout_laws.lines_tell_nothing.Goals as goal

pub returns : goal.returns
returns c = lines_tell_nothing

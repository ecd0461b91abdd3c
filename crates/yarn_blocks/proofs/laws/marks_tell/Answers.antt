use Rattle.yarn_blocks.proofs.Outlines.{marks_tell}
use Rattle.yarn_blocks.proofs.laws.marks_tell.Goals as goal

pub returns : goal.returns
returns c = marks_tell

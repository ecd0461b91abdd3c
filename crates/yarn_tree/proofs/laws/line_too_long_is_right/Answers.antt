use Rattle.yarn_tree.proofs.PlaceLaws.{line_too_long}
use Rattle.yarn_tree.proofs.laws.line_too_long_is_right.Goals as goal

pub returns : goal.returns
returns c = line_too_long

use Rattle.yarn_tree.proofs.PlaceLaws.{bad_utf8}
use Rattle.yarn_tree.proofs.laws.bad_utf8_is_right.Goals as goal

pub returns : goal.returns
returns c = bad_utf8

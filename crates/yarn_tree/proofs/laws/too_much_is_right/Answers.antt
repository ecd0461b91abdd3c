use Rattle.yarn_tree.proofs.PlaceLaws.{too_much-law}
use Rattle.yarn_tree.proofs.laws.too_much_is_right.Goals as goal

pub returns : goal.returns
returns c = too_much-law

use Rattle.yarn_expr.proofs.OneTree.{one_tree_law}
use Rattle.yarn_expr.proofs.law.one_tree.Goals as goal

pub returns : goal.returns
returns c = one_tree_law

use Rattle.yarn_blocks.proofs.Injective.{one_tree}
use Rattle.yarn_blocks.proofs.layout_laws.one_tree.Goals as goal

pub returns : goal.returns
returns c = one_tree

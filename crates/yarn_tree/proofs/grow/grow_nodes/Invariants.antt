use Rattle.yarn_tree.proofs.GrowLemmas.{NodesGrow}
use Rattle.yarn_tree.proofs.grow.grow_nodes.Given as goal

abbrev pub invariant-loop-node : goal.invariant-loop-node
invariant-loop-node l = NodesGrow l.fn.nodes l.node-iterator.rest.items l.grown.items

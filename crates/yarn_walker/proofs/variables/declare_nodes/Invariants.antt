use Rattle.std.proofs.Common.{◌≡◌, drop, map}
use Rattle.yarn_tree.specs.Trees.{node_tree}
use Rattle.yarn_meaning.specs.Variables.{declared_in_nodes}
use Rattle.yarn_value.specs.Pairs.{with_missing}
use Rattle.yarn_walker.proofs.variables.declare_nodes.Given as goal

abbrev pub invariant-loop-node : goal.invariant-loop-node
invariant-loop-node l =
    with_missing l.store (declared_in_nodes (map node_tree (drop l.node-index l.nodes))) ≡ with_missing l.fn.store (declared_in_nodes (map node_tree l.nodes))

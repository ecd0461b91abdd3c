use Rattle.std.proofs.Common.{◌≡◌, ◌++◌, map, drop}
use Rattle.yarn_tree.specs.Trees.{node_tree}
use Rattle.yarn_types.specs.Units.{unit_of}
use Rattle.yarn_infer.specs.Units.{nodes_units}
use Rattle.yarn_infer.proofs.units.push_nodes.Given as goal

abbrev pub invariant-loop-node : goal.invariant-loop-node
invariant-loop-node l =
    map unit_of l.units.items ++ nodes_units l.file (map node_tree (drop l.node-index l.nodes)) ≡ map unit_of l.fn.units.items ++ nodes_units l.file (map node_tree l.nodes)

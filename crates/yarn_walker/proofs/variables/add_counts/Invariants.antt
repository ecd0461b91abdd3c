use Rattle.std.proofs.Common.{◌≡◌, ◌++◌, drop, map}
use Rattle.yarn_tree.specs.Trees.{node_tree}
use Rattle.yarn_meaning.specs.Variables.{counts_in}
use Rattle.yarn_walker.specs.Variables.{pairs_of}
use Rattle.yarn_walker.proofs.variables.add_counts.Given as goal

abbrev pub invariant-loop-node : goal.invariant-loop-node
invariant-loop-node l =
    pairs_of l.all.items ++ counts_in (map node_tree (drop l.node-index l.nodes)) ≡ pairs_of l.fn.all.items ++ counts_in (map node_tree l.nodes)

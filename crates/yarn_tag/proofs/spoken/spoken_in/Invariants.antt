use Rattle.std.proofs.Common.{◌≡◌, ◌++◌, map, drop}
use Rattle.yarn_tree.specs.Trees.{node_tree}
use Rattle.yarn_meaning.specs.Texts.{said_in_nodes}
use Rattle.yarn_tag.specs.Tagged.{spoken_of, spoken_in}
use Rattle.yarn_tag.proofs.spoken.spoken_in.Given as goal

abbrev pub invariant-loop-node : goal.invariant-loop-node
invariant-loop-node l = l.said.items ++ map spoken_of (said_in_nodes (map node_tree (drop l.node-index l.tree.nodes))) ≡ spoken_in l.tree

use Rattle.std.proofs.Common.{◌≡◌, ◌++◌, map, take}
use Rattle.yarn_tree.specs.Trees.{node_tree}
use Rattle.yarn_cli.proofs.strings.push_titles.Given as goal

abbrev pub invariant-loop-node : goal.invariant-loop-node
invariant-loop-node l = l.titles ≡ l.fn.titles ++ map (λ node. node.title) (map node_tree (take l.node-index l.nodes))

use Rattle.std.proofs.Common.{◌≡◌, ◌++◌, drop}
use Rattle.yarn_tree.specs.Uses.{uses_within}
use Rattle.yarn_tree.proofs.uses.Uses.add_nodes.Given as goal

abbrev pub invariant-loop-node : goal.invariant-loop-node
invariant-loop-node l = l.self ++ uses_within l.file (drop l.node-index l.nodes) ≡ l.fn.self ++ uses_within l.file l.nodes

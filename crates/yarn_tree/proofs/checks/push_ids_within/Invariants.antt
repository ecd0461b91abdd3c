use Rattle.std.proofs.Common.{◌≡◌, ◌++◌, drop}
use Rattle.yarn_tree.specs.Checks.{ids_within}
use Rattle.yarn_tree.proofs.checks.push_ids_within.Given as goal

abbrev pub invariant-loop-node : goal.invariant-loop-node
invariant-loop-node l = l.ids.items ++ ids_within l.file (drop l.node-index l.nodes) ≡ l.fn.ids.items ++ ids_within l.file l.nodes

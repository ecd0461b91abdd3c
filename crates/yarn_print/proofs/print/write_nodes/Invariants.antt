use Rattle.std.proofs.Common.{◌≡◌, ◌++◌, drop}
use Rattle.yarn_print.specs.Print.{nodes_text}
use Rattle.yarn_print.proofs.print.write_nodes.Given as goal

abbrev pub invariant-loop-node : goal.invariant-loop-node
invariant-loop-node l = l.out ++ nodes_text (drop l.node-index l.node-items) ≡ l.initial.out ++ nodes_text l.node-items

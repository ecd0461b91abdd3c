use Rattle.std.proofs.Common.{◌≡◌, drop}
use Rattle.yarn_check.specs.Pass.{first_of, look_node}
use Rattle.yarn_check.proofs.first_look.look_all.Given as goal

abbrev pub invariant-loop-node : goal.invariant-loop-node
invariant-loop-node l = first_of (look_node l.names) l.node (drop l.node l.nodes) ≡ first_of (look_node l.names) 0 l.names.nodes

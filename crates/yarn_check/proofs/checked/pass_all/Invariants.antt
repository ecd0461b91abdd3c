use Rattle.std.proofs.Common.{◌≡◌, drop}
use Rattle.yarn_check.specs.Pass.{first_of}
use Rattle.yarn_check.specs.Told.{pass_node}
use Rattle.yarn_check.proofs.checked.pass_all.Given as goal

abbrev pub invariant-loop-node : goal.invariant-loop-node
invariant-loop-node l = first_of (pass_node l.names) l.node (drop l.node l.nodes) ≡ first_of (pass_node l.names) 0 l.names.nodes

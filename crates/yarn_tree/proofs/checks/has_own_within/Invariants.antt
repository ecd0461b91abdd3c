use Rattle.std.proofs.Common.{◌≡◌, drop}
use Rattle.yarn_tree.specs.Checks.{own_within}
use Rattle.yarn_tree.proofs.checks.has_own_within.Given as goal

abbrev pub invariant-loop-node : goal.invariant-loop-node
invariant-loop-node l = own_within (drop l.node-index l.nodes) ≡ own_within l.nodes

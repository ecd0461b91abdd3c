use Rattle.std.proofs.Common.{◌≡◌, drop}
use Rattle.yarn_tree.specs.Checks.{extra_node}
use Rattle.yarn_tree.proofs.checks.extra_node_in.Given as goal

abbrev pub invariant-loop-read : goal.invariant-loop-read
invariant-loop-read l = extra_node l.left (drop l.read-index l.reads) ≡ extra_node 65536 l.reads

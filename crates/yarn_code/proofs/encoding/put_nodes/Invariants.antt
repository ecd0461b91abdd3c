use Rattle.std.proofs.Common.{length, All}
use Rattle.yarn_code.specs.declared.program.Program.{Program}
use Rattle.yarn_code.specs.Fields.{IsNodeField}
use Rattle.yarn_code.specs.Layout.{node}
use Rattle.yarn_code.specs.Writing.{HasWritten}
use Rattle.yarn_code.proofs.encoding.put_nodes.Given as goal

abbrev pub invariant-loop-node : goal.invariant-loop-node
invariant-loop-node l = (p : Program) → All (IsNodeField p) l.nodes → HasWritten (node (length p.files)) l.nodes l.node-index l.initial.out l.out

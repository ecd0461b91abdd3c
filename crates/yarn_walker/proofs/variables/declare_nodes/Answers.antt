use Rattle.std.proofs.Common.{arith}
use Rattle.std.proofs.lemmas.Grind.{common_steps}
use Rattle.yarn_walker.proofs.VariableLemmas.{with_missing-append}
use Rattle.yarn_walker.proofs.variables.declare_nodes.Goals as goal

pub loop-node-preserved : goal.loop-node-preserved
loop-node-preserved c = grind (arith, common_steps, with_missing-append)

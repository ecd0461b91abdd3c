use Rattle.std.proofs.Common.{arith}
use Rattle.std.proofs.lemmas.Grind.{common_steps}
use Rattle.yarn_walker.proofs.VariableLemmas.{with_missing-append}
use Rattle.yarn_walker.proofs.variables.declared.Goals as goal

pub loop-file-preserved : goal.loop-file-preserved
loop-file-preserved c = grind (arith, common_steps, with_missing-append)

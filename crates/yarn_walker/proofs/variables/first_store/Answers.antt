use Rattle.std.proofs.Common.{arith}
use Rattle.std.proofs.lemmas.Grind.{common_steps}
use Rattle.yarn_walker.proofs.VariableLemmas.{with_missing-more}
use Rattle.yarn_walker.proofs.variables.first_store.Goals as goal

pub loop-variable-preserved : goal.loop-variable-preserved
loop-variable-preserved c = grind (arith, common_steps, with_missing-more)

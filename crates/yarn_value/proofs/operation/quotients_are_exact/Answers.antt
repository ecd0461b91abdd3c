use Rattle.yarn_value.proofs.DivisionLemmas.{quotients_are_exact}
use Rattle.yarn_value.proofs.operation.quotients_are_exact.Goals as goal

pub returns : goal.returns
returns c = quotients_are_exact

use Rattle.yarn_check.proofs.Rebuilding.{parts_fit}
use Rattle.yarn_check.proofs.laws.parts_fit.Goals as goal

pub returns : goal.returns
returns c = parts_fit

use Rattle.yarn_check.proofs.Beginnings.{stores_begin}
use Rattle.yarn_check.proofs.laws.begun_stores_fit.Goals as goal

pub returns : goal.returns
returns c = stores_begin

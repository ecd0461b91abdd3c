use Rattle.yarn_code.proofs.ListedLemmas.{do_as_listed}
use Rattle.yarn_code.proofs.laws.instructions_do_as_listed.Goals as goal

pub returns : goal.returns
returns c = do_as_listed

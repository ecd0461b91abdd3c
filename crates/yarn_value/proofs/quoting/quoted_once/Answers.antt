use Rattle.yarn_value.proofs.QuotingLemmas.{quoted_once}
use Rattle.yarn_value.proofs.quoting.quoted_once.Goals as goal

pub returns : goal.returns
returns c = quoted_once

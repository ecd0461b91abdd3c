use Rattle.yarn_meaning.proofs.Prefix.{first_prefix}
use Rattle.yarn_meaning.proofs.laws.more_begins_with_fewer.Goals as goal

pub returns : goal.returns
returns c = first_prefix

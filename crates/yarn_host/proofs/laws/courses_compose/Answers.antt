use Rattle.yarn_host.proofs.TapeLemmas.{tells_append}
use Rattle.yarn_host.proofs.laws.courses_compose.Goals as goal

pub returns : goal.returns
returns c = tells_append

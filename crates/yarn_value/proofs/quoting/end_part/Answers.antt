use Rattle.std.proofs.Common.{arith}
use Rattle.std.proofs.lemmas.Bool.Decides.{nat_tests}
use Rattle.yarn_value.proofs.QuotingLemmas.{no_body-behind_end}
use Rattle.yarn_value.proofs.quoting.end_part.Goals as goal

pub returns-else-is_empty : goal.returns-else-is_empty
returns-else-is_empty c = no_body-behind_end c.args.text.now (grind (arith, nat_tests))

use Rattle.yarn_plural.specs.Tokens.{is_digit}
use Rattle.yarn_plural.proofs.ScanLemmas.{front-all}
use Rattle.yarn_plural.proofs.scan.first_value.Goals as goal

pub value-requires : goal.value-requires
value-requires c = rw c.first_run.ensures.front (front-all is_digit c.args.text.now)

use Rattle.yarn_plural.proofs.ScanLemmas.{IsReading}
use Rattle.yarn_plural.proofs.scan.value.Given as goal

abbrev pub invariant-loop-digit : goal.invariant-loop-digit
invariant-loop-digit l = IsReading l.digits l.digit-index l.number

use Rattle.std.proofs.Common.{length}
use Rattle.yarn_plural.proofs.ReadingLemmas.{IsReading}
use Rattle.yarn_plural.proofs.read.read_plural.Given as goal

abbrev pub invariant-loop-rest : goal.invariant-loop-rest
invariant-loop-rest l = IsReading l.bytes l.number l.rest l.reader

abbrev pub decreases-loop-rest : goal.decreases-loop-rest
decreases-loop-rest l = length l.rest

use Rattle.std.proofs.Common.{length}
use Rattle.yarn_store.proofs.ReadingLemmas.{IsReading}
use Rattle.yarn_store.proofs.read.read_vars.Given as goal

abbrev pub invariant-loop-rest : goal.invariant-loop-rest
invariant-loop-rest l = IsReading l.bytes l.store l.number l.rest

abbrev pub decreases-loop-rest : goal.decreases-loop-rest
decreases-loop-rest l = length l.rest

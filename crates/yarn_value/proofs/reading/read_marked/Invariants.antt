use Rattle.std.proofs.Common.{length}
use Rattle.yarn_value.proofs.ReadingLemmas.{IsReading}
use Rattle.yarn_value.proofs.reading.read_marked.Given as goal

abbrev pub invariant-loop-first : goal.invariant-loop-first
invariant-loop-first l = IsReading l.holes l.text l.rest l.builder.pieces l.builder.run l.counted.0 l.counted.1.0

abbrev pub decreases-loop-first : goal.decreases-loop-first
decreases-loop-first l = length l.rest

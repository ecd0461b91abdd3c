-- All but the rest is written, and the rest gets shorter.
use Rattle.std.proofs.Common.{length}
use Rattle.yarn_base.proofs.Written.{IsWritten}
use Rattle.yarn_base.proofs.outside.write_all.Given as goal

abbrev pub invariant-loop-rest : goal.invariant-loop-rest
invariant-loop-rest g l = IsWritten (g.S.Sink.written l.initial.sink) (g.S.Sink.written l.sink) (g.S.Sink.faults l.initial.sink) (g.S.Sink.faults l.sink) l.initial.rest l.rest

abbrev pub decreases-loop-rest : goal.decreases-loop-rest
decreases-loop-rest g l = length l.rest

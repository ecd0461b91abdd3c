-- The bytes so far are a front of the answer, and its scan is known.
use Rattle.yarn_code.proofs.Reading.{IsReading}
use Rattle.yarn_code.proofs.answer.take_answer.Given as goal

abbrev pub invariant-loop-count : goal.invariant-loop-count
invariant-loop-count g l = IsReading (g.I.Source.left l.initial.input) (g.I.Source.left l.input) (g.I.Source.faults l.initial.input) (g.I.Source.faults l.input) l.count l.scan

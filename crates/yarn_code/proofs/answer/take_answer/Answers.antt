-- Each turn takes one byte more, and each way out is an answer.
use Rattle.std.proofs.Common.{◌<◌, subst, arith}
use Rattle.std.specs.Io.KnownBytes.{IsAtEnd}
use Rattle.yarn_code.proofs.Reading.{IsReading-start, IsReading-step, IsReading-lf, IsReading-none, IsReading-end, IsReading-full}
use Rattle.yarn_code.proofs.answer.take_answer.Goals as goal

pub loop-count-init : goal.loop-count-init
loop-count-init g c = IsReading-start _ _

pub returns-in-Byte-eq10-clause-ok : goal.returns-in-Byte-eq10-clause-ok
returns-in-Byte-eq10-clause-ok g c =
    rw c.number.ensures (IsReading-lf _ _ _ _ _ _ _ _ c.loop-count.invariant c.loop-count-test.true c.in-Byte-eq10.field-0-test c.in-Byte-eq10.ensures.bytes)

pub returns-in-End-clause-ok : goal.returns-in-End-clause-ok
returns-in-End-clause-ok g c =
    let ended = c.in-End.ensures.bytes in
    rw ended.0 (IsReading-none _ _ _ _ _ _ c.loop-count.invariant c.if-count-eq0.true (subst IsAtEnd ended.0 ended.1))

pub returns-in-End-2-clause-ok : goal.returns-in-End-2-clause-ok
returns-in-End-2-clause-ok g c =
    let ended = c.in-End-2.ensures.bytes in
    let some : 0 < c.loop-count.count = omega (arith, c.if-count-eq0.false) in
    rw (c.number-in-End-2.ensures, ended.0) (IsReading-end _ _ _ _ _ _ c.loop-count.invariant some (subst IsAtEnd ended.0 ended.1))

pub loop-count-preserved : goal.loop-count-preserved
loop-count-preserved g c =
    IsReading-step _ _ _ _ _ _ _ _ _ _ c.loop-count.invariant c.loop-count-test.true c.in-Byte.byte-test.1 c.in-Byte.ensures.bytes c.next_byte.ensures.count
    c.after-scan.ensures.next c.after-scan.ensures.fits

pub returns-clause-ok : goal.returns-clause-ok
returns-clause-ok g c = rw c.number-2.ensures (IsReading-full _ _ _ _ _ _ c.loop-count.invariant (omega (arith, c.loop-count-test.false)))

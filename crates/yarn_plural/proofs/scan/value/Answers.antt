use Rattle.std.proofs.Common.{arith, get_or}
use Rattle.yarn_plural.proofs.ScanLemmas.{number-small, reading-digit, digit-bounds, IsReading-step}
use Rattle.yarn_plural.proofs.scan.value.Goals as goal

pub overflow_mul-number : goal.overflow_mul-number
overflow_mul-number c =
    let l = c.loop-digit in
    let small = number-small c.args.digits.now l.digit-index l.number c.loop-digit-test.true c.if-digits-gt-MOST_DIGITS.false l.invariant in
    omega (arith, small)

pub overflow_sub-digit : goal.overflow_sub-digit
overflow_sub-digit c =
    let l = c.loop-digit in
    let ds = c.args.digits.now in
    (digit-bounds (get_or ds l.digit-index 0) (reading-digit ds l.digit-index l.number c.loop-digit-test.true l.invariant)).0

pub overflow_add-number : goal.overflow_add-number
overflow_add-number c =
    let l = c.loop-digit in
    let ds = c.args.digits.now in
    let small = number-small ds l.digit-index l.number c.loop-digit-test.true c.if-digits-gt-MOST_DIGITS.false l.invariant in
    let bounds = digit-bounds (get_or ds l.digit-index 0) (reading-digit ds l.digit-index l.number c.loop-digit-test.true l.invariant) in
    omega (arith, small, bounds, c.from.ensures)

pub loop-digit-preserved : goal.loop-digit-preserved
loop-digit-preserved c =
    let l = c.loop-digit in
    let step = IsReading-step c.args.digits.now l.digit-index l.number c.loop-digit-test.true l.invariant in
    rw c.from.ensures step

-- One more digit fits.
use Rattle.std.proofs.Common.{◌≤◌, sym, ◌∙◌, arith}
use Rattle.yarn_code.proofs.Scanning.{small_value, small_digit, one_more_digit}
use Rattle.yarn_code.proofs.scan.with_digit.Goals as goal

pub overflow_mul-result : goal.overflow_mul-result
overflow_mul-result c = omega (arith, small_value _ _ c.requires.value c.if-count-lt-MAX_DIGITS.true)

pub overflow_add-result : goal.overflow_add-result
overflow_add-result c = omega (arith, small_value _ _ c.requires.value c.if-count-lt-MAX_DIGITS.true, c.from.ensures, c.ranges.byte.fits)

pub returns-then-count-lt-MAX_DIGITS-clause-fits : goal.returns-then-count-lt-MAX_DIGITS-clause-fits
returns-then-count-lt-MAX_DIGITS-clause-fits c =
    let digit : c.from.result ≤ 9 = rw c.from.ensures (small_digit _ (sym c.is_digit.ensures ∙ c.if-is_digit.true)) in
    (one_more_digit _ _ _ c.requires.value digit, omega (arith, c.if-count-lt-MAX_DIGITS.true))

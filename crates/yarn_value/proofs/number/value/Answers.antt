use Rattle.std.proofs.Common.{◌^◌}
use Rattle.yarn_value.proofs.NumberLemmas.{value_after-large}
use Rattle.yarn_value.proofs.number.value.Goals as goal

pub returns-in-None : goal.returns-in-None
returns-in-None c =
    let large = value_after-large (2 ^ 64) c.loop-digit.value c.loop-digit.digit-index c.args.digits.now c.loop-digit-test.true c.in-None.ensures in
    rw c.loop-digit.invariant large

use Rattle.std.proofs.Common.{◌≡◌, drop}
use Rattle.yarn_value.specs.Numbers.{value_after}
use Rattle.yarn_value.proofs.number.value.Given as goal

abbrev pub invariant-loop-digit : goal.invariant-loop-digit
invariant-loop-digit l = value_after 0 l.digits ≡ value_after l.value (drop l.digit-index l.digits)

use Rattle.std.proofs.Common.{◌≡◌, drop}
use Rattle.yarn_check.specs.Missing.{is_given}
use Rattle.yarn_check.proofs.missing.is_given.Given as goal

abbrev pub invariant-loop-other : goal.invariant-loop-other
invariant-loop-other l = is_given l.function (drop l.other-index l.given) ≡ is_given l.function l.given

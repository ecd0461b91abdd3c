use Rattle.std.proofs.Common.{◌≡◌, drop}
use Rattle.yarn_check.specs.Missing.{first_lacking}
use Rattle.yarn_check.proofs.missing.first_missing.Given as goal

abbrev pub invariant-loop-function : goal.invariant-loop-function
invariant-loop-function l = first_lacking (drop l.function-index l.functions) l.given ≡ first_lacking l.functions l.given

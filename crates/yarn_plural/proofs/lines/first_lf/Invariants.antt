use Rattle.std.proofs.Common.{◌≡◌, ◌+◌, drop}
use Rattle.yarn_plural.specs.Steps.{length_to_lf}
use Rattle.yarn_plural.proofs.lines.first_lf.Given as goal

abbrev pub invariant-loop-at : goal.invariant-loop-at
invariant-loop-at l = length_to_lf l.bytes ≡ l.at + length_to_lf (drop l.at l.bytes)

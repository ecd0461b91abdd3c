use Rattle.std.proofs.Common.{◌≡◌, ◌+◌, drop}
use Rattle.yarn_store.specs.Steps.{length_to_lf}
use Rattle.yarn_store.proofs.line.first_lf.Given as goal

abbrev pub invariant-loop-at : goal.invariant-loop-at
invariant-loop-at l = length_to_lf l.bytes ≡ l.at + length_to_lf (drop l.at l.bytes)

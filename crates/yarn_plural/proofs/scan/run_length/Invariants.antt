use Rattle.std.proofs.Common.{◌≡◌, ◌+◌, length, drop}
use Rattle.yarn_plural.specs.Tokens.{front}
use Rattle.yarn_plural.specs.Steps.{in_run}
use Rattle.yarn_plural.proofs.scan.run_length.Given as goal

abbrev pub invariant-loop-at : goal.invariant-loop-at
invariant-loop-at l = length (front (in_run l.run) l.text) ≡ l.at + length (front (in_run l.run) (drop l.at l.text))

use Rattle.std.proofs.Common.{◌≡◌, ℕ, ◌<◌, length}
use Rattle.yarn_types.specs.Labels.{nth}
use Rattle.yarn_types.proofs.label.numbers.Given as goal

abbrev pub invariant-loop-number : goal.invariant-loop-number
invariant-loop-number l = record {
  long : length l.numbers.items ≡ l.number;
  each : (v : ℕ) → v < l.number → nth l.numbers.items v ≡ v;
}

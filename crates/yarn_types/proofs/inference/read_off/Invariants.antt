use Rattle.std.proofs.Common.{◌≡◌, ℕ, ◌<◌, length, map, take, Some}
use Rattle.yarn_types.specs.KindSets.{lone}
use Rattle.yarn_types.specs.Sets.{set_at}
use Rattle.yarn_types.specs.Typings.{kind_at, kinds_in, names_in_entries}
use Rattle.yarn_types.specs.Classes.{label_of}
use Rattle.yarn_types.proofs.inference.read_off.Given as goal

abbrev pub invariant-loop-variable : goal.invariant-loop-variable
invariant-loop-variable l = record {
  long : length l.entries ≡ l.variable;
  each : (v : ℕ) → v < l.variable → lone (set_at l.classes.kinds (label_of l.classes v)) ≡ Some (kind_at (kinds_in l.entries) v);
  named : names_in_entries l.entries ≡ map (λ first. first.name.now) (take l.variable l.firsts);
}

use Rattle.std.proofs.Common.{◌≤◌, ◌+◌, ◌*◌, drop, take, map}
use Rattle.yarn_types.specs.Classes.{Narrows}
use Rattle.yarn_types.specs.Founds.{units_under}
use Rattle.yarn_types.specs.Units.{unit_of, units_size}
use Rattle.yarn_types.proofs.asking.keep_units.Given as goal

abbrev pub invariant-loop-unit : goal.invariant-loop-unit
invariant-loop-unit g l = record {
  so_far : Narrows l.fn.classes l.classes (units_under l.scope (take l.unit-index (map unit_of l.units)));
  steps : l.steps + 16 * units_size (drop l.unit-index (map unit_of l.units)) ≤ l.fn.steps + 16 * units_size (map unit_of l.units);
}

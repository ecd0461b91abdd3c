use Rattle.std.proofs.Common.{◌≡◌, [], drop, map}
use Rattle.std.specs.List.{flat_map}
use Rattle.yarn_types.specs.Names.{with_all}
use Rattle.yarn_types.specs.Units.{unit_of, appearances_in}
use Rattle.yarn_types.proofs.collection.variables.Given as goal

abbrev pub invariant-loop-unit : goal.invariant-loop-unit
invariant-loop-unit l = with_all l.names (flat_map appearances_in (drop l.unit-index (map unit_of l.units))) ≡ with_all [] (flat_map appearances_in (map unit_of l.units))

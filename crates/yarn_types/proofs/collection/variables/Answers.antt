use Rattle.std.proofs.Common.{ap, sym, ◌∙◌, ◌+◌, drop, map}
use Rattle.std.specs.List.{flat_map}
use Rattle.yarn_types.specs.Names.{with_all}
use Rattle.yarn_types.specs.Units.{unit_of, appearances_in}
use Rattle.yarn_types.proofs.NameLemmas.{units_on}
use Rattle.yarn_types.proofs.collection.variables.Goals as goal

pub loop-unit-preserved : goal.loop-unit-preserved
loop-unit-preserved c =
    ap (λ known. with_all known (flat_map appearances_in (drop (c.loop-unit.unit-index + 1) (map unit_of c.args.units.now)))) c.in_ok-names.ensures
    ∙ sym (units_on c.args.units.now c.loop-unit.unit-index c.unit-item.result c.loop-unit.names c.loop-unit-test.true c.unit-item.is) ∙ c.loop-unit.invariant

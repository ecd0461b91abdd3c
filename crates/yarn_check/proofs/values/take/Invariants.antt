use Rattle.std.proofs.Common.{◌≡◌, [], List, map, reverse, ◌-◌}
use Rattle.yarn_check.specs.Shapes as spec
use Rattle.yarn_value.specs.declared.value.Kind.{Kind}
use Rattle.yarn_check.specs.Views.{entry_of}
use Rattle.yarn_check.proofs.values.take.Given as goal

abbrev pub invariant-loop : goal.invariant-loop
invariant-loop l = (go : List Kind → List spec.ShapeEntry → spec.Flow) → spec.take_kinds l.count [] (reverse (map entry_of l.fn.entries.items)) go ≡ spec.take_kinds (l.count - l.counter) (reverse l.kinds.items) (reverse (map entry_of l.entries.items)) go

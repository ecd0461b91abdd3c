-- The variables of a project as a list of pairs.
use Rattle.std.specs.Prelude.{List, map}
use Rattle.yarn_value.specs.Pairs.{Pairs}
use Rattle.yarn_walker.specs.declared.variables.Variable.{Variable}

abbrev pub pairs_of : List Variable → Pairs
pairs_of = map (λ v. (v.name, v.value))

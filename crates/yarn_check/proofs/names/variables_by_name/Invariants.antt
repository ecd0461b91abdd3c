use Rattle.yarn_check.specs.NameMaps.{variable_name}
use Rattle.yarn_check.proofs.NameLemmas.{FindsRest}
use Rattle.yarn_check.proofs.names.variables_by_name.Given as goal

abbrev pub invariant-loop-variable : goal.invariant-loop-variable
invariant-loop-variable l = FindsRest variable_name l.first l.variables l.variable-iterator.iter.rest.now

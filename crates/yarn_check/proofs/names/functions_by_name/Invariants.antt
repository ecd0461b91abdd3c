use Rattle.yarn_check.specs.NameMaps.{function_name}
use Rattle.yarn_check.proofs.NameLemmas.{FindsRest}
use Rattle.yarn_check.proofs.names.functions_by_name.Given as goal

abbrev pub invariant-loop-function : goal.invariant-loop-function
invariant-loop-function l = FindsRest function_name l.first l.functions l.function-iterator.iter.rest.now

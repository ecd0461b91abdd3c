use Rattle.yarn_check.specs.NameMaps.{variable_name}
use Rattle.yarn_check.proofs.NameLemmas.{rest_step, rest_all}
use Rattle.yarn_check.proofs.names.variables_by_name.Goals as goal

pub loop-variable-preserved : goal.loop-variable-preserved
loop-variable-preserved c =
    rest_step variable_name c.loop-variable.first c.insert.new.self c.as_str.result c.in-Some.variable c.args.variables.now
    c.loop-variable.variable-iterator.iter.rest.now c.next.new.self.iter.rest.now c.loop-variable.invariant c.in-Some.ensures.steps c.as_str.ensures.value c.in_ok-insert.ensures.updates

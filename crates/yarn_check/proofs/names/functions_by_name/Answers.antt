use Rattle.yarn_check.specs.NameMaps.{function_name}
use Rattle.yarn_check.proofs.NameLemmas.{rest_step, rest_all}
use Rattle.yarn_check.proofs.names.functions_by_name.Goals as goal

pub loop-function-preserved : goal.loop-function-preserved
loop-function-preserved c =
    rest_step function_name c.loop-function.first c.insert.new.self c.as_str.result c.in-Some.function c.args.functions.now
    c.loop-function.function-iterator.iter.rest.now c.next.new.self.iter.rest.now c.loop-function.invariant c.in-Some.ensures.steps c.as_str.ensures.value c.in_ok-insert.ensures.updates

use Rattle.yarn_types.proofs.FunctionLemmas.{rest_step, rest_all}
use Rattle.yarn_types.proofs.function.Functions.new.Goals as goal

pub loop-signature-preserved : goal.loop-signature-preserved
loop-signature-preserved c =
    rest_step c.loop-signature.first c.insert.new.self c.as_str.result c.in-Some.signature c.args.signatures.now
    c.loop-signature.signature-iterator.iter.rest.now c.next.new.self.iter.rest.now c.loop-signature.invariant c.in-Some.ensures.steps c.as_str.ensures.value c.in_ok-insert.ensures.updates

pub invariant_of-result : goal.invariant_of-result
invariant_of-result c = rest_all c.loop-signature.first c.args.signatures.now c.loop-signature.signature-iterator.iter.rest.now c.loop-signature.invariant c.in-None.ensures.steps.0

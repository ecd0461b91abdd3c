use Rattle.yarn_tree.proofs.FunctionLemmas.{arity_step, arity_all}
use Rattle.yarn_tree.proofs.functions.Functions.new.Goals as goal

pub loop-signature-preserved : goal.loop-signature-preserved
loop-signature-preserved c =
    arity_step c.loop-signature.arities c.insert.new.self c.as_str.result c.len.result c.in-Some.signature c.args.signatures.now
    c.loop-signature.signature-iterator.iter.rest.now c.next.new.self.iter.rest.now c.loop-signature.invariant c.in-Some.ensures.steps c.as_str.ensures.value
    c.len.ensures c.in_ok-insert.ensures.updates

pub invariant_of-result : goal.invariant_of-result
invariant_of-result c = arity_all c.loop-signature.arities c.args.signatures.now c.loop-signature.signature-iterator.iter.rest.now c.loop-signature.invariant c.in-None.ensures.steps.0

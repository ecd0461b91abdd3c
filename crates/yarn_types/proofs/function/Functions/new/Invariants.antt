use Rattle.yarn_types.proofs.FunctionLemmas.{FindsRest}
use Rattle.yarn_types.proofs.function.Functions.new.Given as goal

abbrev pub invariant-loop-signature : goal.invariant-loop-signature
invariant-loop-signature l = FindsRest l.first l.signatures l.signature-iterator.iter.rest.now

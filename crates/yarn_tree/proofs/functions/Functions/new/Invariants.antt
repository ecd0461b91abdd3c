use Rattle.yarn_tree.proofs.FunctionLemmas.{ArityRest}
use Rattle.yarn_tree.proofs.functions.Functions.new.Given as goal

abbrev pub invariant-loop-signature : goal.invariant-loop-signature
invariant-loop-signature l = ArityRest l.arities l.signatures l.signature-iterator.iter.rest.now

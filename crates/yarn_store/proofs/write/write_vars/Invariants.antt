use Rattle.yarn_store.proofs.WritingLemmas.{IsWriting}
use Rattle.yarn_store.proofs.write.write_vars.Given as goal

abbrev pub invariant-loop-at : goal.invariant-loop-at
invariant-loop-at l = IsWriting l.store l.bytes l.at

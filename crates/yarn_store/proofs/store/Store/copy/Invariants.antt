use Rattle.std.proofs.Common.{◌≡◌, take}
use Rattle.yarn_store.proofs.store.Store.copy.Given as goal

abbrev pub invariant-loop-at : goal.invariant-loop-at
invariant-loop-at l = l.copy ≡ take l.at l.self

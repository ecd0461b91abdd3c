use Rattle.std.proofs.Common.{subst}
use Rattle.yarn_store.specs.Pairs.{IsStore}
use Rattle.yarn_store.proofs.PairLemmas.{store_of}
use Rattle.yarn_store.proofs.store.Store.len.Goals as goal

pub returns-clause-store : goal.returns-clause-store
returns-clause-store c = subst IsStore c.self.view_is (store_of c.self.inside.pairs.entries c.len.ensures.unique c.self.invariant)

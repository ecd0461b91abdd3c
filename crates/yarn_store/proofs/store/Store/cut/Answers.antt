use Rattle.std.proofs.lemmas.List.Elements.{All-take}
use Rattle.yarn_store.specs.Pairs.{IsPair}
use Rattle.yarn_store.proofs.PairLemmas.{store_of}
use Rattle.yarn_store.proofs.store.Store.cut.Goals as goal

pub returns-clause-store : goal.returns-clause-store
returns-clause-store c = store_of c.truncate.new.self.entries c.truncate.ensures.unique (rw c.truncate.ensures.entries (All-take (λ p. IsPair p.0 p.1) c.args.count c.self.inside.pairs.entries c.self.invariant))

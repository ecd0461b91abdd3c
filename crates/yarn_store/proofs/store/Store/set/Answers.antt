use Rattle.std.proofs.Common.{ap, sym, ◌∙◌}
use Rattle.yarn_value.specs.Pairs.{value_under, put}
use Rattle.yarn_store.proofs.PairLemmas.{store_of, put-insert_entry, All-put, value_under-lookup}
use Rattle.yarn_store.proofs.store.Store.set.Goals as goal

pub returns-in-Err-clause-only_of_a_new_name : goal.returns-in-Err-clause-only_of_a_new_name
returns-in-Err-clause-only_of_a_new_name c =
    ap (λ ps. value_under ps c.args.name) (sym c.self.view_is) ∙ sym (value_under-lookup c.self.inside.pairs.entries c.args.name) ∙ c.in-Err.ensures.absent

pub returns-in-Err-clause-store : goal.returns-in-Err-clause-store
returns-in-Err-clause-store c = store_of c.insert.new.self.entries c.insert.ensures.unique (rw c.in-Err.ensures.err c.self.invariant)

pub invariant_of-self-2 : goal.invariant_of-self-2
invariant_of-self-2 c =
    rw (c.in-Ok.ensures.entries, put-insert_entry c.self.inside.pairs.entries c.args.name c.args.value)
    (All-put c.self.inside.pairs.entries c.args.name c.args.value c.self.invariant c.requires.short (λ _. c.requires))

pub returns-clause-ok : goal.returns-clause-ok
returns-clause-ok c =
    c.in-Ok.ensures.entries ∙ put-insert_entry c.self.inside.pairs.entries c.args.name c.args.value ∙ ap (λ ps. put ps c.args.name c.args.value) c.self.view_is

pub returns-clause-store : goal.returns-clause-store
returns-clause-store c =
    store_of c.insert.new.self.entries c.insert.ensures.unique
    (rw (c.in-Ok.ensures.entries, put-insert_entry c.self.inside.pairs.entries c.args.name c.args.value)
    (All-put c.self.inside.pairs.entries c.args.name c.args.value c.self.invariant c.requires.short (λ _. c.requires)))

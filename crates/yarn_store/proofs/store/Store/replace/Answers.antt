use Rattle.std.proofs.Common.{Some, ap, sym, ◌∙◌, subst}
use Rattle.std.specs.Prelude.{IsSome}
use Rattle.yarn_value.specs.Values.{IsShort}
use Rattle.yarn_value.specs.Pairs.{value_under, put}
use Rattle.yarn_store.proofs.PairLemmas.{put-set_value_at, All-set, store-set, value_under-lookup, there_not_found}
use Rattle.yarn_store.proofs.store.Store.replace.Goals as goal

pub invariant_of-self : goal.invariant_of-self
invariant_of-self c =
    All-set c.self.inside.pairs.entries c.args.name.now c.replace.new.dest c.in-Some.at (sym c.in-Some.ensures.index)
    (subst (λ l. IsSome (value_under l c.args.name.now)) (sym c.self.view_is) c.requires.there)
    (subst IsShort (sym c.replace.ensures.after) c.requires.short) c.self.invariant

pub unreachable-requires : goal.unreachable-requires
unreachable-requires c =
    there_not_found c.self.inside.pairs.entries c.args.name.now (sym c.in-None.ensures.found)
    (subst (λ l. IsSome (value_under l c.args.name.now)) (sym c.self.view_is) c.requires.there)

pub returns-clause-old : goal.returns-clause-old
returns-clause-old c =
    ap Some c.replace.ensures.value ∙ sym c.index_mut.ensures.value ∙ c.in-Some.ensures.value
    ∙ value_under-lookup c.self.inside.pairs.entries c.args.name.now ∙ ap (λ ps. value_under ps c.args.name.now) c.self.view_is

pub returns-clause-new : goal.returns-clause-new
returns-clause-new c =
    put-set_value_at c.self.inside.pairs.entries c.args.name.now c.replace.new.dest c.in-Some.at (sym c.in-Some.ensures.index)
    ∙ ap (λ v. put c.self.inside.pairs.entries c.args.name.now v) c.replace.ensures.after
    ∙ ap (λ ps. put ps c.args.name.now c.args.value) c.self.view_is

pub returns-clause-store : goal.returns-clause-store
returns-clause-store c =
    store-set c.self.inside.pairs.entries c.args.name.now c.replace.new.dest c.in-Some.at (sym c.in-Some.ensures.index)
    (subst (λ l. IsSome (value_under l c.args.name.now)) (sym c.self.view_is) c.requires.there)
    (subst IsShort (sym c.replace.ensures.after) c.requires.short) c.self.invariant c.in-Some.ensures.unique

use Rattle.std.proofs.Common.{◌≡◌, ◌<◌, sym, ap, ◌∙◌, subst, arith}
use Rattle.std.proofs.lemmas.List.{length-map}
use Rattle.yarn_types.specs.declared.typed.TypedName.{TypedName}
use Rattle.yarn_types.specs.KindSets.{lone}
use Rattle.yarn_types.specs.Classes.{count_of}
use Rattle.yarn_types.specs.Typings.{kinds_in}
use Rattle.yarn_types.proofs.InferLemmas.{alone, open_at, opens_at, entries_long, entries_each, entries_named}
use Rattle.yarn_types.proofs.inference.read_off.Goals as goal

pub returns-in-None-clause-err : goal.returns-in-None-clause-err
returns-in-None-clause-err c =
    opens_at c.args.classes.now c.args.firsts.now c.loop-variable.variable c.index-firsts-variable.result c.in_ok-copy-in-None.field-0 c.loop-variable-test.true c.index-firsts-variable.is c.in_ok-copy-in-None.ensures
    (open_at c.args.classes.now c.requires.stands (kinds_in c.loop-variable.entries) c.loop-variable.variable (subst (λ n. c.loop-variable.variable < n) c.requires.counted c.loop-variable-test.true)
    (ap lone (sym c.set_of.ensures) ∙ sym c.lone.ensures ∙ c.in-None.is) c.loop-variable.invariant.each)

pub loop-variable-preserved : goal.loop-variable-preserved
loop-variable-preserved c =
    let entry : TypedName = record { name = c.in_ok-name-in-Some.name; kind = c.in-Some.kind } in
    record {
      long = entries_long c.args.classes.now c.args.firsts.now c.loop-variable.entries c.push.new.self entry c.loop-variable.variable c.index-firsts-variable.result c.in-Ok.ensures.ok c.loop-variable.invariant.long;
      each = entries_each c.args.classes.now c.args.firsts.now c.loop-variable.entries c.push.new.self entry c.loop-variable.variable c.index-firsts-variable.result c.in-Ok.ensures.ok c.loop-variable.invariant.long
          (ap lone (sym c.set_of.ensures) ∙ sym c.lone.ensures ∙ c.in-Some.is) c.loop-variable.invariant.each;
      named = entries_named c.args.classes.now c.args.firsts.now c.loop-variable.entries c.push.new.self entry c.loop-variable.variable c.index-firsts-variable.result c.in-Ok.ensures.ok c.loop-variable.invariant.long
          c.loop-variable-test.true c.index-firsts-variable.is c.in_ok-name-in-Some.ensures c.loop-variable.invariant.named;
    }

pub returns-clause-ok : goal.returns-clause-ok
returns-clause-ok c =
    let all : c.loop-variable.variable ≡ count_of c.args.classes.now = omega (arith, c.loop-variable-test.false, c.loop-variable.auto.variable-end, c.requires.counted) in
    alone c.args.classes.now c.requires.stands (kinds_in c.loop-variable.entries) (length-map c.loop-variable.entries (λ e. e.kind) ∙ c.loop-variable.invariant.long ∙ all) (λ v l. c.loop-variable.invariant.each v (subst (λ n. v < n) (sym all) l))

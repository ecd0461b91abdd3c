use Rattle.std.proofs.Common.{◌-◌, ◌+◌, ◌∙◌, ◌<◌, length, sym, subst}
use Rattle.std.proofs.lemmas.Grind.{get_or_default_zero}
use Rattle.std.proofs.lemmas.List.{length-set}
use Rattle.yarn_types.specs.Labels.{nth, walk}
use Rattle.yarn_types.proofs.LabelLemmas.{walk_step, below_first, below_rest, relabelled_rest}
use Rattle.yarn_types.proofs.label.relabel.Goals as goal

pub loop-preserved : goal.loop-preserved
loop-preserved c =
    rw (c.index-one.ensures ∙ get_or_default_zero c.args.next.now.items c.loop.one c.index-one.result.now
    (subst (λ n. c.loop.one < n) (sym c.requires.long) (below_first (length c.args.labels.now.items) c.loop.one (walk c.args.next.now.items (nth c.args.next.now.items c.loop.one) (c.args.count - (c.loop.counter + 1))) (walk c.args.next.now.items c.loop.one (c.args.count - c.loop.counter))
    (walk_step c.args.next.now.items c.loop.one c.args.count c.loop.counter c.loop-test.true) c.loop.invariant.inside))) (record {
      long = length-set c.loop.labels.items c.loop.one c.args.label ∙ c.loop.invariant.long;
      inside = below_rest (length c.args.labels.now.items) c.loop.one (walk c.args.next.now.items (nth c.args.next.now.items c.loop.one) (c.args.count - (c.loop.counter + 1))) (walk c.args.next.now.items c.loop.one (c.args.count - c.loop.counter))
          (walk_step c.args.next.now.items c.loop.one c.args.count c.loop.counter c.loop-test.true) c.loop.invariant.inside;
      whole = relabelled_rest c.loop.labels.items c.args.label c.loop.one (walk c.args.next.now.items (nth c.args.next.now.items c.loop.one) (c.args.count - (c.loop.counter + 1))) (walk c.args.next.now.items c.loop.one (c.args.count - c.loop.counter))
          (walk_step c.args.next.now.items c.loop.one c.args.count c.loop.counter c.loop-test.true) ∙ c.loop.invariant.whole;
    })

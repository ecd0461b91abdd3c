use Rattle.std.proofs.Common.{◌∙◌, sym, ap, subst, All, length, arith}
use Rattle.std.proofs.lemmas.List.Elements.{All-tail}
use Rattle.yarn_tree.specs.Splits.{IsSmall}
use Rattle.yarn_tree.specs.Splitter.{splits_on}
use Rattle.yarn_tree.proofs.SplitLemmas.{fault-first}
use Rattle.yarn_tree.proofs.split.split_all.Goals as goal

pub loop-source-preserved : goal.loop-source-preserved
loop-source-preserved c =
    let cut = c.in-Some.ensures.steps.0 in
    let rest = c.next.new.self.rest.items in
    record {
      same = sym (c.in_default.ensures.on rest) ∙ ap (splits_on c.loop-source.splitter) (sym cut) ∙ c.loop-source.invariant.same;
      count = omega (arith, c.in_default.ensures.number, ap length cut, c.loop-source.invariant.count);
      small = All-tail IsSmall c.in-Some.source rest (subst (All IsSmall) cut c.loop-source.invariant.small);
    }

pub returns-in-Err : goal.returns-in-Err
returns-in-Err c =
    fault-first c.args.sources.items c.loop-source.source-iterator.rest.items c.next.new.self.rest.items c.loop-source.splitter c.in-Some.source c.in-Err.fault
    c.in-Some.ensures.steps.0 c.loop-source.invariant.same c.in-Err.ensures.on

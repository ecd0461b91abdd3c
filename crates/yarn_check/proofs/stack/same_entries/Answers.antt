use Rattle.std.proofs.Common.{◌≡◌, true, false, sym, ◌∙◌, map}
use Rattle.std.specs.Cmp.Lexicographic.{pointwise}
use Rattle.yarn_check.specs.Pass.{same_entry}
use Rattle.yarn_check.specs.Views.{entry_of}
use Rattle.yarn_check.proofs.CellLists.{fails_at, goes_at}
use Rattle.yarn_check.proofs.stack.same_entries.Goals as goal

pub returns-then-not-is_same : goal.returns-then-not-is_same
returns-then-not-is_same c =
    let f : c.is_same.result ≡ false = c.if-not-is_same.true in
    fails_at entry_of same_entry c.args.a.now c.args.b.now c.loop-at.at c.index-a-at.result c.index-b-at.result c.loop-at.invariant.long c.loop-at-test.true c.index-a-at.is c.index-b-at.is (pointwise same_entry (map entry_of c.args.a.now) (map entry_of c.args.b.now)) c.loop-at.invariant.rest (sym c.is_same.ensures ∙ f)

pub loop-at-preserved : goal.loop-at-preserved
loop-at-preserved c =
    let f : c.is_same.result ≡ true = c.if-not-is_same.false in
    record {
      long = c.loop-at.invariant.long;
      rest = goes_at entry_of same_entry c.args.a.now c.args.b.now c.loop-at.at c.index-a-at.result c.index-b-at.result c.loop-at.invariant.long c.loop-at-test.true c.index-a-at.is c.index-b-at.is (pointwise same_entry (map entry_of c.args.a.now) (map entry_of c.args.b.now)) c.loop-at.invariant.rest (sym c.is_same.ensures ∙ f);
    }

use Rattle.std.proofs.Common.{ℕ, ◌≤◌, arith}
use Rattle.yarn_tag.specs.Sets.{has}
use Rattle.yarn_tag.proofs.TagLemmas.{skipped-more}
use Rattle.yarn_tag.proofs.tagger.next_free.Goals as goal

pub loop-number-preserved : goal.loop-number-preserved
loop-number-preserved c = record {
  rises = omega (arith, c.loop-number.invariant.rises);
  skipped = skipped-more (has c.args.taken.now) c.args.next c.loop-number.number c.loop-number.invariant.skipped (let h = c.in_ok-is_taken.ensures in let k = c.if-not-branch.false in cc);
}

pub returns : goal.returns
returns c = λ (m : ℕ) (from : c.args.next ≤ m) (to : m ≤ 268435455). c.loop-number.invariant.skipped m from (let h = c.loop-number-test.false in omega arith)

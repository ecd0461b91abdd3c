use Rattle.std.proofs.Common.{sym, ◌∙◌, arith}
use Rattle.yarn_items.proofs.RunLemmas.{chars-goes}
use Rattle.yarn_items.proofs.run.chars_length_in.Goals as goal

pub loop-at-preserved : goal.loop-at-preserved
loop-at-preserved c = (
  chars-goes c.args.bytes.now c.loop-at.at c.loop-at-test.true (sym c.is_char_in.ensures ∙ c.if-not-is_char_in.false) c.loop-at.invariant.0,
  omega (arith, c.loop-at-test.true),
)

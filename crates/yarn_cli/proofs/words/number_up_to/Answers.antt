use Rattle.std.proofs.Common.{◌∙◌}
use Rattle.yarn_cli.proofs.WordsLemmas.{too_large}
use Rattle.yarn_cli.proofs.words.number_up_to.Goals as goal

pub returns-then-more-from : goal.returns-then-more-from
returns-then-more-from c =
    too_large c.args.digits.now c.loop-byte.byte-index c.loop-byte.number c.from-in-loop-byte.result c.args.most c.loop-byte-test.true c.loop-byte.invariant.0
    (c.from-in-loop-byte.ensures ∙ c.saturating_sub.ensures) (rw (c.from.ensures, c.from-in-loop-byte-2.ensures) at c.if-more-from.true)

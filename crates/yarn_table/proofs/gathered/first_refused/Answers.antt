use Rattle.std.proofs.Common.{◌∙◌, ◌+◌, arith, sym}
use Rattle.yarn_table.proofs.HeldLemmas.{refused-passed, refused-end}
use Rattle.yarn_table.proofs.gathered.first_refused.Goals as goal

pub loop-at-preserved : goal.loop-at-preserved
loop-at-preserved c =
    c.loop-at.invariant
    ∙ refused-passed c.args.ids.now c.args.held.now c.loop-at.at (c.loop-at.at + 1) c.index-held-at.result (omega arith) c.loop-at-test.true c.index-held-at.is c.in_default.not-Refused

pub returns : goal.returns
returns c = sym (c.loop-at.invariant ∙ refused-end c.args.ids.now c.args.held.now c.loop-at.at c.loop-at-test.false)

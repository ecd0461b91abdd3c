use Rattle.std.proofs.Common.{sym, ◌∙◌}
use Rattle.yarn_blocks.proofs.FrameLemmas.{closed-shorter}
use Rattle.yarn_blocks.proofs.reading.Reading.settle.Goals as goal

pub loop-reading-smaller : goal.loop-reading-smaller
loop-reading-smaller c =
    closed-shorter c.args.indent c.loop-reading.reading c.in_ok-reading.reading (sym c.is_ended_by.ensures ∙ c.loop-reading-test.true) c.in_ok-reading.ensures

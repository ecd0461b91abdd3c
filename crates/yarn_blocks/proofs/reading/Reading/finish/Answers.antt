use Rattle.std.proofs.Common.{sym, ◌∙◌}
use Rattle.yarn_blocks.proofs.FrameLemmas.{closed-shorter}
use Rattle.yarn_blocks.proofs.reading.Reading.finish.Goals as goal

pub loop-reading-smaller : goal.loop-reading-smaller
loop-reading-smaller c =
    closed-shorter 0 c.loop-reading.reading c.in_ok-reading.reading (sym c.is_ended_by.ensures ∙ c.loop-reading-test.true) c.in_ok-reading.ensures

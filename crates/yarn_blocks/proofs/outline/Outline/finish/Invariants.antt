use Rattle.std.proofs.Common.{◌≡◌, length}
use Rattle.yarn_blocks.specs.Outline.{levels_end}
use Rattle.yarn_blocks.proofs.outline.Outline.finish.Given as goal

abbrev pub invariant-loop-levels : goal.invariant-loop-levels
invariant-loop-levels l = levels_end l.levels ≡ levels_end l.initial.levels

abbrev pub decreases-loop-levels : goal.decreases-loop-levels
decreases-loop-levels l = length l.levels

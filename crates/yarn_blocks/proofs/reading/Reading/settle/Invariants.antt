use Rattle.std.proofs.Common.{◌≡◌, length}
use Rattle.yarn_blocks.specs.Building.{state_of, settled_of}
use Rattle.yarn_blocks.proofs.reading.Reading.settle.Given as goal

abbrev pub invariant-loop-reading : goal.invariant-loop-reading
invariant-loop-reading l = settled_of l.indent (state_of l.reading) ≡ settled_of l.indent (state_of l.initial.reading)

abbrev pub decreases-loop-reading : goal.decreases-loop-reading
decreases-loop-reading l = length l.reading.frames

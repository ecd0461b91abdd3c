use Rattle.std.proofs.Common.{◌≡◌, length}
use Rattle.yarn_blocks.specs.Reading.{finish}
use Rattle.yarn_blocks.specs.Building.{state_of}
use Rattle.yarn_blocks.proofs.reading.Reading.finish.Given as goal

abbrev pub invariant-loop-reading : goal.invariant-loop-reading
invariant-loop-reading l = finish (state_of l.reading) ≡ finish (state_of l.initial.reading)

abbrev pub decreases-loop-reading : goal.decreases-loop-reading
decreases-loop-reading l = length l.reading.frames

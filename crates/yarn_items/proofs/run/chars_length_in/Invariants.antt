use Rattle.std.proofs.Common.{length, ◌-◌, ◌≡◌, ◌≤◌, ◌+◌, drop}
use Rattle.yarn_items.specs.Run.{chars_length}
use Rattle.yarn_items.proofs.run.chars_length_in.Given as goal

abbrev pub invariant-loop-at : goal.invariant-loop-at
invariant-loop-at l = (chars_length l.bytes ≡ l.at + chars_length (drop l.at l.bytes)) × (l.at ≤ length l.bytes)

-- proposed from the loop's first test
abbrev pub decreases-loop-at : goal.decreases-loop-at
decreases-loop-at l = length l.bytes - l.at

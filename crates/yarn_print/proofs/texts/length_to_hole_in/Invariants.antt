use Rattle.std.proofs.Common.{◌≡◌, ◌+◌, drop, false}
use Rattle.yarn_print.specs.Pieces.{length_to_hole}
use Rattle.yarn_print.proofs.texts.length_to_hole_in.Given as goal

abbrev pub invariant-loop-at : goal.invariant-loop-at
invariant-loop-at l = length_to_hole false l.bytes ≡ l.at + length_to_hole l.skips (drop l.at l.bytes)

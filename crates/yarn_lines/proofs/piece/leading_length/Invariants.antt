use Rattle.std.proofs.Common.{◌≡◌, ◌+◌, drop, length}
use Rattle.yarn_lines.specs.Lines.{leading}
use Rattle.yarn_lines.proofs.piece.leading_length.Given as goal

abbrev pub invariant-loop-at : goal.invariant-loop-at
invariant-loop-at l = length (leading l.bytes) ≡ l.at + length (leading (drop l.at l.bytes))

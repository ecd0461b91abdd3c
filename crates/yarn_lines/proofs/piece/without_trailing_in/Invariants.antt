use Rattle.std.proofs.Common.{◌≡◌, ◌≤◌, length, take}
use Rattle.yarn_lines.specs.Lines.{without_trailing}
use Rattle.yarn_lines.proofs.piece.without_trailing_in.Given as goal

abbrev pub invariant-loop-end : goal.invariant-loop-end
invariant-loop-end l = (l.end ≤ length l.bytes) × (without_trailing (take l.end l.bytes) ≡ without_trailing l.bytes)

abbrev pub decreases-loop-end : goal.decreases-loop-end
decreases-loop-end l = l.end

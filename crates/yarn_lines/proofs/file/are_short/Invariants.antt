use Rattle.std.proofs.Common.{◌≡◌, length, None}
use Rattle.yarn_lines.specs.Lines.{pieces_of, first_from, is_long}
use Rattle.yarn_lines.proofs.file.are_short.Given as goal

abbrev pub invariant-loop-rest : goal.invariant-loop-rest
invariant-loop-rest l = first_from is_long 1 (pieces_of l.rest) ≡ None → first_from is_long 1 (pieces_of l.bytes) ≡ None

abbrev pub decreases-loop-rest : goal.decreases-loop-rest
decreases-loop-rest l = length l.rest

use Rattle.std.proofs.Common.{◌≡◌, ◌+◌, ◌≤◌, length}
use Rattle.yarn_lines.specs.Lines.{pieces_of, first_from, is_long}
use Rattle.yarn_tag.proofs.tag.long_line.Given as goal

abbrev pub invariant-loop-rest : goal.invariant-loop-rest
invariant-loop-rest l = record {
  same : first_from is_long l.number (pieces_of l.rest) ≡ first_from is_long 1 (pieces_of l.bytes);
  count : l.number + length l.rest ≤ 1 + length l.bytes;
}

abbrev pub decreases-loop-rest : goal.decreases-loop-rest
decreases-loop-rest l = length l.rest

use Rattle.std.proofs.Common.{◌≡◌, ◌+◌, ◌≤◌, length}
use Rattle.yarn_lines.specs.Lines.{pieces_of, first_from}
use Rattle.yarn_lines.specs.Fault.{is_bad}
use Rattle.yarn_lines.proofs.file.first_bad_line.Given as goal

abbrev pub invariant-loop-rest : goal.invariant-loop-rest
invariant-loop-rest l = record {
  same : first_from is_bad l.number (pieces_of l.rest) ≡ first_from is_bad 1 (pieces_of l.bytes);
  small : l.number + length l.rest ≤ 1 + length l.bytes;
}

abbrev pub decreases-loop-rest : goal.decreases-loop-rest
decreases-loop-rest l = length l.rest

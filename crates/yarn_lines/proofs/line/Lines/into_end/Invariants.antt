use Rattle.std.proofs.Common.{◌≡◌, ◌+◌, ◌-◌, length, drop}
use Rattle.yarn_lines.specs.Lines.{pieces_of}
use Rattle.yarn_lines.specs.Taking.{AreLeft}
use Rattle.yarn_lines.proofs.line.Lines.into_end.Given as goal

abbrev pub invariant-loop-at : goal.invariant-loop-at
invariant-loop-at l = record {
  left : AreLeft l.self-inside.whole l.at l.end;
  same : l.end + length (pieces_of (drop l.at l.self-inside.whole)) ≡ l.fn.self.end;
}

abbrev pub decreases-loop-at : goal.decreases-loop-at
decreases-loop-at l = length l.self-inside.whole - l.at

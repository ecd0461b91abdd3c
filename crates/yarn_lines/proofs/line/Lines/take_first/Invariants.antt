use Rattle.std.proofs.Common.{◌≡◌, ◌+◌, ◌-◌, length, drop}
use Rattle.yarn_lines.specs.Lines.{lines_from, pieces_of}
use Rattle.yarn_lines.specs.Taking.{AreLeft}
use Rattle.yarn_lines.proofs.line.Lines.take_first.Given as goal

abbrev pub invariant-loop-self : goal.invariant-loop-self
invariant-loop-self l = record {
  left : AreLeft l.self-inside.whole l.self-inside.at l.self-inside.number;
  same : lines_from l.self-inside.number l.self-inside.at (pieces_of (drop l.self-inside.at l.self-inside.whole)) ≡ l.fn.self.lines;
  end : l.self-inside.number + length (pieces_of (drop l.self-inside.at l.self-inside.whole)) ≡ l.fn.self.end;
}

abbrev pub decreases-loop-self : goal.decreases-loop-self
decreases-loop-self l = length l.self-inside.whole - l.self-inside.at

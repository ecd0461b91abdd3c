use Rattle.std.proofs.Common.{◌≡◌, ◌+◌, ◌*◌, ◌≤◌, drop}
use Rattle.yarn_lines.specs.Lines.{width}
use Rattle.yarn_lines.proofs.line.width_in.Given as goal

abbrev pub invariant-loop-blank : goal.invariant-loop-blank
invariant-loop-blank l = (l.sum + width (drop l.blank-index l.blanks) ≡ width l.blanks) × (l.sum ≤ 8 * l.blank-index)

use Rattle.std.proofs.Common.{length, All}
use Rattle.yarn_code.specs.declared.program.Program.{Program}
use Rattle.yarn_code.specs.Fields.{IsLineField}
use Rattle.yarn_code.specs.Layout.{base_line}
use Rattle.yarn_code.specs.Writing.{HasWritten}
use Rattle.yarn_code.proofs.encoding.put_lines.Given as goal

abbrev pub invariant-loop-line : goal.invariant-loop-line
invariant-loop-line l = (p : Program) → All (IsLineField p) l.lines → HasWritten (base_line (length p.files) (length p.nodes)) l.lines l.line-index l.initial.out l.out

-- The parts of a program, and what is found in them (docs/instructions.md, Programs).
use Rattle.std.specs.Prelude.{ℕ, List, [], ◌∷◌, nat_eq, if◌then◌else◌, Option, Some, None, slice_get}
use Rattle.std.specs.Cmp.Lexicographic.{pointwise}
use Rattle.yarn_value.specs.declared.value.Value.{Value}
use Rattle.yarn_value.specs.Pairs.{Pairs}
use Rattle.yarn_code.specs.declared.program.Instr.{Instr}
use Rattle.yarn_code.specs.declared.program.Coded.{Coded}
use Rattle.yarn_code.specs.declared.program.CodeNode.{CodeNode}
use Rattle.yarn_code.specs.declared.program.Variable.{Variable}

abbrev pub coded : ℕ → Instr → Coded
coded line instr = record { line = line; instr = instr }

abbrev pub variable : List ℕ → Value → Variable
variable name initial = record { name = name; initial = initial }

-- the variables of a program, with the values with which they begin
abbrev pub pairs_of : List Variable → Pairs
pairs_of [] = []
pairs_of (v ∷ variables) = (v.name, v.initial) ∷ pairs_of variables

-- the first node of that title
abbrev pub code_titled : List ℕ → List CodeNode → Option CodeNode
code_titled title [] = None
code_titled title (n ∷ ns) = if pointwise nat_eq n.title title then Some n else code_titled title ns

abbrev pub line_of : Option Coded → ℕ
line_of None = 0
line_of (Some c) = c.line

-- the line of the instruction at that place
abbrev pub line_at : CodeNode → ℕ → ℕ
line_at n place = line_of (slice_get n.code place)

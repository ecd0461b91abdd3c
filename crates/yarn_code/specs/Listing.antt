-- The listing of a program, line by line (docs/formats.md, Listing).
use Rattle.std.specs.Prelude.{◌≡◌, ℕ, ℤ, ◌+◌, List, [], ◌∷◌, ◌++◌, codes, Bool, if◌then◌else◌, Some, slice_get}
use Rattle.std.specs.Fmt.{decimal, signed_decimal}
use Rattle.yarn_value.specs.declared.base.BaseLine.{BaseLine}
use Rattle.yarn_value.specs.declared.signature.Signature.{Signature}
use Rattle.yarn_value.specs.declared.value.Kind.{Kind}
use Rattle.yarn_value.specs.declared.value.Kind.TheVariants as kind
use Rattle.yarn_value.specs.declared.value.Value.{Value}
use Rattle.yarn_value.specs.declared.value.Value.TheVariants as value
use Rattle.yarn_value.specs.Quoting.{quoted}
use Rattle.yarn_value.specs.Values.{kind_of}
use Rattle.yarn_code.specs.declared.program.Instr.{Instr}
use Rattle.yarn_code.specs.declared.program.Coded.{Coded}
use Rattle.yarn_code.specs.declared.program.CodeNode.{CodeNode}
use Rattle.yarn_code.specs.declared.program.Variable.{Variable}
use Rattle.yarn_code.specs.declared.program.Program.{Program}
use Rattle.yarn_code.specs.Opcodes.{Operands, Makes, Label, Count, Name, Template, Pushed, Whole, Truth, Opcode, opcodes}

-- ---- lines

abbrev pub Words : Type 0
Words = List (List ℕ)

-- each word behind a space
abbrev pub spaced : Words → List ℕ
spaced [] = []
spaced (word ∷ words) = 32 ∷ (word ++ spaced words)

-- words with single spaces between them, and an LF
abbrev pub line : List ℕ → Words → List ℕ
line first others = first ++ (spaced others ++ codes "\n")

-- what stands for each part, which may tell its place, counted from this number
abbrev pub each : {A : Type 0} → (ℕ → A → List ℕ) → ℕ → List A → List ℕ
each told at [] = []
each told at (x ∷ xs) = told at x ++ each told (at + 1) xs

-- ---- words

abbrev pub truth_word : Bool → List ℕ
truth_word b = if b then codes "true" else codes "false"

abbrev pub value_word : Value → List ℕ
value_word (value.Number n) = signed_decimal n
value_word (value.Str text) = quoted text
value_word (value.Truth b) = truth_word b

abbrev pub kind_word : Kind → List ℕ
kind_word kind.Number = codes "number"
kind_word kind.Str = codes "string"
kind_word kind.Truth = codes "bool"

-- kinds with commas between them
abbrev pub more_kinds : List Kind → List ℕ
more_kinds [] = []
more_kinds (k ∷ kinds) = codes "," ++ (kind_word k ++ more_kinds kinds)

abbrev pub kinds_word : List Kind → List ℕ
kinds_word [] = []
kinds_word (k ∷ kinds) = kind_word k ++ more_kinds kinds

-- ---- instructions

-- the words are operands that make the instruction: ids and names as they are, other texts quoted
abbrev pub AreOperands : Operands → Instr → Words → Type 0
AreOperands (Makes made) instr words = (made ≡ instr) × (words ≡ [])
AreOperands (Label next) instr words = (n : ℕ) × (more : Words) × (words ≡ decimal n ∷ more) × AreOperands (next n) instr more
AreOperands (Count next) instr words = (n : ℕ) × (more : Words) × (words ≡ decimal n ∷ more) × AreOperands (next n) instr more
AreOperands (Name next) instr words = (name : List ℕ) × (more : Words) × (words ≡ name ∷ more) × AreOperands (next name) instr more
AreOperands (Template holes next) instr words = (text : List ℕ) × (more : Words) × (words ≡ quoted text ∷ more) × AreOperands (next text) instr more
AreOperands (Pushed next) instr words = (text : List ℕ) × (more : Words) × (words ≡ quoted text ∷ more) × AreOperands (next text) instr more
AreOperands (Whole next) instr words = (z : ℤ) × (more : Words) × (words ≡ signed_decimal z ∷ more) × AreOperands (next z) instr more
AreOperands (Truth next) instr words = (b : Bool) × (more : Words) × (words ≡ truth_word b ∷ more) × AreOperands (next b) instr more

-- the words of an instruction: the name of its opcode, and the operands
pub record Tells (instr : Instr) (words : Words) : Type 0 where
  pub number : ℕ
  pub row : Opcode
  pub operands : Words
  pub listed : slice_get opcodes number ≡ Some row
  pub make : AreOperands row.operands instr operands
  pub are : words ≡ row.name ∷ operands

-- ---- the program

abbrev pub file_line : ℕ → List ℕ → List ℕ
file_line at name = line (codes "file") (decimal at ∷ name ∷ [])

abbrev pub variable_line : ℕ → Variable → List ℕ
variable_line at v = line (codes "variable") (v.name ∷ kind_word (kind_of v.initial) ∷ value_word v.initial ∷ [])

abbrev pub function_line : ℕ → Signature → List ℕ
function_line at s = line (codes "function") ((s.name ++ (codes "(" ++ (kinds_word s.params ++ codes ")"))) ∷ kind_word s.result ∷ [])

abbrev pub base_line : ℕ → BaseLine → List ℕ
base_line at l = line (codes "line") (l.id ∷ decimal l.holes ∷ quoted l.text ∷ [])

-- over the words of each instruction
module _ (words : Instr → Words) where
  abbrev pub instruction_line : ℕ → Coded → List ℕ
  instruction_line at c = codes "  " ++ line (decimal at) (decimal c.line ∷ words c.instr)

  abbrev pub node_lines : ℕ → CodeNode → List ℕ
  node_lines at n = line (codes "node") (n.title ∷ decimal n.file ∷ []) ++ each instruction_line 0 n.code

  abbrev pub program_lines : Program → List ℕ
  program_lines p =
      line (codes "program") (codes "YSP1" ∷ [])
      ++ (each file_line 0 p.files ++ (each variable_line 0 p.variables ++ (each function_line 0 p.functions
      ++ (each node_lines 0 p.nodes ++ each base_line 0 p.lines))))

-- the text is the listing of the program
pub record IsListing (p : Program) (text : List ℕ) : Type 0 where
  pub words : Instr → Words
  pub tell : (i : Instr) → Tells i (words i)
  pub lines : text ≡ program_lines words p

-- a program has one listing
abbrev pub OneListing : Type 0
OneListing = (p : Program) (a b : List ℕ) → IsListing p a → IsListing p b → a ≡ b

-- The fields of a program file in order, and the rules of each (docs/formats.md, Program files).
use Rattle.std.specs.Prelude.{ℕ, ℤ, List, [], length, codes, Bool, true, nat_eq, nat_le, nat_lt, not, ◌&&◌, is_some, slice_get, Option, Some, None, if◌then◌else◌}
use Rattle.std.specs.Str.{chars, bytes_eq}
use Rattle.std.specs.List.{list_all}
use Rattle.std.specs.Int.{w64, cast_signed}
use Rattle.yarn_base.specs.Name.{is_name_of, is_variable_of}
use Rattle.yarn_value.specs.declared.base.BaseLine.{BaseLine}
use Rattle.yarn_value.specs.declared.signature.Signature.{Signature}
use Rattle.yarn_value.specs.declared.value.Kind as K
use Rattle.yarn_value.specs.declared.value.Kind.TheVariants as kind
use Rattle.yarn_value.specs.declared.value.Value as V
use Rattle.yarn_value.specs.declared.value.Value.TheVariants as value
use Rattle.yarn_value.specs.Builtins.{builtin_named}
use Rattle.yarn_value.specs.Templates.{template_of}
use Rattle.yarn_expr.specs.Word.{is_reserved}
use Rattle.yarn_code.specs.declared.program.Instr.{Instr}
use Rattle.yarn_code.specs.declared.program.Instr.TheVariants as code
use Rattle.yarn_code.specs.declared.program.Coded.{Coded}
use Rattle.yarn_code.specs.declared.program.CodeNode.{CodeNode}
use Rattle.yarn_code.specs.declared.program.Variable.{Variable}
use Rattle.yarn_code.specs.declared.program.Program.{Program}
use Rattle.yarn_code.specs.Fields.{names_of, function_names, titles_of, ids_of}
use Rattle.yarn_code.specs.Format.{Format, Ends, Number, Text, U8, U32, U64, ◌>>=◌, times, number_bytes}
use Rattle.yarn_code.specs.Opcodes.{Operands, Makes, Label, Count, Name, Template, Pushed, Whole, Truth, Opcode, opcodes}

-- ---- fields

abbrev pub any : {A : Type 0} → A → Bool
any x = true

abbrev pub byte : (ℕ → Bool) → Format ℕ
byte test = Number U8 test Ends

abbrev pub word : (ℕ → Bool) → Format ℕ
word test = Number U32 test Ends

abbrev pub text : (List ℕ → Bool) → Format (List ℕ)
text test = Text test Ends

-- 64 bits in two's complement
abbrev pub whole : Format ℤ
whole = Number U64 any λ n. Ends (cast_signed w64 n)

abbrev pub number_of_truth : Bool → ℕ
number_of_truth b = if b then 1 else 0

abbrev pub truth : Format Bool
truth = Number U8 (λ n. nat_le n 1) λ n. Ends (nat_eq n 1)

-- 1 a number, 2 a text, 3 a truth
abbrev pub kind_of_number : ℕ → K.Kind
kind_of_number n = if nat_eq n 1 then kind.Number else if nat_eq n 2 then kind.Str else kind.Truth

abbrev pub number_of_kind : K.Kind → ℕ
number_of_kind kind.Number = 1
number_of_kind kind.Str = 2
number_of_kind kind.Truth = 3

abbrev pub kind_field : Format K.Kind
kind_field = Number U8 (λ n. nat_le 1 n && nat_le n 3) λ n. Ends (kind_of_number n)

-- at most 16
abbrev pub is_few : ℕ → Bool
is_few n = nat_le n 16

abbrev pub is_short : List ℕ → Bool
is_short t = nat_le (length t) 65536

-- a template with so many holes
abbrev pub is_template : ℕ → List ℕ → Bool
is_template holes t = is_some (template_of t holes)

-- none of these texts
abbrev pub is_new : List (List ℕ) → List ℕ → Bool
is_new others t = list_all (λ other. not (bytes_eq other t)) others

-- a count, and that many of a part
abbrev pub many : {A : Type 0} → (List A → Format A) → Format (List A)
many part = word any >>= λ n. times n part []

-- ---- parts

abbrev pub value_of : K.Kind → Format V.Value
value_of kind.Number = whole >>= λ n. Ends (value.Number n)
value_of kind.Str = text is_short >>= λ t. Ends (value.Str t)
value_of kind.Truth = truth >>= λ b. Ends (value.Truth b)

-- a variable whose name passes a test; the others below are told so too
abbrev pub variable_with : (List ℕ → Bool) → Format Variable
variable_with free = do
  name ← text (λ t. is_variable_of (chars t) && free t)
  kind ← kind_field
  initial ← value_of kind
  Ends (record { name = name; initial = initial })

unfoldable pub variable : List Variable → Format Variable
variable before = variable_with (is_new (names_of before))

-- a name that is neither a word of expressions nor a builtin
abbrev pub is_host_name : List ℕ → Bool
is_host_name t = is_name_of (chars t) && (not (is_reserved t) && not (is_some (builtin_named t)))

abbrev pub kinds : List K.Kind → Format K.Kind
kinds earlier = kind_field

abbrev pub function_with : (List ℕ → Bool) → Format Signature
function_with free = do
  name ← text (λ t. is_host_name t && free t)
  count ← byte is_few
  params ← times count kinds []
  result ← kind_field
  Ends (record { name = name; params = params; result = result })

unfoldable pub function : List Signature → Format Signature
function before = function_with (is_new (function_names before))

-- the fields of operands
abbrev pub operand_fields : Operands → Format Instr
operand_fields (Makes instr) = Ends instr
operand_fields (Label next) = Number U32 any λ n. operand_fields (next n)
operand_fields (Count next) = Number U8 is_few λ n. operand_fields (next n)
operand_fields (Name next) = Text any λ t. operand_fields (next t)
operand_fields (Template holes next) = Text (is_template holes) λ t. operand_fields (next t)
operand_fields (Pushed next) = Text is_short λ t. operand_fields (next t)
operand_fields (Whole next) = Number U64 any λ n. operand_fields (next (cast_signed w64 n))
operand_fields (Truth next) = Number U8 (λ n. nat_le n 1) λ n. operand_fields (next (nat_eq n 1))

-- the operands of an opcode; there is a row for each number that is read
abbrev pub operands_at : Option Opcode → Format Instr
operands_at (Some row) = operand_fields row.operands
operands_at None = Ends code.Stop

abbrev pub is_opcode : ℕ → Bool
is_opcode n = nat_lt n (length opcodes)

unfoldable pub coded : Format Coded
coded = do
  number ← byte is_opcode
  line ← word any
  instr ← operands_at (slice_get opcodes number)
  Ends (record { line = line; instr = instr })

abbrev pub instructions : List Coded → Format Coded
instructions earlier = coded

abbrev pub node_with : ℕ → (List ℕ → Bool) → Format CodeNode
node_with files free = do
  title ← text (λ t. is_name_of (chars t) && free t)
  file ← word (λ n. nat_lt n files)
  count ← word (λ n. nat_le 1 n)
  code ← times count instructions []
  Ends (record { title = title; file = file; code = code })

unfoldable pub node : ℕ → List CodeNode → Format CodeNode
node files before = node_with files (is_new (titles_of before))

abbrev pub base_line_with : ℕ → ℕ → (List ℕ → Bool) → Format BaseLine
base_line_with files nodes free = do
  id ← text (λ t. nat_le 1 (length t) && free t)
  holes ← byte is_few
  template ← text (is_template holes)
  file ← word (λ n. nat_lt n files)
  node ← word (λ n. nat_lt n nodes)
  line ← word any
  Ends (record { id = id; holes = holes; text = template; file = file; node = node; line = line })

unfoldable pub base_line : ℕ → ℕ → List BaseLine → Format BaseLine
base_line files nodes before = base_line_with files nodes (is_new (ids_of before))

abbrev pub file_name : List (List ℕ) → Format (List ℕ)
file_name earlier = text any

-- ---- the file

-- `YSP1`, one field of four bytes
abbrev pub is_mark : ℕ → Bool
is_mark n = bytes_eq (number_bytes U32 n) (codes "YSP1")

unfoldable pub program_file : Format Program
program_file = do
  mark ← word is_mark
  files ← many file_name
  variables ← many variable
  functions ← many function
  nodes ← many (node (length files))
  lines ← many (base_line (length files) (length nodes))
  Ends (record { files = files; variables = variables; functions = functions; nodes = nodes; lines = lines })

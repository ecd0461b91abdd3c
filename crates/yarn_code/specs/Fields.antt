-- What each field of a program may be, apart from shapes (docs/instructions.md, Programs).
use Rattle.std.specs.Prelude.{◌≡◌, ◌<◌, ◌≤◌, ℕ, List, [], ◌∷◌, length, true, false, All, None, is_some, IsTrue, ⊤}
use Rattle.std.specs.Str.{chars}
use Rattle.yarn_base.specs.Name.{is_name_of, is_variable_of}
use Rattle.yarn_value.specs.declared.base.BaseLine.{BaseLine}
use Rattle.yarn_value.specs.declared.signature.Signature.{Signature}
use Rattle.yarn_value.specs.declared.value.Value.{Value}
use Rattle.yarn_value.specs.declared.value.Value.TheVariants as value
use Rattle.yarn_value.specs.Builtins.{builtin_named}
use Rattle.yarn_value.specs.Numbers.{fits}
use Rattle.yarn_value.specs.Templates.{template_of}
use Rattle.yarn_expr.specs.Word.{is_reserved}
use Rattle.yarn_code.specs.declared.program.Instr.{Instr}
use Rattle.yarn_code.specs.declared.program.Instr.TheVariants as code
use Rattle.yarn_code.specs.declared.program.Coded.{Coded}
use Rattle.yarn_code.specs.declared.program.CodeNode.{CodeNode}
use Rattle.yarn_code.specs.declared.program.Variable.{Variable}
use Rattle.yarn_code.specs.declared.program.Program.{Program}

-- ---- values and texts

-- a number of 64 bits, a text of at most 65,536 bytes, or a truth
abbrev pub IsFitting : Value → Type 0
IsFitting (value.Number n) = fits n ≡ true
IsFitting (value.Str text) = length text ≤ 65536
IsFitting (value.Truth b) = ⊤

-- a number of 32 bits
abbrev pub IsWord : ℕ → Type 0
IsWord n = n < 4294967296

-- the text is a template for so many values, at most 16
pub record IsText (text : List ℕ) (holes : ℕ) : Type 0 where
  pub few : holes ≤ 16
  pub template : IsTrue (is_some (template_of text holes))

abbrev pub IsName : List ℕ → Type 0
IsName name = is_name_of (chars name) ≡ true

-- ---- names that don't come again

abbrev pub IsNew : List ℕ → List (List ℕ) → Type 0
IsNew name names = All (λ other. name ≡ other → ⊥) names

abbrev pub AreUnique : List (List ℕ) → Type 0
AreUnique [] = ⊤
AreUnique (name ∷ names) = IsNew name names × AreUnique names

-- ---- the parts

-- the operands of an instruction
abbrev pub HasOperands : Instr → Type 0
HasOperands (code.JumpTo label) = ⊤
HasOperands code.Jump = ⊤
HasOperands (code.RunLine count id) = count ≤ 16
HasOperands (code.RunCommand count text) = IsText text count
HasOperands (code.AddOption count id label conditional) = count ≤ 16
HasOperands code.ShowOptions = ⊤
HasOperands (code.PushString text) = IsFitting (value.Str text)
HasOperands (code.PushFloat number) = IsFitting (value.Number number)
HasOperands (code.PushBool b) = ⊤
HasOperands code.PushNull = ⊤
HasOperands (code.JumpIfFalse label) = ⊤
HasOperands code.Pop = ⊤
HasOperands (code.CallFunc count name) = count ≤ 16
HasOperands (code.PushVariable name) = ⊤
HasOperands (code.StoreVariable name) = ⊤
HasOperands code.Stop = ⊤
HasOperands code.RunNode = ⊤

pub record IsVariableField (v : Variable) : Type 0 where
  pub named : is_variable_of (chars v.name) ≡ true
  pub fits : IsFitting v.initial

-- the name of a host function: a name that is neither a word of expressions nor a builtin
pub record IsFunctionField (s : Signature) : Type 0 where
  pub named : IsName s.name
  pub free : is_reserved s.name ≡ false
  pub host : builtin_named s.name ≡ None
  pub few : length s.params ≤ 16

pub record IsNodeField (p : Program) (n : CodeNode) : Type 0 where
  pub named : IsName n.title
  pub filed : n.file < length p.files
  pub some : 1 ≤ length n.code
  pub operands : All (λ c. HasOperands c.instr) n.code

pub record IsLineField (p : Program) (l : BaseLine) : Type 0 where
  pub named : 1 ≤ length l.id
  pub text : IsText l.text l.holes
  pub filed : l.file < length p.files
  pub within : l.node < length p.nodes

abbrev pub names_of : List Variable → List (List ℕ)
names_of [] = []
names_of (v ∷ variables) = v.name ∷ names_of variables

abbrev pub function_names : List Signature → List (List ℕ)
function_names [] = []
function_names (s ∷ signatures) = s.name ∷ function_names signatures

abbrev pub titles_of : List CodeNode → List (List ℕ)
titles_of [] = []
titles_of (n ∷ nodes) = n.title ∷ titles_of nodes

abbrev pub ids_of : List BaseLine → List (List ℕ)
ids_of [] = []
ids_of (l ∷ lines) = l.id ∷ ids_of lines

-- ---- the program

-- each field is as it may be, and no name, title or id comes again
pub record HasFields (p : Program) : Type 0 where
  pub variables : All IsVariableField p.variables
  pub variables_differ : AreUnique (names_of p.variables)
  pub functions : All IsFunctionField p.functions
  pub functions_differ : AreUnique (function_names p.functions)
  pub nodes : All (IsNodeField p) p.nodes
  pub nodes_differ : AreUnique (titles_of p.nodes)
  pub lines : All (IsLineField p) p.lines
  pub lines_differ : AreUnique (ids_of p.lines)

-- ---- how a file has room for it

-- the numbers of an instruction and the lengths of its texts are of 32 bits
abbrev pub HasWords : Instr → Type 0
HasWords (code.JumpTo label) = IsWord label
HasWords code.Jump = ⊤
HasWords (code.RunLine count id) = IsWord (length id)
HasWords (code.RunCommand count text) = IsWord (length text)
HasWords (code.AddOption count id label conditional) = IsWord (length id) × IsWord label
HasWords code.ShowOptions = ⊤
HasWords (code.PushString text) = ⊤
HasWords (code.PushFloat number) = ⊤
HasWords (code.PushBool b) = ⊤
HasWords code.PushNull = ⊤
HasWords (code.JumpIfFalse label) = IsWord label
HasWords code.Pop = ⊤
HasWords (code.CallFunc count name) = IsWord (length name)
HasWords (code.PushVariable name) = IsWord (length name)
HasWords (code.StoreVariable name) = IsWord (length name)
HasWords code.Stop = ⊤
HasWords code.RunNode = ⊤

pub record IsCodedWords (c : Coded) : Type 0 where
  pub line : IsWord c.line
  pub operands : HasWords c.instr

pub record IsNodeWords (n : CodeNode) : Type 0 where
  pub title : IsWord (length n.title)
  pub count : IsWord (length n.code)
  pub code : All IsCodedWords n.code

pub record IsLineWords (l : BaseLine) : Type 0 where
  pub id : IsWord (length l.id)
  pub text : IsWord (length l.text)
  pub line : IsWord l.line

-- all counts, places and lengths of texts are of 32 bits
pub record FitsFile (p : Program) : Type 0 where
  pub files : IsWord (length p.files)
  pub names : All (λ name. IsWord (length name)) p.files
  pub variables : IsWord (length p.variables)
  pub variable_names : All (λ v. IsWord (length v.name)) p.variables
  pub functions : IsWord (length p.functions)
  pub function_names : All (λ s. IsWord (length s.name)) p.functions
  pub node_count : IsWord (length p.nodes)
  pub nodes : All IsNodeWords p.nodes
  pub line_count : IsWord (length p.lines)
  pub lines : All IsLineWords p.lines

-- The shapes of a program's stack, and when a program is valid (docs/instructions.md, Shapes).
use Rattle.std.specs.Prelude.{◌≡◌, ◌<◌, ◌≤◌, ℕ, zero, suc, ◌+◌, List, [], ◌∷◌, ◌++◌, length, map, nat_eq, Bool, true, false, if◌then◌else◌, All, Option, Some, None, slice_get, ⊤}
use Rattle.std.specs.Cmp.Lexicographic.{pointwise}
use Rattle.std.specs.Option.{option_map}
use Rattle.yarn_value.specs.declared.base.BaseLine.{BaseLine}
use Rattle.yarn_value.specs.declared.value.Kind.{Kind}
use Rattle.yarn_value.specs.declared.value.Kind.TheVariants as kind
use Rattle.yarn_value.specs.Values.{kind_of}
use Rattle.yarn_value.specs.Rows.{same_kind}
use Rattle.yarn_value.specs.Builtins.{builtin_named}
use Rattle.yarn_value.specs.Signatures.{signature_named, arity_of}
use Rattle.yarn_value.specs.Pairs.{value_under}
use Rattle.yarn_value.specs.Calls.{kind_of_call}
use Rattle.yarn_code.specs.declared.program.Instr.{Instr}
use Rattle.yarn_code.specs.declared.program.Instr.TheVariants as code
use Rattle.yarn_code.specs.declared.program.Coded.{Coded}
use Rattle.yarn_code.specs.declared.program.CodeNode.{CodeNode}
use Rattle.yarn_code.specs.declared.program.Program.{Program}
use Rattle.yarn_code.specs.Parts.{pairs_of}

-- ---- shapes

-- what stands at a place of the stack
pub data ShapeEntry : Type 0 where
  -- a value of that kind
  Of : Kind → ShapeEntry
  Null : ShapeEntry
  -- a destination, which is one of these labels
  Destination : List ℕ → ShapeEntry

-- the entries of the stack, the top first, and the labels of the pending options in order
pub record Shape : Type 0 where
  pub entries : List ShapeEntry
  pub pending : List ℕ

abbrev pub shape : List ShapeEntry → List ℕ → Shape
shape entries pending = record { entries = entries; pending = pending }

-- a place to which an instruction can go, with the shape there
pub record Goal : Type 0 where
  pub place : ℕ
  pub shape : Shape

abbrev pub goal : ℕ → Shape → Goal
goal place shape = record { place = place; shape = shape }

-- what an instruction does on a shape: all its goals; none where it can't run
abbrev pub Flow : Type 0
Flow = Option (List Goal)

-- ---- what is taken

-- the kinds of so many values, the last on top, in front of those taken
abbrev pub take_kinds : ℕ → List Kind → List ShapeEntry → (List Kind → List ShapeEntry → Flow) → Flow
take_kinds zero kinds entries go = go kinds entries
take_kinds (suc n) kinds (Of k ∷ entries) go = take_kinds n (k ∷ kinds) entries go
take_kinds (suc n) kinds (Null ∷ entries) go = None
take_kinds (suc n) kinds (Destination labels ∷ entries) go = None
take_kinds (suc n) kinds [] go = None

-- a value on top, which may be of this kind alone
abbrev pub on_kind : Kind → List ShapeEntry → (List ShapeEntry → Flow) → Flow
on_kind wanted (Of k ∷ entries) go = if same_kind wanted k then go entries else None
on_kind wanted (Null ∷ entries) go = None
on_kind wanted (Destination labels ∷ entries) go = None
on_kind wanted [] go = None

abbrev pub on_labels : List ShapeEntry → (List ℕ → Flow) → Flow
on_labels (Destination labels ∷ entries) go = go labels
on_labels (Of k ∷ entries) go = None
on_labels (Null ∷ entries) go = None
on_labels [] go = None

abbrev pub on_any : List ShapeEntry → (List ShapeEntry → Flow) → Flow
on_any [] go = None
on_any (e ∷ entries) go = go entries

-- an option with a condition takes a truth
abbrev pub on_condition : Bool → List ShapeEntry → (List ShapeEntry → Flow) → Flow
on_condition true entries go = on_kind kind.Truth entries go
on_condition false entries go = go entries

abbrev pub if_nothing : List ℕ → Flow → Flow
if_nothing [] flow = flow
if_nothing (label ∷ labels) flow = None

abbrev pub if_something : List ℕ → Flow → Flow
if_something [] flow = None
if_something (label ∷ labels) flow = flow

abbrev pub on_known : Option Kind → (Kind → Flow) → Flow
on_known None go = None
on_known (Some k) go = go k

-- ---- one instruction

-- goes to the next instruction
abbrev pub goes_on : ℕ → List ShapeEntry → List ℕ → Flow
goes_on place entries pending = Some (goal (place + 1) (shape entries pending) ∷ [])

-- the kind of a variable of the program
abbrev pub kind_under : Program → List ℕ → Option Kind
kind_under p name = option_map kind_of (value_under (pairs_of p.variables) name)

-- the kind that a call of the function gives on arguments of these kinds
abbrev pub kind_called : Program → List ℕ → List Kind → Option Kind
kind_called p name kinds = kind_of_call (builtin_named name) (signature_named p.functions name) kinds

-- the instruction at that place on that shape
abbrev pub flow : Program → Instr → ℕ → List ShapeEntry → List ℕ → Flow
flow p (code.JumpTo label) place entries pending = Some (goal label (shape entries pending) ∷ [])
flow p code.Jump place entries pending = on_labels entries (λ labels. Some (map (λ label. goal label (shape entries pending)) labels))
flow p (code.RunLine count id) place entries pending =
    if_nothing pending (take_kinds count [] entries (λ kinds rest. goes_on place rest pending))
flow p (code.RunCommand count text) place entries pending =
    if_nothing pending (take_kinds count [] entries (λ kinds rest. goes_on place rest pending))
flow p (code.AddOption count id label conditional) place entries pending =
    on_condition conditional entries (λ rest. take_kinds count [] rest (λ kinds rest1. goes_on place rest1 (pending ++ label ∷ [])))
flow p code.ShowOptions place entries pending = if_something pending (goes_on place (Destination pending ∷ entries) [])
flow p (code.PushString text) place entries pending = goes_on place (Of kind.Str ∷ entries) pending
flow p (code.PushFloat number) place entries pending = goes_on place (Of kind.Number ∷ entries) pending
flow p (code.PushBool b) place entries pending = goes_on place (Of kind.Truth ∷ entries) pending
flow p code.PushNull place entries pending = goes_on place (Null ∷ entries) pending
flow p (code.JumpIfFalse label) place entries pending =
    on_kind kind.Truth entries
    (λ rest. Some (goal label (shape entries pending) ∷ goal (place + 1) (shape entries pending) ∷ []))
flow p code.Pop place entries pending = on_any entries (λ rest. goes_on place rest pending)
flow p (code.CallFunc count name) place entries pending =
    take_kinds count [] entries (λ kinds rest. on_known (kind_called p name kinds) (λ k. goes_on place (Of k ∷ rest) pending))
flow p (code.PushVariable name) place entries pending = on_known (kind_under p name) (λ k. goes_on place (Of k ∷ entries) pending)
flow p (code.StoreVariable name) place entries pending =
    on_known (kind_under p name) (λ k. on_kind k entries (λ rest. goes_on place entries pending))
flow p code.Stop place entries pending = if_nothing pending (Some [])
flow p code.RunNode place entries pending = if_nothing pending (on_kind kind.Str entries (λ rest. Some []))

-- ---- the first look

-- how many substitutions the line of that id has
abbrev pub holes_under : List BaseLine → List ℕ → Option ℕ
holes_under [] id = None
holes_under (row ∷ rows) id = if pointwise nat_eq row.id id then Some row.holes else holes_under rows id

-- a label is in the node, and later than the place
pub record IsLater (n : CodeNode) (place label : ℕ) : Type 0 where
  pub later : place < label
  pub within : label < length n.code

-- the line has as many substitutions
abbrev pub IsLine : Program → ℕ → List ℕ → Type 0
IsLine p count id = holes_under p.lines id ≡ Some count

-- the function is known, and takes as many arguments
abbrev pub IsFunction : Program → ℕ → List ℕ → Type 0
IsFunction p count name = arity_of p.functions name ≡ Some count

pub record IsVariable (p : Program) (name : List ℕ) : Type 0 where
  pub kind : Kind
  pub known : kind_under p name ≡ Some kind

-- the instruction at that place of the node passes the first look
abbrev pub PassesFirstLook : Program → CodeNode → ℕ → Instr → Type 0
PassesFirstLook p n place (code.JumpTo label) = IsLater n place label
PassesFirstLook p n place code.Jump = ⊤
PassesFirstLook p n place (code.RunLine count id) = IsLine p count id
PassesFirstLook p n place (code.RunCommand count text) = ⊤
PassesFirstLook p n place (code.AddOption count id label conditional) = IsLater n place label × IsLine p count id
PassesFirstLook p n place code.ShowOptions = ⊤
PassesFirstLook p n place (code.PushString text) = ⊤
PassesFirstLook p n place (code.PushFloat number) = ⊤
PassesFirstLook p n place (code.PushBool b) = ⊤
PassesFirstLook p n place code.PushNull = ⊤
PassesFirstLook p n place (code.JumpIfFalse label) = IsLater n place label
PassesFirstLook p n place code.Pop = ⊤
PassesFirstLook p n place (code.CallFunc count name) = IsFunction p count name
PassesFirstLook p n place (code.PushVariable name) = IsVariable p name
PassesFirstLook p n place (code.StoreVariable name) = IsVariable p name
PassesFirstLook p n place code.Stop = ⊤
PassesFirstLook p n place code.RunNode = ⊤

-- ---- the shapes of a node

-- at most 2,048 entries and 64 pending labels
pub record IsSmall (s : Shape) : Type 0 where
  pub entries : length s.entries ≤ 2048
  pub pending : length s.pending ≤ 64

-- for each instruction, at most one shape
abbrev pub Shapes : Type 0
Shapes = List (Option Shape)

abbrev pub HasShape : Shapes → ℕ → Shape → Type 0
HasShape shapes place s = slice_get shapes place ≡ Some (Some s)

-- a goal is later in the node, and has the shape that results
pub record IsReached (n : CodeNode) (shapes : Shapes) (place : ℕ) (g : Goal) : Type 0 where
  pub later : IsLater n place g.place
  pub has : HasShape shapes g.place g.shape

-- the instruction can run on its shape, and each goal is right
pub record CanRun (p : Program) (n : CodeNode) (shapes : Shapes) (place : ℕ) (instr : Instr) (s : Shape) : Type 0 where
  pub small : IsSmall s
  pub goals : List Goal
  pub can : flow p instr place s.entries s.pending ≡ Some goals
  pub reached : All (IsReached n shapes place) goals

-- an instruction that has a shape can go to the place
pub record IsEntered (p : Program) (n : CodeNode) (shapes : Shapes) (place : ℕ) : Type 0 where
  pub from : ℕ
  pub c : Coded
  pub s : Shape
  pub stands : slice_get n.code from ≡ Some c
  pub has : HasShape shapes from s
  pub before : List Goal
  pub into : Goal
  pub behind : List Goal
  pub can : flow p c.instr from s.entries s.pending ≡ Some (before ++ into ∷ behind)
  pub there : into.place ≡ place

-- a list of shapes for the instructions of a node
pub record Agrees (p : Program) (n : CodeNode) (shapes : Shapes) : Type 0 where
  pub counted : length shapes ≡ length n.code
  pub begins : HasShape shapes 0 (shape [] [])
  pub runs : (place : ℕ) (c : Coded) (s : Shape) → slice_get n.code place ≡ Some c → HasShape shapes place s → CanRun p n shapes place c.instr s
  pub entered : (place : ℕ) (s : Shape) → HasShape shapes (suc place) s → IsEntered p n shapes (suc place)

-- each instruction of the node passes the first look, and its shapes agree
pub record IsValidNode (p : Program) (n : CodeNode) : Type 0 where
  pub fine : (place : ℕ) (c : Coded) → slice_get n.code place ≡ Some c → PassesFirstLook p n place c.instr
  pub shapes : Shapes
  pub agrees : Agrees p n shapes

-- a valid program
abbrev pub IsValid : Program → Type 0
IsValid p = All (IsValidNode p) p.nodes

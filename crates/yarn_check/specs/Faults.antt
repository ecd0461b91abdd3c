-- The faults of a program, and the first one (docs/instructions.md, Shapes).
use Rattle.std.specs.Prelude.{◌≡◌, ◌<◌, ◌⊎◌, ℕ, List, [], ◌∷◌, ◌++◌, length, All, Option, Some, None, slice_get, ⊤}
use Rattle.yarn_value.specs.Signatures.{arity_of}
use Rattle.yarn_code.specs.declared.program.Instr.{Instr}
use Rattle.yarn_code.specs.declared.program.Instr.TheVariants as code
use Rattle.yarn_code.specs.declared.program.Coded.{Coded}
use Rattle.yarn_code.specs.declared.program.CodeNode.{CodeNode}
use Rattle.yarn_code.specs.declared.program.Program.{Program}
use Rattle.yarn_check.specs.Shapes.{Shape, shape, Goal, flow, holes_under, IsVariable, IsLater, IsSmall}

-- the first numbers are those of the node and of the instruction
pub data CheckFault : Type 0 where
  BadLabel : ℕ → ℕ → CheckFault
  BackwardJump : ℕ → ℕ → CheckFault
  UnknownVariable : List ℕ → CheckFault
  UnknownFunction : List ℕ → CheckFault
  UnknownLine : List ℕ → CheckFault
  NoShape : ℕ → ℕ → CheckFault
  TooManyDeep : ℕ → ℕ → CheckFault

-- ---- the first look

-- so many values, under that name
pub record Count : Type 0 where
  pub count : ℕ
  pub name : List ℕ

abbrev pub counted : ℕ → List ℕ → Count
counted count name = record { count = count; name = name }

abbrev pub label_of : Instr → Option ℕ
label_of (code.JumpTo label) = Some label
label_of (code.AddOption count id label conditional) = Some label
label_of (code.JumpIfFalse label) = Some label
label_of _ = None

abbrev pub variable_of : Instr → Option (List ℕ)
variable_of (code.PushVariable name) = Some name
variable_of (code.StoreVariable name) = Some name
variable_of _ = None

abbrev pub call_of : Instr → Option Count
call_of (code.CallFunc count name) = Some (counted count name)
call_of _ = None

abbrev pub line_of : Instr → Option Count
line_of (code.RunLine count id) = Some (counted count id)
line_of (code.AddOption count id label conditional) = Some (counted count id)
line_of _ = None

-- what the first look asks, in order; nothing where the instruction names none
abbrev pub LabelIsIn : CodeNode → Option ℕ → Type 0
LabelIsIn n None = ⊤
LabelIsIn n (Some label) = label < length n.code

abbrev pub LabelIsLater : ℕ → Option ℕ → Type 0
LabelIsLater place None = ⊤
LabelIsLater place (Some label) = place < label

abbrev pub VariableIsKnown : Program → Option (List ℕ) → Type 0
VariableIsKnown p None = ⊤
VariableIsKnown p (Some name) = IsVariable p name

abbrev pub FunctionIsKnown : Program → Option Count → Type 0
FunctionIsKnown p None = ⊤
FunctionIsKnown p (Some c) = arity_of p.functions c.name ≡ Some c.count

abbrev pub LineIsKnown : Program → Option Count → Type 0
LineIsKnown p None = ⊤
LineIsKnown p (Some c) = holes_under p.lines c.name ≡ Some c.count

-- a count under that name, of which the demand doesn't hold
pub record IsUnknown (known : Option Count → Type 0) (o : Option Count) (name : List ℕ) : Type 0 where
  pub count : ℕ
  pub names : o ≡ Some (counted count name)
  pub unknown : known o → ⊥

-- the fault of one instruction: the first demand that doesn't hold of it
abbrev pub IsLookFault : Program → CodeNode → ℕ → ℕ → Instr → CheckFault → Type 0
IsLookFault p n node place i (BadLabel a b) = (a ≡ node) × (b ≡ place) × (LabelIsIn n (label_of i) → ⊥)
IsLookFault p n node place i (BackwardJump a b) = (a ≡ node) × (b ≡ place) × LabelIsIn n (label_of i) × (LabelIsLater place (label_of i) → ⊥)
IsLookFault p n node place i (UnknownVariable name) =
    LabelIsIn n (label_of i) × LabelIsLater place (label_of i) × (variable_of i ≡ Some name) × (VariableIsKnown p (variable_of i) → ⊥)
IsLookFault p n node place i (UnknownFunction name) =
    LabelIsIn n (label_of i) × LabelIsLater place (label_of i) × VariableIsKnown p (variable_of i) × IsUnknown (FunctionIsKnown p) (call_of i) name
IsLookFault p n node place i (UnknownLine name) =
    LabelIsIn n (label_of i) × LabelIsLater place (label_of i) × VariableIsKnown p (variable_of i) × FunctionIsKnown p (call_of i) × IsUnknown (LineIsKnown p) (line_of i) name
IsLookFault p n node place i (NoShape a b) = ⊥
IsLookFault p n node place i (TooManyDeep a b) = ⊥

-- ---- the shapes that come to an instruction

-- the shape comes to that place: at the beginning, or from an instruction before to which a shape comes
pub data Comes (p : Program) (n : CodeNode) : ℕ → Shape → Type 0 where
  Begins : Comes p n 0 (shape [] [])
  Goes : (from : ℕ) (c : Coded) (s : Shape) (before : List Goal) (into : Goal) (behind : List Goal) → Comes p n from s → slice_get n.code from ≡ Some c →
      flow p c.instr from s.entries s.pending ≡ Some (before ++ into ∷ behind) → from < into.place → Comes p n into.place into.shape

-- two shapes come to the place
pub record AreTwo (p : Program) (n : CodeNode) (place : ℕ) : Type 0 where
  pub one : Shape
  pub other : Shape
  pub comes : Comes p n place one
  pub comes_too : Comes p n place other
  pub differ : one ≡ other → ⊥

-- the instruction can't run on a shape that comes to it, or not go on: a goal isn't later in the node
pub record IsStuck (p : Program) (n : CodeNode) (place : ℕ) (i : Instr) : Type 0 where
  pub s : Shape
  pub comes : Comes p n place s
  pub stuck : (goals : List Goal) → flow p i place s.entries s.pending ≡ Some goals → All (λ g. IsLater n place g.place) goals → ⊥

-- a shape that comes to the place is too large
pub record IsDeep (p : Program) (n : CodeNode) (place : ℕ) : Type 0 where
  pub s : Shape
  pub comes : Comes p n place s
  pub deep : IsSmall s → ⊥

pub data NodeFault : Type 0 where
  Shapeless : NodeFault
  Deep : NodeFault

-- the fault of that instruction, by the shapes that come to it
abbrev pub IsFaultOf : Program → CodeNode → ℕ → Instr → NodeFault → Type 0
IsFaultOf p n place i Shapeless = AreTwo p n place ⊎ IsStuck p n place i
IsFaultOf p n place i Deep = ((AreTwo p n place ⊎ IsStuck p n place i) → ⊥) × IsDeep p n place

pub record IsFaultAt (p : Program) (n : CodeNode) (place : ℕ) (f : NodeFault) : Type 0 where
  pub c : Coded
  pub stands : slice_get n.code place ≡ Some c
  pub wrong : IsFaultOf p n place c.instr f

-- the first fault of the node
pub record IsFirstAt (p : Program) (n : CodeNode) (place : ℕ) (f : NodeFault) : Type 0 where
  pub here : IsFaultAt p n place f
  pub first : (q : ℕ) (g : NodeFault) → q < place → IsFaultAt p n q g → ⊥

-- ---- the program

-- that instruction of that node has that fault at the first look
pub record IsLookAt (p : Program) (node place : ℕ) (f : CheckFault) : Type 0 where
  pub n : CodeNode
  pub c : Coded
  pub stands : slice_get p.nodes node ≡ Some n
  pub within : slice_get n.code place ≡ Some c
  pub wrong : IsLookFault p n node place c.instr f

-- the first fault of the first look over all nodes
pub record IsFirstLook (p : Program) (f : CheckFault) : Type 0 where
  pub node : ℕ
  pub place : ℕ
  pub here : IsLookAt p node place f
  pub first : (a b : ℕ) (g : CheckFault) → (a < node) ⊎ ((a ≡ node) × (b < place)) → IsLookAt p a b g → ⊥

abbrev pub told : NodeFault → ℕ → ℕ → CheckFault
told Shapeless node place = NoShape node place
told Deep node place = TooManyDeep node place

-- the first fault of shapes over all nodes
pub record IsFirstShape (p : Program) (f : CheckFault) : Type 0 where
  pub node : ℕ
  pub n : CodeNode
  pub place : ℕ
  pub what : NodeFault
  pub stands : slice_get p.nodes node ≡ Some n
  pub here : IsFirstAt p n place what
  pub first : (a b : ℕ) (m : CodeNode) (g : NodeFault) → a < node → slice_get p.nodes a ≡ Some m → IsFaultAt p m b g → ⊥
  pub is : f ≡ told what node place

-- the first fault of a program: shapes are followed where the first look finds nothing
abbrev pub IsFirstFault : Program → CheckFault → Type 0
IsFirstFault p f = IsFirstLook p f ⊎ (((a b : ℕ) (g : CheckFault) → IsLookAt p a b g → ⊥) × IsFirstShape p f)

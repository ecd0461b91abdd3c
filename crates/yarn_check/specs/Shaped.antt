-- The states that a machine can be in (docs/meaning.md, Never stuck).
use Rattle.std.specs.Prelude.{◌≡◌, ◌≤◌, ℕ, ◌+◌, List, [], ◌∷◌, length, Contains, Some, None, slice_get, ⊤}
use Rattle.yarn_value.specs.declared.value.Value as V
use Rattle.yarn_value.specs.declared.value.Kind.{Kind}
use Rattle.yarn_value.specs.declared.signature.Signature.{Signature}
use Rattle.yarn_value.specs.Values.{kind_of}
use Rattle.yarn_value.specs.Builtins.{builtin_named}
use Rattle.yarn_value.specs.Signatures.{signature_named}
use Rattle.yarn_value.specs.Pairs.{Pairs}
use Rattle.yarn_code.specs.declared.program.Instr.{Instr}
use Rattle.yarn_code.specs.declared.program.Instr.TheVariants as code
use Rattle.yarn_code.specs.declared.program.CodeNode.{CodeNode}
use Rattle.yarn_code.specs.declared.program.Program.{Program}
use Rattle.yarn_code.specs.Parts.{pairs_of, code_titled}
use Rattle.yarn_code.specs.Fields.{IsFitting}
use Rattle.yarn_code.specs.Kinds.{Holds}
use Rattle.yarn_code.specs.MachineState as machine
use Rattle.yarn_code.specs.MachineState.{StackEntry, Stack, Offer, Leave, Stop, To, Rest, Line, Options, Command, Starts, Ends, Doing, Runs, Enters, Rests, Asks, Over, MachineState}
use Rattle.yarn_check.specs.Shapes as shapes
use Rattle.yarn_check.specs.Shapes.{ShapeEntry, Of, Shape, shape, Shapes, HasShape, IsLine, Agrees}

-- ---- values

abbrev pub AreFitting : List V.Value → Type 0
AreFitting [] = ⊤
AreFitting (v ∷ vs) = IsFitting v × AreFitting vs

-- a fitting value of that kind
pub record IsOf (k : Kind) (v : V.Value) : Type 0 where
  pub kind : kind_of v ≡ k
  pub fits : IsFitting v

-- fitting values of these kinds
abbrev pub AreOf : List Kind → List V.Value → Type 0
AreOf [] [] = ⊤
AreOf (k ∷ ks) (v ∷ vs) = IsOf k v × AreOf ks vs
AreOf _ _ = ⊥

abbrev pub StoreFits : Pairs → Type 0
StoreFits [] = ⊤
StoreFits (pair ∷ pairs) = IsFitting pair.1 × StoreFits pairs

-- ---- variables

-- each variable of the program is in the store with its kind, and all its values fit
pub record IsStored (p : Program) (store : Pairs) : Type 0 where
  pub holds : Holds (pairs_of p.variables) store
  pub fits : StoreFits store

-- ---- the stack and the options

-- what stands on the stack is of its entry; a destination is one of the entry's labels
abbrev pub IsEntry : ShapeEntry → StackEntry → Type 0
IsEntry (Of k) (machine.Value v) = IsOf k v
IsEntry shapes.Null machine.Null = ⊤
IsEntry (shapes.Destination labels) (machine.Destination label) = Contains labels label
IsEntry _ _ = ⊥

abbrev pub HasEntries : List ShapeEntry → Stack → Type 0
HasEntries [] [] = ⊤
HasEntries (e ∷ es) (x ∷ xs) = IsEntry e x × HasEntries es xs
HasEntries _ _ = ⊥

-- an option of that label: it has the id of a line of the program with as many holes as it has values
pub record IsOffer (p : Program) (label : ℕ) (o : Offer) : Type 0 where
  pub at : o.label ≡ label
  pub line : IsLine p (length o.values) o.id
  pub fits : AreFitting o.values

-- options of these labels, in order
abbrev pub HasOffers : Program → List ℕ → List Offer → Type 0
HasOffers p [] [] = ⊤
HasOffers p (l ∷ ls) (o ∷ os) = IsOffer p l o × HasOffers p ls os
HasOffers p _ _ = ⊥

-- ---- places

-- the place has that shape, in a list of shapes that agrees; of a valid program there is one such list
pub record HasShapeAt (p : Program) (n : CodeNode) (place : ℕ) (s : Shape) : Type 0 where
  pub shapes : Shapes
  pub agrees : Agrees p n shapes
  pub has : HasShape shapes place s

-- that instruction stands at the place, which has a shape
pub record Stands (p : Program) (n : CodeNode) (place : ℕ) (instr : Instr) : Type 0 where
  pub line : ℕ
  pub stands : slice_get n.code place ≡ Some (record { line = line; instr = instr })
  pub shape : Shape
  pub has : HasShapeAt p n place shape

-- that instruction stands before the place, and has a shape
pub record Behind (p : Program) (n : CodeNode) (place : ℕ) (instr : Instr) : Type 0 where
  pub before : ℕ
  pub next : place ≡ before + 1
  pub stands : Stands p n before instr

-- the stack and the pending options are of the place's shape
pub record IsShaped (p : Program) (n : CodeNode) (w : MachineState) : Type 0 where
  pub entries : List ShapeEntry
  pub labels : List ℕ
  pub has : HasShapeAt p n w.place (shape entries labels)
  pub entered : HasEntries entries w.stack
  pub offered : HasOffers p labels w.pending

-- so are they behind that instruction
pub record IsBehind (p : Program) (n : CodeNode) (instr : Instr) (w : MachineState) : Type 0 where
  pub behind : Behind p n w.place instr
  pub shaped : IsShaped p n w

-- an empty stack and nothing pending
pub record IsEmpty (w : MachineState) : Type 0 where
  pub no_entries : w.stack ≡ []
  pub no_offers : w.pending ≡ []

-- ---- states

-- the node is to be entered
pub record IsEntering (w : MachineState) : Type 0 where
  pub first : w.place ≡ 0
  pub empty : IsEmpty w

-- the node's start was given
pub record IsAtStart (p : Program) (n : CodeNode) (w : MachineState) : Type 0 where
  pub first : w.place ≡ 0
  pub shaped : IsShaped p n w

-- a line of that id with these values was given
pub record IsAtLine (p : Program) (n : CodeNode) (id : List ℕ) (values : List V.Value) (w : MachineState) : Type 0 where
  pub behind : IsBehind p n (code.RunLine (length values) id) w
  pub fits : AreFitting values

-- a command was given
pub record IsAtCommand (p : Program) (n : CodeNode) (w : MachineState) : Type 0 where
  pub count : ℕ
  pub text : List ℕ
  pub behind : IsBehind p n (code.RunCommand count text) w

-- these options were shown: the place has the stack's entries behind a destination of their labels
pub record IsAtOptions (p : Program) (n : CodeNode) (offers : List Offer) (w : MachineState) : Type 0 where
  pub behind : Behind p n w.place code.ShowOptions
  pub labels : List ℕ
  pub entries : List ShapeEntry
  pub has : HasShapeAt p n w.place (shape (shapes.Destination labels ∷ entries) [])
  pub entered : HasEntries entries w.stack
  pub offered : HasOffers p labels offers
  pub nothing : w.pending ≡ []

-- a function of the program was asked: the place has the stack's entries behind the function's result
pub record IsAtCall (p : Program) (n : CodeNode) (name : List ℕ) (args : List V.Value) (w : MachineState) : Type 0 where
  pub signature : Signature
  pub host : builtin_named name ≡ None
  pub named : signature_named p.functions name ≡ Some signature
  pub takes : AreOf signature.params args
  pub behind : Behind p n w.place (code.CallFunc (length args) name)
  pub entries : List ShapeEntry
  pub labels : List ℕ
  pub has : HasShapeAt p n w.place (shape (Of signature.result ∷ entries) labels)
  pub entered : HasEntries entries w.stack
  pub offered : HasOffers p labels w.pending

-- the node's end was given, at that instruction
pub record IsAtEnd (p : Program) (n : CodeNode) (instr : Instr) (w : MachineState) : Type 0 where
  pub stands : Stands p n w.place instr
  pub empty : IsEmpty w

-- the first node of that title is one of which this holds
pub record IsIn (p : Program) (title : List ℕ) (P : CodeNode → Type 0) : Type 0 where
  pub node : CodeNode
  pub named : code_titled title p.nodes ≡ Some node
  pub holds : P node

-- what a state rests on
abbrev pub IsResting : Program → CodeNode → Rest → MachineState → Type 0
IsResting p n Starts w = IsAtStart p n w
IsResting p n (Line id values) w = IsAtLine p n id values w
IsResting p n (Command text) w = IsAtCommand p n w
IsResting p n (Options offers) w = IsAtOptions p n offers w
IsResting p n (Ends Stop) w = IsAtEnd p n code.Stop w
IsResting p n (Ends (To title)) w = IsAtEnd p n code.RunNode w × (length title ≤ 65536)

-- ---- values alone

-- each value on the stack fits
abbrev pub StackFits : Stack → Type 0
StackFits [] = ⊤
StackFits (machine.Value v ∷ stack) = IsFitting v × StackFits stack
StackFits (machine.Null ∷ stack) = StackFits stack
StackFits (machine.Destination label ∷ stack) = StackFits stack

abbrev pub OffersFit : List Offer → Type 0
OffersFit [] = ⊤
OffersFit (o ∷ os) = AreFitting o.values × OffersFit os

pub record IsOver (w : MachineState) : Type 0 where
  pub entries : StackFits w.stack
  pub offers : OffersFit w.pending

-- ---- the state

-- what a state stands at, by what it is doing; of a run that is over only the values are spoken of
abbrev pub IsPlaced : Program → Doing → MachineState → Type 0
IsPlaced p Runs w = IsIn p w.here.node (λ n. IsShaped p n w)
IsPlaced p Enters w = IsIn p w.here.node (λ n. IsEntering w)
IsPlaced p (Rests rest) w = IsIn p w.here.node (λ n. IsResting p n rest w)
IsPlaced p (Asks name args) w = IsIn p w.here.node (λ n. IsAtCall p n name args w)
IsPlaced p (Over cause) w = IsOver w

pub record Shaped (p : Program) (w : MachineState) : Type 0 where
  pub placed : IsPlaced p w.doing w
  pub stored : IsStored p w.state.store

-- A resting state as plain data, and when it fits a program (docs/meaning.md, Never stuck).
use Rattle.std.specs.Prelude.{◌≡◌, ◌≤◌, ℕ, List, [], ◌∷◌, length}
use Rattle.yarn_value.specs.declared.value.Value.{Value}
use Rattle.yarn_value.specs.Pairs.{Pairs}
use Rattle.yarn_value.specs.Tape.{Tape}
use Rattle.yarn_code.specs.declared.program.Instr.{Instr}
use Rattle.yarn_code.specs.declared.program.Instr.TheVariants as code
use Rattle.yarn_code.specs.declared.program.CodeNode.{CodeNode}
use Rattle.yarn_code.specs.declared.program.Program.{Program}
use Rattle.yarn_code.specs.MachineState.{Stack, Offer, Stop, To, Rest, Line, Options, Command, Starts, Ends, Rests, here_in, MachineState, machine}
use Rattle.yarn_check.specs.Shapes as shapes
use Rattle.yarn_check.specs.Shapes.{ShapeEntry, Shape, shape}
use Rattle.yarn_check.specs.Shaped.{AreFitting, HasEntries, HasOffers, HasShapeAt, Stands, Behind, IsIn}

-- a resting state; at rest nothing is pending
pub record Parts : Type 0 where
  pub node : List ℕ
  pub place : ℕ
  pub stack : Stack
  pub rest : Rest
  pub store : Pairs

-- the stack has the entries of the place's shape, which may be any
pub record FitsStack (p : Program) (n : CodeNode) (s : Parts) : Type 0 where
  pub shape : Shape
  pub has : HasShapeAt p n s.place shape
  pub entered : HasEntries shape.entries s.stack

pub record FitsLine (p : Program) (n : CodeNode) (id : List ℕ) (values : List Value) (s : Parts) : Type 0 where
  pub behind : Behind p n s.place (code.RunLine (length values) id)
  pub stack_fits : FitsStack p n s
  pub values_fit : AreFitting values

pub record FitsCommand (p : Program) (n : CodeNode) (s : Parts) : Type 0 where
  pub count : ℕ
  pub text : List ℕ
  pub behind : Behind p n s.place (code.RunCommand count text)
  pub stack_fits : FitsStack p n s

-- the place's shape is the stack and a destination whose labels are those of the options
pub record FitsOptions (p : Program) (n : CodeNode) (offers : List Offer) (s : Parts) : Type 0 where
  pub behind : Behind p n s.place code.ShowOptions
  pub labels : List ℕ
  pub entries : List ShapeEntry
  pub pending : List ℕ
  pub has : HasShapeAt p n s.place (shape (shapes.Destination labels ∷ entries) pending)
  pub entered : HasEntries entries s.stack
  pub offered : HasOffers p labels offers

pub record FitsStart (s : Parts) : Type 0 where
  pub first : s.place ≡ 0
  pub no_entries : s.stack ≡ []

pub record FitsEnd (p : Program) (n : CodeNode) (instr : Instr) (s : Parts) : Type 0 where
  pub stands : Stands p n s.place instr
  pub no_entries : s.stack ≡ []

abbrev pub FitsRest : Program → CodeNode → Rest → Parts → Type 0
FitsRest p n (Line id values) s = FitsLine p n id values s
FitsRest p n (Options offers) s = FitsOptions p n offers s
FitsRest p n (Command text) s = FitsCommand p n s
FitsRest p n Starts s = FitsStart s
FitsRest p n (Ends Stop) s = FitsEnd p n code.Stop s
FitsRest p n (Ends (To title)) s = FitsEnd p n code.RunNode s × (length title ≤ 65536)

-- the node is there, and what it rests on is of the place; of the store nothing is said
abbrev pub Fits : Program → Parts → Type 0
Fits p s = IsIn p s.node (λ n. FitsRest p n s.rest s)

-- the state of these parts, with these answers and this tape
abbrev pub rebuilt : Parts → List ℕ → Tape → MachineState
rebuilt s answers tape = machine (here_in s.node) s.place s.stack [] (Rests s.rest) (record { store = s.store; answers = answers; tape = tape })

-- the parts of a state that rests so
abbrev pub parts_of : Rest → MachineState → Parts
parts_of rest w = record { node = w.here.node; place = w.place; stack = w.stack; rest = rest; store = w.state.store }

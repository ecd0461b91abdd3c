-- What a project gives from a node on (docs/language.md, The meaning).
use Rattle.std.specs.Prelude.{ℕ, zero, suc, pos, ◌+ℤ◌, List, [], ◌∷◌, ◌++◌, nat_eq, if◌then◌else◌, Option, Some, None, Result, Ok, Err}
use Rattle.std.specs.Cmp.Lexicographic.{pointwise}
use Rattle.yarn_value.specs.declared.value.Value.{Value}
use Rattle.yarn_value.specs.declared.fault.RunFault.{RunFault}
use Rattle.yarn_value.specs.declared.fault.RunFault.TheVariants as run
use Rattle.yarn_value.specs.declared.signature.Signature.{Signature}
use Rattle.yarn_value.specs.Operations.{number}
use Rattle.yarn_tree.specs.Trees.{NodeTree, FileTree}
use Rattle.yarn_code.specs.declared.event.Event.TheVariants as event
use Rattle.yarn_code.specs.Moments.{State, Stand, Waits, Behaviour, Outcome, stands, emit, emit_all, finishes, moment, with_value}
use Rattle.yarn_code.specs.Moments as moments
use Rattle.yarn_value.specs.Evaluation.{Scope, Halt, Faults, Asks, BadReply}
use Rattle.yarn_value.specs.Visits.{count_name, visits}
use Rattle.yarn_meaning.specs.Does.{Exit, Through, Jumps, Stops, Halted, Waiting, Done, does_all}

-- ---- nodes

-- a node, and the place of its file in the project, from 0
pub record Placed : Type 0 where
  pub node : NodeTree
  pub file : ℕ

-- the nodes of the file at that place
abbrev pub nodes_at : ℕ → List NodeTree → List Placed
nodes_at file [] = []
nodes_at file (n ∷ ns) = record { node = n; file = file } ∷ nodes_at file ns

-- the nodes of files in order, of which the first is at that place
abbrev pub nodes_from : ℕ → List FileTree → List Placed
nodes_from file [] = []
nodes_from file (f ∷ fs) = nodes_at file f.nodes ++ nodes_from (suc file) fs

abbrev pub first_titled : List ℕ → List Placed → Option Placed
first_titled title [] = None
first_titled title (n ∷ ns) = if pointwise nat_eq n.node.title title then Some n else first_titled title ns

-- the first node of that title, over all files in order
abbrev pub find : List ℕ → List FileTree → Option Placed
find title files = first_titled title (nodes_from 0 files)

abbrev pub at_node : Option Placed → Behaviour → (Placed → Behaviour) → Behaviour
at_node None none some = none
at_node (Some n) none some = some n

-- ---- how a node is left

abbrev pub faults_at : Placed → ℕ → RunFault → Stand
faults_at n line fault = moments.Faults (record { fault = fault; file = n.file; line = line; node = n.node.title })

-- an evaluation on that line of the node gave no value
abbrev pub halts_at : Placed → ℕ → Halt → Stand
halts_at n line (Faults fault) = faults_at n line fault
halts_at n line (Asks name args) = moments.Asks name args
halts_at n line (BadReply name value) = moments.BadReply name value

-- the count of the node is stored, and its end is given; or that line of the node faults
abbrev pub counted : Placed → ℕ → State → Result Value RunFault → (State → Behaviour) → Behaviour
counted n line st (Ok count) next =
    emit (moment (event.NodeEnd n.node.title) (with_value (count_name n.node.title) count st)) (next (with_value (count_name n.node.title) count st))
counted n line st (Err fault) next = stands (faults_at n line fault) st

-- the node is left on that line: its count rises by 1
abbrev pub leaves : Placed → ℕ → State → (State → Behaviour) → Behaviour
leaves n line st next = counted n line st (number (visits st.store n.node.title +ℤ pos 1)) next

-- what follows the end of statements
pub record Exits : Type 0 where
  pub through : State → Behaviour
  pub jumps : ℕ → List ℕ → State → Behaviour
  pub stops : ℕ → State → Behaviour
  pub halts : ℕ → Halt → State → Behaviour

abbrev pub left : Exit → State → Exits → Behaviour
left Through st exits = exits.through st
left (Jumps line title) st exits = exits.jumps line title st
left (Stops line) st exits = exits.stops line st
left (Halted line halt) st exits = exits.halts line halt st
left Waiting st exits = stands Waits st

-- the moments of statements, and what follows their end
abbrev pub after : Done → Exits → Behaviour
after d exits = emit_all d.moments (left d.exit d.state exits)

-- ---- pieces

-- where a run is: the node
pub record Piece : Type 0 where
  pub node : Placed

-- how a piece is done
abbrev pub Going : Type 0
Going = Piece → State → Behaviour

-- the body of a node, entered from a piece
abbrev pub entered : Piece → Placed → Piece
entered from n = record from {
  node = n;
}

-- the start of a node, and its body
abbrev pub in_node : Going → Piece → State → Behaviour
in_node go piece st = emit (moment (event.NodeStart piece.node.node.title) st) (go piece st)

-- the node of that title is entered from a piece; or none has the title, and that line of the node faults
abbrev pub enters : List FileTree → Going → Placed → ℕ → List ℕ → Piece → State → Behaviour
enters files go n line title piece st =
    at_node (find title files) (stands (faults_at n line (run.UnknownNode title)) st) (λ to. in_node go (entered piece to) st)

-- so a node is left: at the end of its body and by a `stop` the run is over, and a jump enters the next node
abbrev pub exits_of : List FileTree → Going → Piece → Exits
exits_of files go piece = record {
  through = λ st. leaves piece.node piece.node.node.end_line st finishes;
  jumps = λ line title st. leaves piece.node line st (enters files go piece.node line title piece);
  stops = λ line st. leaves piece.node line st finishes;
  halts = λ line halt st. stands (halts_at piece.node line halt) st;
}

-- what expressions of a piece know
abbrev pub scope_of : List Signature → Piece → Scope
scope_of functions piece = record {
  functions = functions;
}

module _ (functions : List Signature) (files : List FileTree) where
  -- a piece, and what follows it
  abbrev pub in_piece : Going → Piece → State → Behaviour
  in_piece go piece st = after (does_all (scope_of functions piece) piece.node.node.body st) (exits_of files go piece)

  -- a piece, through at most so many pieces
  abbrev pub from : ℕ → Going
  from zero piece st = stands moments.Limit st
  from (suc fuel) piece st = in_piece (from fuel) piece st

  -- the piece of a node that is entered first
  abbrev pub starting : Placed → Piece
  starting n = record {
    node = n;
  }

  -- the first k events from the node of that title on, for k at least 1, and the stand there; each piece begins behind an event, so
  -- k - 1 pieces suffice. No run is made where no node has the title.
  abbrev pub first_of : List ℕ → State → ℕ → Outcome
  first_of start st zero = stands moments.Limit st zero
  first_of start st (suc k) = at_node (find start files) (stands moments.Ended st) (λ n. in_node (from k) (starting n) st) k

-- The states of the machine (docs/meaning.md, The machine).
use Rattle.std.specs.Prelude.{ℕ, List, [], ◌∷◌, Bool}
use Rattle.yarn_value.specs.declared.value.Value as V
use Rattle.yarn_value.specs.Pairs.{Pairs, with_missing}
use Rattle.yarn_value.specs.Tape.{Tape}
use Rattle.yarn_code.specs.declared.event.Choice.{Choice}
use Rattle.yarn_code.specs.declared.program.Program.{Program}
use Rattle.yarn_code.specs.Parts.{pairs_of}
use Rattle.yarn_code.specs.Moments.{State, FaultPlace}

-- what stands on the stack
pub data StackEntry : Type 0 where
  Value : V.Value → StackEntry
  Null : StackEntry
  -- a place of the node
  Destination : ℕ → StackEntry

-- the top first
abbrev pub Stack : Type 0
Stack = List StackEntry

-- an option with the place of its body
pub record Offer : Type 0 where
  pub id : List ℕ
  pub label : ℕ
  pub available : Bool
  pub values : List V.Value

-- the option as the player sees it
abbrev pub choice_of : Offer → Choice
choice_of o = record { id = o.id; values = o.values; available = o.available }

abbrev pub choices : List Offer → List Choice
choices [] = []
choices (o ∷ os) = choice_of o ∷ choices os

-- how a node is left: by `stop` or at its body's end, or to a title
pub data Leave : Type 0 where
  Stop : Leave
  To : List ℕ → Leave

-- the event that was given, and that is gone on from
pub data Rest : Type 0 where
  Line : List ℕ → List V.Value → Rest
  -- these options were shown, and an answer is to choose one; so it is after an answer that was rejected
  Options : List Offer → Rest
  Command : List ℕ → Rest
  -- the node's start
  Starts : Rest
  -- the node's end
  Ends : Leave → Rest

-- why a run is over
pub data Cause : Type 0 where
  Ended : Cause
  Fault : FaultPlace → Cause

pub data Doing : Type 0 where
  -- the instruction at the place is next
  Runs : Doing
  -- the node is to be entered
  Enters : Doing
  Rests : Rest → Doing
  -- a host function is asked with these arguments
  Asks : List ℕ → List V.Value → Doing
  Over : Cause → Doing

-- in which node: its title
pub record Here : Type 0 where
  pub node : List ℕ

-- in the node of that title, as a run begins
abbrev pub here_in : List ℕ → Here
here_in title = record {
  node = title;
}

-- in the node of that title, from another
abbrev pub moved_to : List ℕ → Here → Here
moved_to title here = record here { node = title }

-- a state of the machine, with the store, the answers and the replies that are left. The place is that of the next
-- instruction, or that of the STOP or RUN_NODE where the node's end was given.
pub record MachineState : Type 0 where
  pub here : Here
  pub place : ℕ
  pub stack : Stack
  pub pending : List Offer
  pub doing : Doing
  pub state : State

abbrev pub machine : Here → ℕ → Stack → List Offer → Doing → State → MachineState
machine here place stack pending doing st =
    record { here = here; place = place; stack = stack; pending = pending; doing = doing; state = st }

-- ---- states made of others

-- the instruction at that place is next, with that stack
abbrev pub runs_at : ℕ → Stack → MachineState → MachineState
runs_at place stack w = record w { place = place; stack = stack; doing = Runs }

-- it rests at that place, with that stack
abbrev pub rests_at : ℕ → Stack → Rest → MachineState → MachineState
rests_at place stack rest w = record w { place = place; stack = stack; doing = Rests rest }

-- the node is to be entered, with an empty stack and nothing pending
abbrev pub enters : Here → State → MachineState
enters here st = machine here 0 [] [] Enters st

-- the run is over
abbrev pub over : Cause → MachineState → MachineState
over cause w = record w { stack = []; pending = []; doing = Over cause }

abbrev pub with_state : State → MachineState → MachineState
with_state st w = record w { state = st }

-- with these answers and replies
abbrev pub with_input : List ℕ → Tape → MachineState → MachineState
with_input bytes tape w = with_state (record { store = w.state.store; answers = bytes; tape = tape }) w

-- ---- the first state

-- the store with which a run begins: the pairs that are given, and then each variable of the program that they lack
abbrev pub begun : Program → Pairs → Pairs
begun p pairs = with_missing pairs (pairs_of p.variables)

-- the first state of a run from the node of that title
abbrev pub entry : Program → List ℕ → State → MachineState
entry p start st = enters (here_in start) (record { store = begun p st.store; answers = st.answers; tape = st.tape })

-- What a conversation gives and where it stands (docs/language.md, The meaning).
use Rattle.std.specs.Prelude.{ℕ, zero, suc, List, [], ◌∷◌}
use Rattle.yarn_value.specs.declared.value.Value.{Value}
use Rattle.yarn_value.specs.declared.fault.RunFault.{RunFault}
use Rattle.yarn_value.specs.Pairs.{Pairs, put}
use Rattle.yarn_value.specs.Tape.{Tape}
use Rattle.yarn_code.specs.declared.event.Event.{Event}
use Rattle.yarn_code.specs.declared.event.Event.TheVariants as event

-- the store, the bytes of the input that are left, and the replies that are left
pub record State : Type 0 where
  pub store : Pairs
  pub answers : List ℕ
  pub tape : Tape

abbrev pub with_tape : Tape → State → State
with_tape t st = record { store = st.store; answers = st.answers; tape = t }

abbrev pub with_answers : List ℕ → State → State
with_answers bytes st = record { store = st.store; answers = bytes; tape = st.tape }

abbrev pub with_value : List ℕ → Value → State → State
with_value name value st = record { store = put st.store name value; answers = st.answers; tape = st.tape }

-- an event, with the state as it is given
pub record Moment : Type 0 where
  pub event : Event
  pub state : State

-- why a run ends before its end: the file's place in the project, from 0, the line, and the title of the node
pub record FaultPlace : Type 0 where
  pub fault : RunFault
  pub file : ℕ
  pub line : ℕ
  pub node : List ℕ

-- where a run stands
pub data Stand : Type 0 where
  Ended : Stand
  Limit : Stand
  Faults : FaultPlace → Stand
  -- a group of options, where no bytes of the input are left
  Waits : Stand
  -- a host function with these arguments, where no reply is left
  Asks : List ℕ → List Value → Stand
  -- the function's reply is of another kind than its own, or a text of more than 65,536 bytes
  BadReply : List ℕ → Value → Stand

-- what was given, and the stand there with its state
pub record Outcome : Type 0 where
  pub moments : List Moment
  pub stand : Stand
  pub state : State

-- what is given within the next k + 1 events
abbrev pub Behaviour : Type 0
Behaviour = ℕ → Outcome

abbrev pub moment : Event → State → Moment
moment e st = record { event = e; state = st }

-- nothing more is given
abbrev pub stands : Stand → State → Behaviour
stands s st k = record { moments = []; stand = s; state = st }

abbrev pub with_moment : Moment → Outcome → Outcome
with_moment m o = record { moments = m ∷ o.moments; stand = o.stand; state = o.state }

-- an event, and what follows it
abbrev pub emit : Moment → Behaviour → Behaviour
emit m b zero = record { moments = m ∷ []; stand = Limit; state = m.state }
emit m b (suc k) = with_moment m (b k)

abbrev pub emit_all : List Moment → Behaviour → Behaviour
emit_all [] b = b
emit_all (m ∷ ms) b = emit m (emit_all ms b)

-- the end of the conversation, which nothing follows
abbrev pub finishes : State → Behaviour
finishes st k = record { moments = moment event.End st ∷ []; stand = Ended; state = st }

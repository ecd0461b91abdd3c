-- What holds of the states of a valid program (docs/meaning.md, Never stuck).
use Rattle.std.specs.Prelude.{◌≡◌, ℕ, zero, suc, ◌+◌, List, [], ◌∷◌, length, true, false, ◌&&◌, Some, is_some, slice_get, IsTrue, ⊤}
use Rattle.yarn_value.specs.declared.value.Value.{Value}
use Rattle.yarn_value.specs.declared.value.Value.TheVariants.{Number, Str, Truth}
use Rattle.yarn_value.specs.declared.fault.RunFault.TheVariants as fault
use Rattle.yarn_value.specs.declared.reply.Reply.{Reply}
use Rattle.yarn_value.specs.Operations.{same_text}
use Rattle.yarn_value.specs.Signatures.{signature_named}
use Rattle.yarn_value.specs.Pairs.{Pairs}
use Rattle.yarn_value.specs.Tape.{Tape}
use Rattle.yarn_value.specs.Replies.{is_reply_of, same_values}
use Rattle.yarn_code.specs.declared.program.Instr.TheVariants as code
use Rattle.yarn_code.specs.declared.program.CodeNode.{CodeNode}
use Rattle.yarn_code.specs.declared.program.Program.{Program}
use Rattle.yarn_code.specs.Answer.{answer_of}
use Rattle.yarn_code.specs.Answers.{any_open}
use Rattle.yarn_code.specs.Moments.{State, with_tape}
use Rattle.yarn_code.specs.Parts.{pairs_of, coded, code_titled}
use Rattle.yarn_code.specs.Kinds.{KeepsKinds}
use Rattle.yarn_code.specs.Fields.{IsFitting, HasFields}
use Rattle.yarn_code.specs.MachineState as machine
use Rattle.yarn_code.specs.MachineState.{Offer, choices, Rest, Line, Options, Command, Starts, Ends, Doing, Runs, Enters, Rests, Asks, Over, MachineState, runs_at, with_state, begun, entry}
use Rattle.yarn_code.specs.Machine.{Stepped, Quiet, Shows, Finishes, StandsAt, Stuck, next, breaks}
use Rattle.yarn_code.specs.Runs.{Course, Reaches}
use Rattle.yarn_check.specs.Shapes.{Shapes, Agrees, IsValid}
use Rattle.yarn_check.specs.Shaped.{StoreFits, IsStored, IsIn, Shaped}
use Rattle.yarn_check.specs.Fits.{Parts, Fits, rebuilt, parts_of}

-- a valid program, each of whose fields is as it may be
pub record IsRunnable (p : Program) : Type 0 where
  pub valid : IsValid p
  pub fields : HasFields p

-- ---- shapes

-- two lists of shapes that agree with a node are the same
abbrev pub OneShapes : Type 0
OneShapes = (p : Program) (n : CodeNode) (a b : Shapes) → Agrees p n a → Agrees p n b → a ≡ b

-- ---- each state is shaped

-- each number that is left on the tape has 64 bits
abbrev pub NumberFits : Value → Type 0
NumberFits (Number n) = IsFitting (Number n)
NumberFits (Str text) = ⊤
NumberFits (Truth b) = ⊤

abbrev pub TapeFits : Tape → Type 0
TapeFits [] = ⊤
TapeFits (r ∷ tape) = NumberFits r.value × TapeFits tape

-- a state that is shaped, with a tape that fits
pub record IsGood (p : Program) (w : MachineState) : Type 0 where
  pub shaped : Shaped p w
  pub tape : TapeFits w.state.tape

-- a step is there, and the state behind it is good; so is the one at which a run ends or stands
abbrev pub IsStep : Program → Stepped → Type 0
IsStep p (Quiet w) = IsGood p w
IsStep p (Shows shown w) = IsGood p w
IsStep p (Finishes w) = IsGood p w
IsStep p (StandsAt stand w) = IsGood p w
IsStep p Stuck = ⊥

abbrev pub Steps : Type 0
Steps = (p : Program) (w : MachineState) → IsRunnable p → IsGood p w → IsStep p (next p w)

-- the store with which a run begins has each variable in its kind, where all given values fit, and those of variables are of their kinds
abbrev pub StoresBegin : Type 0
StoresBegin = (p : Program) (pairs : Pairs) → HasFields p → KeepsKinds (pairs_of p.variables) pairs → StoreFits pairs → IsStored p (begun p pairs)

-- the first state is good, where its start is there and its store has each variable in its kind
abbrev pub Begins : Type 0
Begins = (p : Program) (start : List ℕ) (st : State) → IsIn p start (λ n. ⊤) → IsStored p (entry p start st).state.store → TapeFits st.tape → IsGood p (entry p start st)

-- ---- no state is stuck

abbrev pub NeverStuck : Type 0
NeverStuck = (p : Program) (w : MachineState) → IsRunnable p → IsGood p w → next p w ≡ Stuck → ⊥

-- the next reply was given to this question, and is of the declared kind and no text over 65,536 bytes
pub record HasReply (p : Program) (name : List ℕ) (args : List Value) (tape : Tape) : Type 0 where
  pub reply : Reply
  pub rest : Tape
  pub is : tape ≡ reply ∷ rest
  pub asked : (same_text reply.name name && same_values reply.args args) ≡ true
  pub right : is_reply_of (signature_named p.functions name) reply.value ≡ true

-- an answer is there, where one is waited for
abbrev pub HasAnswer : Rest → State → Type 0
HasAnswer (Options offers) st = IsTrue (is_some (answer_of st.answers))
HasAnswer (Line id values) st = ⊤
HasAnswer (Command text) st = ⊤
HasAnswer Starts st = ⊤
HasAnswer (Ends leave) st = ⊤

-- what the state waits for is there: an answer or a reply; over is over
abbrev pub HasInput : Program → Doing → State → Type 0
HasInput p Runs st = ⊤
HasInput p Enters st = ⊤
HasInput p (Rests rest) st = HasAnswer rest st
HasInput p (Asks name args) st = HasReply p name args st.tape
HasInput p (Over cause) st = ⊥

-- it goes on, or gives an event
abbrev pub MakesStep : Stepped → Type 0
MakesStep (Quiet w) = ⊤
MakesStep (Shows shown w) = ⊤
MakesStep (Finishes w) = ⊥
MakesStep (StandsAt stand w) = ⊥
MakesStep Stuck = ⊥

-- for each answer and each right reply a state that isn't over makes a step, the one that `next` gives
abbrev pub StepsOn : Type 0
StepsOn = (p : Program) (w : MachineState) → IsRunnable p → IsGood p w → HasInput p w.doing w.state → MakesStep (next p w)

-- a right reply is taken: it is pushed
abbrev pub TakesReply : Type 0
TakesReply = (p : Program) (w : MachineState) (name : List ℕ) (args : List Value) → w.doing ≡ Asks name args →
    Shaped p w → (has : HasReply p name args w.state.tape) →
    next p w ≡ Quiet (runs_at w.place (machine.Value has.reply.value ∷ w.stack) (with_state (with_tape has.rest w.state) w))

-- options of which none is open are a fault, on the line of their SHOW_OPTIONS
pub record Closes (p : Program) (x : Stepped) (w : MachineState) : Type 0 where
  pub node : CodeNode
  pub named : code_titled w.here.node p.nodes ≡ Some node
  pub before : ℕ
  pub line : ℕ
  pub stands : slice_get node.code before ≡ Some (coded line code.ShowOptions)
  pub is : x ≡ breaks node line fault.NoOpenOption w

abbrev pub NoneOpen : Type 0
NoneOpen = (p : Program) (w : MachineState) (offers : List Offer) → w.doing ≡ Rests (Options offers) →
    Shaped p w → any_open (choices offers) ≡ false → Closes p (next p w) w

-- ---- the next event comes

-- an instruction takes one of so many ticks
abbrev pub spends : Doing → ℕ → (ℕ → Type 0) → Type 0
spends Runs zero go = ⊥
spends Runs (suc ticks) go = go ticks
spends Enters ticks go = go ticks
spends (Rests rest) ticks go = go ticks
spends (Asks name args) ticks go = go ticks
spends (Over cause) ticks go = go ticks

-- a question has come, or else this
abbrev pub OrAsks : Doing → Type 0 → Type 0
OrAsks (Asks name args) go = ⊤
OrAsks Runs go = go
OrAsks Enters go = go
OrAsks (Rests rest) go = go
OrAsks (Over cause) go = go

abbrev pub ComesBy : (MachineState → Type 0) → Stepped → Type 0
ComesBy go (Quiet w) = OrAsks w.doing (go w)
ComesBy go (Shows shown w) = ⊤
ComesBy go (Finishes w) = ⊤
ComesBy go (StandsAt stand w) = ⊤
ComesBy go Stuck = ⊥

-- an event, a question or an end comes within so many steps, of which so many run an instruction
abbrev pub Comes : Program → ℕ → ℕ → MachineState → Type 0
Comes p zero ticks w = ⊥
Comes p (suc most) ticks w = spends w.doing ticks (λ left. ComesBy (Comes p most left) (next p w))

-- within as many ticks as the node has instructions
abbrev pub ComesSoon : Type 0
ComesSoon = (p : Program) (w : MachineState) (n : CodeNode) → IsRunnable p → IsGood p w → code_titled w.here.node p.nodes ≡ Some n → Comes p (length n.code + 3) (length n.code) w

-- ---- runs

-- from a state there is one outcome of k + 1 events, for each k
pub record HasOutcome (p : Program) (w : MachineState) (k : ℕ) : Type 0 where
  pub outcome : Course
  pub first : Reaches p w k outcome
  pub alone : (r : Course) → Reaches p w k r → r ≡ outcome

abbrev pub HaveOutcomes : Type 0
HaveOutcomes = (p : Program) (w : MachineState) (k : ℕ) → IsRunnable p → IsGood p w → HasOutcome p w k

-- ---- states as plain data

-- a state whose parts fit, and which has the variables of the program, is shaped
abbrev pub RebuildsShaped : Type 0
RebuildsShaped = (p : Program) (s : Parts) (answers : List ℕ) (tape : Tape) → IsRunnable p → Fits p s → IsStored p s.store → Shaped p (rebuilt s answers tape)

-- a shaped state that rests fits, has the variables, and is that of its parts
pub record IsOfParts (p : Program) (rest : Rest) (w : MachineState) : Type 0 where
  pub fits : Fits p (parts_of rest w)
  pub stored : IsStored p w.state.store
  pub again : rebuilt (parts_of rest w) w.state.answers w.state.tape ≡ w

abbrev pub PartsFit : Type 0
PartsFit = (p : Program) (w : MachineState) (rest : Rest) → IsRunnable p → Shaped p w → w.doing ≡ Rests rest → IsOfParts p rest w

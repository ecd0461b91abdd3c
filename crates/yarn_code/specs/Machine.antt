-- The machine, by single steps (docs/meaning.md, The machine; docs/instructions.md).
use Rattle.std.specs.Prelude.{ℕ, zero, suc, ◌+◌, ◌-◌, List, [], ◌∷◌, ◌++◌, Bool, true, false, ◌&&◌, if◌then◌else◌, Result, Ok, Err, Option, Some, None, slice_get}
use Rattle.yarn_value.specs.declared.value.Value as V
use Rattle.yarn_value.specs.declared.value.Value.TheVariants as value
use Rattle.yarn_value.specs.declared.fault.RunFault.{RunFault}
use Rattle.yarn_value.specs.declared.fault.RunFault.TheVariants as fault
use Rattle.yarn_value.specs.Builtins.{Row, builtin_named}
use Rattle.yarn_value.specs.Operations.{same_text}
use Rattle.yarn_value.specs.Templates.{template_of, expanded}
use Rattle.yarn_value.specs.Pairs.{value_under}
use Rattle.yarn_value.specs.Tape.{Tape}
use Rattle.yarn_value.specs.Evaluation.{Scope}
use Rattle.yarn_value.specs.Calls.{builtin_result}
use Rattle.yarn_value.specs.Replies.{is_reply_of, same_values}
use Rattle.yarn_value.specs.Signatures.{signature_named}
use Rattle.yarn_code.specs.declared.event.Event.{Event}
use Rattle.yarn_code.specs.declared.event.Event.TheVariants as event
use Rattle.yarn_code.specs.declared.program.Instr.{Instr}
use Rattle.yarn_code.specs.declared.program.Instr.TheVariants as code
use Rattle.yarn_code.specs.declared.program.Coded.{Coded}
use Rattle.yarn_code.specs.declared.program.CodeNode.{CodeNode}
use Rattle.yarn_code.specs.declared.program.Program.{Program}
use Rattle.yarn_code.specs.Answer.{answer_of}
use Rattle.yarn_code.specs.Answers.{chooses, any_open, less_one, at_answer}
use Rattle.yarn_code.specs.Moments.{Stand, FaultPlace, with_tape, with_answers, with_value}
use Rattle.yarn_code.specs.Moments as moments
use Rattle.yarn_code.specs.Parts.{code_titled, line_at}
use Rattle.yarn_code.specs.MachineState.{StackEntry, Value, Null, Destination, Stack, Offer, choices, Leave, Stop, To, Rest, Line, Options, Command, Starts, Ends, Cause, Ended, Fault, Doing, Runs, Enters, Rests, Asks, Over, Here, moved_to, MachineState, runs_at, rests_at, enters, over, with_state}

-- what a step does
pub data Stepped : Type 0 where
  -- it gives nothing
  Quiet : MachineState → Stepped
  -- it gives an event
  Shows : Event → MachineState → Stepped
  -- it gives End
  Finishes : MachineState → Stepped
  -- no step is made, and the run stands there
  StandsAt : Stand → MachineState → Stepped
  -- there is no step: the state is none that a valid program comes to
  Stuck : Stepped

-- ---- the stack

-- takes so many values off the stack, the last on top, in front of those taken
abbrev pub take_values : {R : Type 0} → ℕ → List V.Value → Stack → R → (List V.Value → Stack → R) → R
take_values zero vs stack stuck go = go vs stack
take_values (suc n) vs (Value v ∷ stack) stuck go = take_values n (v ∷ vs) stack stuck go
take_values (suc n) vs (Null ∷ stack) stuck go = stuck
take_values (suc n) vs (Destination label ∷ stack) stuck go = stuck
take_values (suc n) vs [] stuck go = stuck

abbrev pub on_value : {R : Type 0} → Stack → R → (V.Value → Stack → R) → R
on_value (Value v ∷ stack) stuck go = go v stack
on_value (Null ∷ stack) stuck go = stuck
on_value (Destination label ∷ stack) stuck go = stuck
on_value [] stuck go = stuck

abbrev pub when_truth : {R : Type 0} → V.Value → R → (Bool → R) → R
when_truth (value.Truth b) stuck go = go b
when_truth (value.Number n) stuck go = stuck
when_truth (value.Str text) stuck go = stuck

abbrev pub when_text : {R : Type 0} → V.Value → R → (List ℕ → R) → R
when_text (value.Str text) stuck go = go text
when_text (value.Number n) stuck go = stuck
when_text (value.Truth b) stuck go = stuck

-- takes a truth
abbrev pub on_truth : {R : Type 0} → Stack → R → (Bool → Stack → R) → R
on_truth stack stuck go = on_value stack stuck (λ v rest. when_truth v stuck (λ b. go b rest))

-- takes a text
abbrev pub on_text : {R : Type 0} → Stack → R → (List ℕ → Stack → R) → R
on_text stack stuck go = on_value stack stuck (λ v rest. when_text v stuck (λ text. go text rest))

-- where conditional, takes a truth, and says whether it is True
abbrev pub take_truth : {R : Type 0} → Bool → Stack → R → (Bool → Stack → R) → R
take_truth true stack stuck go = on_truth stack stuck go
take_truth false stack stuck go = go true stack

abbrev pub on_destination : {R : Type 0} → Stack → R → (ℕ → R) → R
on_destination (Destination label ∷ stack) stuck go = go label
on_destination (Value v ∷ stack) stuck go = stuck
on_destination (Null ∷ stack) stuck go = stuck
on_destination [] stuck go = stuck

abbrev pub on_any : {R : Type 0} → Stack → R → (Stack → R) → R
on_any [] stuck go = stuck
on_any (e ∷ stack) stuck go = go stack

abbrev pub when_empty : {R : Type 0} → Stack → List Offer → R → R → R
when_empty [] [] stuck go = go
when_empty [] (o ∷ os) stuck go = stuck
when_empty (e ∷ stack) pending stuck go = stuck

abbrev pub when_first : {R : Type 0} → ℕ → R → R → R
when_first zero stuck go = go
when_first (suc n) stuck go = stuck

-- ---- what is there

abbrev pub when_some : {A R : Type 0} → Option A → R → (A → R) → R
when_some None stuck go = stuck
when_some (Some a) stuck go = go a

abbrev pub offer : List ℕ → List V.Value → Bool → ℕ → Offer
offer id values can label = record { id = id; label = label; available = can; values = values }

-- the label of the option of that number, from 0
abbrev pub label_at : ℕ → List Offer → ℕ
label_at n [] = 0
label_at zero (o ∷ os) = o.label
label_at (suc n) (o ∷ os) = label_at n os

-- the run is over by a fault on that line of the node
abbrev pub fault_at : CodeNode → ℕ → RunFault → FaultPlace
fault_at n line f = record { fault = f; file = n.file; line = line; node = n.title }

abbrev pub breaks : CodeNode → ℕ → RunFault → MachineState → Stepped
breaks n line f w = Quiet (over (Fault (fault_at n line f)) w)

-- ---- the program

module _ (p : Program) where
  -- what builtins know there
  abbrev pub scope_at : Here → Scope
  scope_at here = record {
    functions = p.functions;
  }

  -- goes on in the node of the state
  abbrev pub in_node : MachineState → (CodeNode → Stepped) → Stepped
  in_node w go = when_some (code_titled w.here.node p.nodes) Stuck go

  -- the node of that title is entered, or that line of the node faults
  abbrev pub enters_to : CodeNode → ℕ → List ℕ → MachineState → Stepped
  enters_to n line title w =
      when_some (code_titled title p.nodes) (breaks n line (fault.UnknownNode title) w)
      (λ to. Quiet (enters (moved_to title w.here) w.state))

  -- ---- one instruction

  -- what a builtin gave is pushed, or its fault ends the run
  abbrev pub pushes : CodeNode → ℕ → Result V.Value RunFault → Stack → MachineState → Stepped
  pushes n line (Ok v) stack w = Quiet (runs_at (w.place + 1) (Value v ∷ stack) w)
  pushes n line (Err f) stack w = breaks n line f w

  -- a call: a host function is asked, and a builtin gives its value
  abbrev pub calls : CodeNode → ℕ → Option Row → List ℕ → List V.Value → Stack → MachineState → Stepped
  calls n line None name args stack w = Quiet (record w { place = w.place + 1; stack = stack; doing = Asks name args })
  calls n line (Some row) name args stack w =
      when_some (builtin_result (scope_at w.here) w.state.store row args) Stuck (λ result. pushes n line result stack w)

  -- the instruction of the node, on that line
  abbrev pub act : CodeNode → ℕ → Instr → MachineState → Stepped
  act n line (code.JumpTo label) w = Quiet (runs_at label w.stack w)
  act n line code.Jump w = on_destination w.stack Stuck (λ label. Quiet (runs_at label w.stack w))
  act n line (code.RunLine count id) w =
      take_values count [] w.stack Stuck (λ vs rest. Shows (event.Line id vs) (rests_at (w.place + 1) rest (Line id vs) w))
  act n line (code.RunCommand count text) w =
      take_values count [] w.stack Stuck (λ vs rest. when_some (template_of text count) Stuck
      (λ parts. Shows (event.Command (expanded parts vs)) (rests_at (w.place + 1) rest (Command (expanded parts vs)) w)))
  act n line (code.AddOption count id label conditional) w =
      take_truth conditional w.stack Stuck (λ can rest. take_values count [] rest Stuck
      (λ vs rest1. Quiet (record (runs_at (w.place + 1) rest1 w) { pending = w.pending ++ offer id vs can label ∷ [] })))
  act n line code.ShowOptions w =
      Shows (event.Options (choices w.pending)) (record (rests_at (w.place + 1) w.stack (Options w.pending) w) { pending = [] })
  act n line (code.PushString text) w = Quiet (runs_at (w.place + 1) (Value (value.Str text) ∷ w.stack) w)
  act n line (code.PushFloat number) w = Quiet (runs_at (w.place + 1) (Value (value.Number number) ∷ w.stack) w)
  act n line (code.PushBool b) w = Quiet (runs_at (w.place + 1) (Value (value.Truth b) ∷ w.stack) w)
  act n line code.PushNull w = Quiet (runs_at (w.place + 1) (Null ∷ w.stack) w)
  act n line (code.JumpIfFalse label) w =
      on_truth w.stack Stuck (λ b rest. Quiet (runs_at (if b then w.place + 1 else label) w.stack w))
  act n line code.Pop w = on_any w.stack Stuck (λ rest. Quiet (runs_at (w.place + 1) rest w))
  act n line (code.CallFunc count name) w =
      take_values count [] w.stack Stuck (λ vs rest. calls n line (builtin_named name) name vs rest w)
  act n line (code.PushVariable name) w =
      when_some (value_under w.state.store name) Stuck (λ v. Quiet (runs_at (w.place + 1) (Value v ∷ w.stack) w))
  act n line (code.StoreVariable name) w =
      on_value w.stack Stuck (λ v rest. Quiet (with_state (with_value name v w.state) (runs_at (w.place + 1) w.stack w)))
  act n line code.Stop w = Shows (event.NodeEnd w.here.node) (record (rests_at w.place [] (Ends Stop) w) { pending = [] })
  act n line code.RunNode w =
      on_text w.stack Stuck (λ title rest. Shows (event.NodeEnd w.here.node) (record (rests_at w.place [] (Ends (To title)) w) { pending = [] }))

  -- the instruction at the place
  abbrev pub acts : MachineState → Stepped
  acts w = in_node w (λ n. when_some (slice_get n.code w.place) Stuck (λ c. act n c.line c.instr w))

  -- ---- the other steps

  -- the node's start is given
  abbrev pub begins : MachineState → Stepped
  begins w =
      when_first w.place Stuck (when_empty w.stack w.pending Stuck
      (in_node w (λ n. Shows (event.NodeStart w.here.node) (rests_at 0 [] Starts w))))

  -- the node was left: the run is over, or the next node is entered
  abbrev pub leaves : Leave → MachineState → Stepped
  leaves Stop w = Quiet (over Ended w)
  leaves (To title) w = in_node w (λ n. enters_to n (line_at n w.place) title w)

  -- options of which none is open are a fault, on the line of their SHOW_OPTIONS
  abbrev pub closed : MachineState → Stepped
  closed w = in_node w (λ n. breaks n (line_at n (w.place - 1)) fault.NoOpenOption w)

  -- that number, from 1, is answered to these options: it chooses one that is open, or is rejected
  abbrev pub answered : List Offer → ℕ → MachineState → Stepped
  answered offers number w =
      if chooses number (choices offers)
      then Quiet (runs_at w.place (Destination (label_at (less_one number) offers) ∷ w.stack) w)
      else Shows event.Rejected w

  -- the next answer is taken
  abbrev pub waits : List Offer → MachineState → Stepped
  waits offers w =
      if any_open (choices offers)
      then at_answer (answer_of w.state.answers) (StandsAt moments.Waits w)
      (λ number rest. answered offers number (with_state (with_answers rest w.state) w))
      else closed w

  -- goes on from an event
  abbrev pub goes_on : Rest → MachineState → Stepped
  goes_on (Line id vs) w = Quiet (runs_at w.place w.stack w)
  goes_on (Command text) w = Quiet (runs_at w.place w.stack w)
  goes_on Starts w = Quiet (runs_at w.place w.stack w)
  goes_on (Ends leave) w = when_empty w.stack w.pending Stuck (leaves leave w)
  goes_on (Options offers) w = waits offers w

  -- that value is replied to the question: it is pushed, where it is of the function's kind and no text over 65,536 bytes
  abbrev pub takes_reply : List ℕ → V.Value → MachineState → Stepped
  takes_reply name v w =
      if is_reply_of (signature_named p.functions name) v then Quiet (runs_at w.place (Value v ∷ w.stack) w)
      else StandsAt (moments.BadReply name v) w

  -- the next reply of the tape is taken, where it was given to this question
  abbrev pub asks : List ℕ → List V.Value → Tape → MachineState → Stepped
  asks name args [] w = StandsAt (moments.Asks name args) w
  asks name args (r ∷ tape) w =
      if same_text r.name name && same_values r.args args then takes_reply name r.value (with_state (with_tape tape w.state) w)
      else StandsAt (moments.Asks name args) w

  -- a run that is over gives End, or stands at its fault
  abbrev pub ends : Cause → MachineState → Stepped
  ends Ended w = Finishes w
  ends (Fault place) w = StandsAt (moments.Faults place) w

  -- ---- the step of a state

  abbrev pub step : Doing → MachineState → Stepped
  step Runs w = acts w
  step Enters w = begins w
  step (Rests rest) w = goes_on rest w
  step (Asks name args) w = asks name args w.state.tape w
  step (Over cause) w = ends cause w

  abbrev pub next : MachineState → Stepped
  next w = step w.doing w

-- What each instruction does to the stack, row by row (docs/instructions.md, The instructions).
use Rattle.std.specs.Prelude.{◌≡◌, ℕ, ℤ, ◌+◌, List, [], ◌∷◌, ◌++◌, length, Bool, true, false, if◌then◌else◌, Ok, Err, Some, None}
use Rattle.yarn_value.specs.declared.value.Value as V
use Rattle.yarn_value.specs.declared.value.Value.TheVariants as value
use Rattle.yarn_value.specs.declared.fault.RunFault.{RunFault}
use Rattle.yarn_value.specs.Builtins.{Row, builtin_named}
use Rattle.yarn_value.specs.Calls.{builtin_result}
use Rattle.yarn_value.specs.Pairs.{value_under}
use Rattle.yarn_value.specs.Templates.{Part, template_of, expanded}
use Rattle.yarn_code.specs.declared.event.Event.TheVariants as event
use Rattle.yarn_code.specs.declared.program.Instr.TheVariants as code
use Rattle.yarn_code.specs.declared.program.CodeNode.{CodeNode}
use Rattle.yarn_code.specs.declared.program.Program.{Program}
use Rattle.yarn_code.specs.Answers.{chooses, less_one}
use Rattle.yarn_code.specs.Moments.{State, with_value}
use Rattle.yarn_code.specs.MachineState.{StackEntry, Value, Null, Destination, Stack, Offer, choices, Stop, To, Line, Options, Command, Ends, Doing, Runs, Rests, Asks, Here, MachineState, machine}
use Rattle.yarn_code.specs.Machine.{Quiet, Shows, scope_at, breaks, offer, label_at, act, answered}

-- values that were pushed in order, the last on top
abbrev pub pushed : List V.Value → Stack → Stack
pushed [] stack = stack
pushed (v ∷ vs) stack = pushed vs (Value v ∷ stack)

-- with so many values on the stack, that instruction does that
pub record AreListed (p : Program) (n : CodeNode) (line : ℕ) (here : Here) (place : ℕ) (stack : Stack) (pending : List Offer) (st : State) : Type 0 where
  pub jump_to : (label : ℕ) →
      act p n line (code.JumpTo label) (machine here place stack pending Runs st) ≡ Quiet (machine here label stack pending Runs st)
  pub jump : (label : ℕ) →
      act p n line code.Jump (machine here place (Destination label ∷ stack) pending Runs st) ≡ Quiet (machine here label (Destination label ∷ stack) pending Runs st)
  pub run_line : (id : List ℕ) (vs : List V.Value) →
      act p n line (code.RunLine (length vs) id) (machine here place (pushed vs stack) pending Runs st)
      ≡ Shows (event.Line id vs) (machine here (place + 1) stack pending (Rests (Line id vs)) st)
  pub run_command : (text : List ℕ) (vs : List V.Value) (parts : List Part) → template_of text (length vs) ≡ Some parts →
      act p n line (code.RunCommand (length vs) text) (machine here place (pushed vs stack) pending Runs st)
      ≡ Shows (event.Command (expanded parts vs)) (machine here (place + 1) stack pending (Rests (Command (expanded parts vs))) st)
  pub add_option : (id : List ℕ) (vs : List V.Value) (label : ℕ) →
      act p n line (code.AddOption (length vs) id label false) (machine here place (pushed vs stack) pending Runs st)
      ≡ Quiet (machine here (place + 1) stack (pending ++ offer id vs true label ∷ []) Runs st)
  pub add_option_if : (id : List ℕ) (vs : List V.Value) (label : ℕ) (b : Bool) →
      act p n line (code.AddOption (length vs) id label true) (machine here place (Value (value.Truth b) ∷ pushed vs stack) pending Runs st)
      ≡ Quiet (machine here (place + 1) stack (pending ++ offer id vs b label ∷ []) Runs st)
  pub show_options :
      act p n line code.ShowOptions (machine here place stack pending Runs st)
      ≡ Shows (event.Options (choices pending)) (machine here (place + 1) stack [] (Rests (Options pending)) st)
  -- the label of the option that is chosen is pushed
  pub chosen : (offers : List Offer) (number : ℕ) → chooses number (choices offers) ≡ true →
      answered p offers number (machine here place stack [] (Rests (Options offers)) st)
      ≡ Quiet (machine here place (Destination (label_at (less_one number) offers) ∷ stack) [] Runs st)
  pub push_string : (text : List ℕ) →
      act p n line (code.PushString text) (machine here place stack pending Runs st) ≡ Quiet (machine here (place + 1) (Value (value.Str text) ∷ stack) pending Runs st)
  pub push_float : (number : ℤ) →
      act p n line (code.PushFloat number) (machine here place stack pending Runs st) ≡ Quiet (machine here (place + 1) (Value (value.Number number) ∷ stack) pending Runs st)
  pub push_bool : (b : Bool) →
      act p n line (code.PushBool b) (machine here place stack pending Runs st) ≡ Quiet (machine here (place + 1) (Value (value.Truth b) ∷ stack) pending Runs st)
  pub push_null :
      act p n line code.PushNull (machine here place stack pending Runs st) ≡ Quiet (machine here (place + 1) (Null ∷ stack) pending Runs st)
  pub jump_if_true : (label : ℕ) →
      act p n line (code.JumpIfFalse label) (machine here place (Value (value.Truth true) ∷ stack) pending Runs st)
      ≡ Quiet (machine here (place + 1) (Value (value.Truth true) ∷ stack) pending Runs st)
  pub jump_if_false : (label : ℕ) →
      act p n line (code.JumpIfFalse label) (machine here place (Value (value.Truth false) ∷ stack) pending Runs st)
      ≡ Quiet (machine here label (Value (value.Truth false) ∷ stack) pending Runs st)
  pub pop : (x : StackEntry) →
      act p n line code.Pop (machine here place (x ∷ stack) pending Runs st) ≡ Quiet (machine here (place + 1) stack pending Runs st)
  pub call_builtin : (name : List ℕ) (vs : List V.Value) (row : Row) (v : V.Value) → builtin_named name ≡ Some row →
      builtin_result (scope_at p here) st.store row vs ≡ Some (Ok v) →
      act p n line (code.CallFunc (length vs) name) (machine here place (pushed vs stack) pending Runs st) ≡ Quiet (machine here (place + 1) (Value v ∷ stack) pending Runs st)
  pub call_fault : (name : List ℕ) (vs : List V.Value) (row : Row) (f : RunFault) → builtin_named name ≡ Some row →
      builtin_result (scope_at p here) st.store row vs ≡ Some (Err f) →
      act p n line (code.CallFunc (length vs) name) (machine here place (pushed vs stack) pending Runs st)
      ≡ breaks n line f (machine here place (pushed vs stack) pending Runs st)
  pub call_host : (name : List ℕ) (vs : List V.Value) → builtin_named name ≡ None →
      act p n line (code.CallFunc (length vs) name) (machine here place (pushed vs stack) pending Runs st) ≡ Quiet (machine here (place + 1) stack pending (Asks name vs) st)
  pub push_variable : (name : List ℕ) (v : V.Value) → value_under st.store name ≡ Some v →
      act p n line (code.PushVariable name) (machine here place stack pending Runs st) ≡ Quiet (machine here (place + 1) (Value v ∷ stack) pending Runs st)
  pub store_variable : (name : List ℕ) (v : V.Value) →
      act p n line (code.StoreVariable name) (machine here place (Value v ∷ stack) pending Runs st)
      ≡ Quiet (machine here (place + 1) (Value v ∷ stack) pending Runs (with_value name v st))
  pub stop :
      act p n line code.Stop (machine here place stack pending Runs st) ≡ Shows (event.NodeEnd here.node) (machine here place [] [] (Rests (Ends Stop)) st)
  pub run_node : (title : List ℕ) →
      act p n line code.RunNode (machine here place (Value (value.Str title) ∷ stack) pending Runs st)
      ≡ Shows (event.NodeEnd here.node) (machine here place [] [] (Rests (Ends (To title))) st)

-- each instruction does as its row says
abbrev pub DoAsListed : Type 0
DoAsListed = (p : Program) (n : CodeNode) (line : ℕ) (here : Here) (place : ℕ) (stack : Stack) (pending : List Offer) (st : State) →
    AreListed p n line here place stack pending st

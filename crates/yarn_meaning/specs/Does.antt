-- What statements do: the moments that they give, and how they are left (docs/language.md, The meaning).
use Rattle.std.specs.Prelude.{ℕ, zero, suc, List, [], ◌∷◌, ◌++◌, length, Bool, true, false, if◌then◌else◌, Option, Some, None}
use Rattle.yarn_value.specs.declared.value.Value.{Value}
use Rattle.yarn_value.specs.declared.value.Value.TheVariants.{Number, Str, Truth}
use Rattle.yarn_value.specs.declared.fault.RunFault.TheVariants as run
use Rattle.yarn_expr.specs.declared.tree.BinaryOp.{BinaryOp}
use Rattle.yarn_expr.specs.declared.tree.Expr.{Expr}
use Rattle.yarn_blocks.specs.declared.entry.Simple.{Simple}
use Rattle.yarn_blocks.specs.declared.entry.Simple.TheVariants as simple
use Rattle.yarn_blocks.specs.declared.tree.LineText.{LineText}
use Rattle.yarn_blocks.specs.Tree as T
use Rattle.yarn_blocks.specs.Tree.{Leaf, Group, Nil, Cons, NoOptions, AndOption, NoClauses, AndClause, NoElse, ElseOf, Offered}
use Rattle.yarn_value.specs.Pairs.{put, Pairs}
use Rattle.yarn_code.specs.Answer.{answer_of}
use Rattle.yarn_code.specs.Answers.{chooses, any_open, less_one, at_answer}
use Rattle.yarn_code.specs.declared.event.Event.{Event}
use Rattle.yarn_code.specs.declared.event.Event.TheVariants as event
use Rattle.yarn_code.specs.declared.event.Choice.{Choice}
use Rattle.yarn_code.specs.Moments.{State, Moment, moment, with_tape, with_answers, with_value}
use Rattle.yarn_value.specs.Tape.{Tape}
use Rattle.yarn_meaning.specs.Eval.{eval, eval_all, operated, binary_op, stored}
use Rattle.yarn_value.specs.Evaluation.{Scope, Halt, Faults, Evaluated, Gives, given, and_then}
use Rattle.yarn_meaning.specs.Filled.{filled}

-- how statements are left
pub data Exit : Type 0 where
  -- at the end of their list
  Through : Exit
  -- by a jump on that line to that title
  Jumps : ℕ → List ℕ → Exit
  -- by a `stop` on that line
  Stops : ℕ → Exit
  -- an evaluation on that line gave no value
  Halted : ℕ → Halt → Exit
  -- a group has no answer
  Waiting : Exit

pub record Done : Type 0 where
  pub moments : List Moment
  pub exit : Exit
  pub state : State

abbrev pub done : Exit → State → Done
done exit st = record { moments = []; exit = exit; state = st }

abbrev pub prefixed : List Moment → Done → Done
prefixed ms d = record { moments = ms ++ d.moments; exit = d.exit; state = d.state }

-- an event, and what follows it
abbrev pub showing : Event → State → Done → Done
showing e st d = prefixed (moment e st ∷ []) d

-- goes on where statements were left through, with the statements that follow them
abbrev pub goes_on : Exit → List Moment → State → T.Stmts → (State → Done) → Done
goes_on Through ms st b next = prefixed ms (next st)
goes_on (Jumps line title) ms st b next = record { moments = ms; exit = Jumps line title; state = st }
goes_on (Stops line) ms st b next = record { moments = ms; exit = Stops line; state = st }
goes_on (Halted line halt) ms st b next = record { moments = ms; exit = Halted line halt; state = st }
goes_on Waiting ms st b next = record { moments = ms; exit = Waiting; state = st }

abbrev pub and_on : Done → T.Stmts → (State → Done) → Done
and_on d b next = goes_on d.exit d.moments d.state b next

-- goes on with what was evaluated on that line
abbrev pub using : {A : Type 0} → ℕ → Evaluated A → State → (A → State → Done) → Done
using line evaluated st next = given evaluated (λ v t. next v (with_tape t st)) (λ h t. done (Halted line h) (with_tape t st))

abbrev pub is_true : Value → Bool
is_true (Truth b) = b
is_true (Number n) = false
is_true (Str text) = false

abbrev pub title_in : Value → List ℕ
title_in (Str text) = text
title_in (Number n) = []
title_in (Truth b) = []

-- takes answers, at most so many, until one chooses an option
abbrev pub picked : ℕ → List Choice → State → (ℕ → State → Done) → Done
picked zero cs st next = done Waiting st
picked (suc most) cs st next =
    at_answer (answer_of st.answers) (done Waiting st)
    (λ number rest. if chooses number cs then next (less_one number) (with_answers rest st)
    else showing event.Rejected (with_answers rest st) (picked most cs (with_answers rest st) next))

-- a group whose options were shown: each answer takes a byte at least, so there are at most as many as bytes
abbrev pub waits : ℕ → List Choice → State → (ℕ → State → Done) → Done
waits line cs st next =
    if any_open cs then picked (length st.answers) cs st next else done (Halted line (Faults run.NoOpenOption)) st

-- the line of a group's first option
abbrev pub group_line : T.Options → ℕ
group_line NoOptions = 0
group_line (AndOption n body os) = n.text.line

module _ (scope : Scope) where
  -- the condition of an option; one without a condition can be chosen
  abbrev pub asked : Option Expr → Pairs → Tape → Evaluated Bool
  asked None store t = Gives true t
  asked (Some e) store t = and_then (eval scope store e t) (λ v t1. Gives (is_true v) t1)

  -- an option: its substitutions from the left, and then its condition
  abbrev pub choice_of : Offered → Pairs → Tape → Evaluated Choice
  choice_of n store t =
      and_then (eval_all scope store n.text.holes t)
      (λ vs t1. and_then (asked n.condition store t1) (λ can t2. Gives (record { id = n.text.id; values = vs; available = can }) t2))

  -- goes on with the options of a group, each evaluated in order, behind those before
  abbrev pub with_choices : T.Options → List Choice → State → (List Choice → State → Done) → Done
  with_choices NoOptions before st next = next before st
  with_choices (AndOption n body os) before st next =
      using n.text.line (choice_of n st.store st.tape) st (λ c st1. with_choices os (before ++ c ∷ []) st1 next)

  -- what is set: the expression, or the operator on the variable and the expression
  abbrev pub set_value : List ℕ → Option BinaryOp → Expr → Pairs → Tape → Evaluated Value
  set_value name None e store t = eval scope store e t
  set_value name (Some op) e store t =
      and_then (eval scope store e t) (λ v t1. operated (binary_op op (stored store name)) (stored store name ∷ v ∷ []) t1)

  -- a line or a command, with the values of its substitutions
  abbrev pub says : LineText → (List Value → Event) → State → Done
  says text shown st =
      using text.line (eval_all scope st.store text.holes st.tape) st (λ vs st1. showing (shown vs) st1 (done Through st1))

  abbrev pub does_simple : Simple → State → Done
  does_simple (simple.Line text) st = says text (λ vs. event.Line text.id vs) st
  does_simple (simple.Command text) st = says text (λ vs. event.Command (filled text.text vs)) st
  does_simple (simple.Set head name op e) st =
      using head.line (set_value name op e st.store st.tape) st (λ v st1. done Through (with_value name v st1))
  does_simple (simple.Declare head name value kind) st = done Through st
  does_simple (simple.Jump head title) st = done (Jumps head.line title) st
  does_simple (simple.JumpTo head e) st =
      using head.line (eval scope st.store e st.tape) st (λ v st1. done (Jumps head.line (title_in v)) st1)
  does_simple (simple.Stop head) st = done (Stops head.line) st
  does_simple (simple.Call head e) st = using head.line (eval scope st.store e st.tape) st (λ v st1. done Through st1)

  abbrev mutual
    pub does : T.Stmt → State → Done
    does (Leaf s) st = does_simple s st
    does (Group os) st =
        with_choices os [] st (λ cs st1. showing (event.Options cs) st1 (waits (group_line os) cs st1 (λ n st2. does_option os n st2)))
    does (T.Choice cs last e) st = does_clauses cs st (λ st1. does_last last st1)

    pub does_all : T.Stmts → State → Done
    does_all Nil st = done Through st
    does_all (Cons s b) st = and_on (does s st) b (λ st1. does_all b st1)

    -- the body of the option with that number, from 0
    pub does_option : T.Options → ℕ → State → Done
    does_option NoOptions n st = done Through st
    does_option (AndOption o body os) zero st = does_all body st
    does_option (AndOption o body os) (suc n) st = does_option os n st

    -- the body of the first clause whose condition is true; else what is done otherwise
    pub does_clauses : T.Clauses → State → (State → Done) → Done
    does_clauses NoClauses st otherwise = otherwise st
    does_clauses (AndClause n body cs) st otherwise =
        using n.head.line (eval scope st.store n.condition st.tape) st
        (λ v st1. if is_true v then does_all body st1 else does_clauses cs st1 otherwise)

    pub does_last : T.Last → State → Done
    does_last NoElse st = done Through st
    does_last (ElseOf head body) st = does_all body st

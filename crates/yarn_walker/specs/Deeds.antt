-- What statements do, as the walk finds it.
use Rattle.std.specs.Prelude.{◌≡◌, ℕ, List, [], Option, Some, None, Result, Ok, Err, All, ⊤}
use Rattle.yarn_value.specs.declared.value.Value.{Value}
use Rattle.yarn_expr.specs.declared.tree.Expr.{Expr}
use Rattle.yarn_blocks.specs.declared.tree.LineText.{LineText}
use Rattle.yarn_blocks.specs.Tree.{Stmts}
use Rattle.yarn_blocks.specs.View.{options_of}
use Rattle.yarn_code.specs.declared.event.Event.TheVariants as event
use Rattle.yarn_code.specs.Moments.{State}
use Rattle.yarn_value.specs.Pairs.{Pairs}
use Rattle.yarn_meaning.specs.Eval.{eval, eval_all}
use Rattle.yarn_value.specs.Evaluation.{Evaluated, Gives, Halts, Faults, and_then}
use Rattle.yarn_meaning.specs.Does.{Done, Through, Jumps, Stops, Halted, done, showing, and_on, waits, group_line, title_in, does_all, does_option}
use Rattle.yarn_meaning.specs.Filled.{filled}
use Rattle.yarn_meaning.specs.Texts.{Table, Tells, TellsAll, said_in, said_in_options}
use Rattle.yarn_walker.specs.States.{at, no_hosts}
use Rattle.yarn_walker.specs.Offers.{all_shown, AreOf}
use Rattle.yarn_walker.specs.declared.offer.Offer.{Offer}
use Rattle.yarn_walker.specs.declared.halt.Halt.{Halt}
use Rattle.yarn_walker.specs.declared.halt.Halt.TheVariants as halt
use Rattle.yarn_walker.specs.declared.deed.Deed.{Deed}
use Rattle.yarn_walker.specs.declared.deed.Deed.TheVariants as deed

-- the title to which an expression is evaluated
abbrev pub title_given : Expr → Pairs → Evaluated (List ℕ)
title_given e store = and_then (eval no_hosts store e []) (λ v t. Gives (title_in v) t)

-- the values of a line's substitutions, or the fault on its line
abbrev pub ValuesIn : LineText → Pairs → Result (List Value) Halt → Type 0
ValuesIn text store (Ok values) = eval_all no_hosts store text.holes [] ≡ Gives values []
ValuesIn text store (Err (halt.Fault line fault)) = (line ≡ text.line) × (eval_all no_hosts store text.holes [] ≡ Halts (Faults fault) [])
ValuesIn text store (Err halt.Memory) = ⊤

-- what is done, with the statements behind it and the state there
abbrev pub done_of : Deed → Stmts → State → Done
done_of (deed.Line text values) rest st = showing (event.Line text.now.id values) st (does_all no_hosts rest st)
done_of (deed.Command text values) rest st = showing (event.Command (filled text.now.text values)) st (does_all no_hosts rest st)
done_of (deed.Options os offers) rest st =
    showing (event.Options (all_shown offers.items)) st
    (and_on (waits (group_line (options_of os.now)) (all_shown offers.items) st (λ n st1. does_option no_hosts (options_of os.now) n st1))
    rest (λ st1. does_all no_hosts rest st1))
done_of deed.Through rest st = done Through st
done_of (deed.Jump line title) rest st = done (Jumps line title.now) st
done_of (deed.JumpTo line title) rest st = done (Jumps line title) st
done_of (deed.Stop line) rest st = done (Stops line) st

-- the statements do that, or an evaluation gives no value
abbrev pub Does : Stmts → Pairs → Result Deed Halt → Stmts → Pairs → Type 0
Does old before (Ok d) new store = (answers : List ℕ) → does_all no_hosts old (at before answers) ≡ done_of d new (at store answers)
Does old before (Err (halt.Fault line fault)) new store = (answers : List ℕ) → does_all no_hosts old (at before answers) ≡ done (Halted line (Faults fault)) (at store answers)
Does old before (Err halt.Memory) new store = ⊤

-- the same; or the first statement is quiet, and all do what the others do
abbrev pub DoesFirst : Stmts → Pairs → Result (Option Deed) Halt → Stmts → Pairs → Type 0
DoesFirst old before (Ok None) new store = (answers : List ℕ) → does_all no_hosts old (at before answers) ≡ does_all no_hosts new (at store answers)
DoesFirst old before (Ok (Some d)) new store = Does old before (Ok d) new store
DoesFirst old before (Err e) new store = Does old before (Err e) new store

-- a group is shown with the texts of its options
abbrev pub ShowsItsOptions : Deed → Type 0
ShowsItsOptions (deed.Options os offers) = AreOf (options_of os.now) offers.items
ShowsItsOptions _ = ⊤

-- ---- texts

-- the table has the texts that are shown
abbrev pub TellsDeed : Table → Deed → Type 0
TellsDeed table (deed.Line text values) = Tells table text.now
TellsDeed table (deed.Options os offers) = All (λ (offer : Offer). Tells table offer.text.now) offers.items × TellsAll table (said_in_options (options_of os.now))
TellsDeed table _ = ⊤

-- a table that has the texts of the statements has those that are shown, and those of the statements behind
abbrev pub KeepsTexts : Stmts → Result Deed Halt → Stmts → Type 0
KeepsTexts old (Ok d) new = (table : Table) → TellsAll table (said_in old) → TellsDeed table d × TellsAll table (said_in new)
KeepsTexts old (Err e) new = ⊤

abbrev pub KeepsTextsFirst : Stmts → Result (Option Deed) Halt → Stmts → Type 0
KeepsTextsFirst old (Ok None) new = (table : Table) → TellsAll table (said_in old) → TellsAll table (said_in new)
KeepsTextsFirst old (Ok (Some d)) new = KeepsTexts old (Ok d) new
KeepsTextsFirst old (Err e) new = ⊤

-- What is read so far, seen as plain data, and what a step answers.
use Rattle.std.specs.Prelude.{◌≡◌, ℕ, List, [], ◌∷◌, Option, Some, None, Result, Ok, Err}
use Rattle.yarn_blocks.specs.declared.tree.Stmt.{Stmt}
use Rattle.yarn_blocks.specs.declared.reading.Reading.{Reading}
use Rattle.yarn_blocks.specs.declared.reading.Fault.{Fault}
use Rattle.yarn_blocks.specs.declared.reading.Fault.TheVariants.{Refused, Memory}
use Rattle.std.specs.Prelude.{option_and_then}
use Rattle.yarn_blocks.specs.declared.entry.Entry.{Entry}
use Rattle.yarn_blocks.specs.Tree.{Stmts, NoOptions}
use Rattle.yarn_blocks.specs.Reading.{State, Frame, InOption, InClause, InElse, Held, settled, with_option, all_of, go, finish}
use Rattle.yarn_blocks.specs.Frames.{frames_of, held_of}
use Rattle.yarn_blocks.specs.View.{stmts_of}

abbrev pub state_of : Reading → State
state_of r = record { frames = frames_of r.frames; top = held_of r.top }

-- what a step answers is what the reading answers, unless memory runs out
abbrev pub Refuses : {A : Type 0} → Fault → Option A → Type 0
Refuses Refused read = read ≡ None
Refuses Memory read = Unit {0}

abbrev pub Gives : Result Reading Fault → Option State → Type 0
Gives (Ok r) read = read ≡ Some (state_of r)
Gives (Err e) read = Refuses e read

abbrev pub GivesStmts : Result (List Stmt) Fault → Option Stmts → Type 0
GivesStmts (Ok b) read = read ≡ Some (stmts_of b)
GivesStmts (Err e) read = Refuses e read

-- the statements are read, and nothing is open
abbrev pub behind : Stmts → State
behind b = record { frames = []; top = record { done = b; group = NoOptions } }

-- what the statements are with the entries behind them; None where that is no block
abbrev pub read_behind : Stmts → List Entry → Option Stmts
read_behind b xs = option_and_then finish (go (behind b) xs)

-- the innermost option ends
abbrev pub closed_in : List Frame → Held → State
closed_in [] top = record { frames = []; top = top }
closed_in (InOption k n before ∷ fs) top = record { frames = fs; top = with_option before n (all_of top) }
closed_in (InClause n cs before ∷ fs) top = record { frames = InClause n cs before ∷ fs; top = top }
closed_in (InElse n cs before ∷ fs) top = record { frames = InElse n cs before ∷ fs; top = top }

abbrev pub closed : State → State
closed s = closed_in s.frames s.top

abbrev pub settled_of : ℕ → State → State
settled_of i s = settled i s.frames s.top

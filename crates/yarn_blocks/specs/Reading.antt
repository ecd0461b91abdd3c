-- One reading of entries from the left, which keeps the options and the `if`s that are open.
use Rattle.std.specs.Prelude.{ℕ, ◌+◌, List, [], ◌∷◌, nat_lt, if◌then◌else◌, Option, Some, None, option_and_then}
use Rattle.yarn_blocks.specs.declared.tree.Head.{Head}
use Rattle.yarn_blocks.specs.declared.entry.Entry.{Entry}
use Rattle.yarn_blocks.specs.declared.entry.What.{What}
use Rattle.yarn_blocks.specs.declared.entry.What.TheVariants.{Statement, Offer, If, ElseIf, Else, EndIf}
use Rattle.yarn_blocks.specs.Tree.{Offered, Asked, Stmt, Leaf, Group, Choice, Stmts, Nil, Cons, Options, NoOptions, AndOption, Clauses, NoClauses, AndClause, NoElse, ElseOf, stmts_then, options_then, clauses_then}

-- the statements of a block so far: whole ones, and a group that may go on
pub record Held : Type 0 where
  pub done : Stmts
  pub group : Options

abbrev pub nothing_held : Held
nothing_held = record { done = Nil; group = NoOptions }

abbrev pub with_group : Stmts → Options → Stmts
with_group done NoOptions = done
with_group done (AndOption n body os) = stmts_then done (Cons (Group (AndOption n body os)) Nil)

abbrev pub all_of : Held → Stmts
all_of h = with_group h.done h.group

abbrev pub with_stmt : Held → Stmt → Held
with_stmt h s = record { done = stmts_then (all_of h) (Cons s Nil); group = NoOptions }

abbrev pub with_option : Held → Offered → Stmts → Held
with_option h n body = record { done = h.done; group = options_then h.group (AndOption n body NoOptions) }

abbrev pub with_clause : Clauses → Asked → Stmts → Clauses
with_clause cs n body = clauses_then cs (AndClause n body NoClauses)

-- what is open, with what was read before it
pub data Frame : Type 0 where
  -- an option with its indent
  InOption : ℕ → Offered → Held → Frame
  -- a clause of an `if`, with the clauses before it
  InClause : Asked → Clauses → Held → Frame
  -- the `else` of an `if`, with the clauses before it
  InElse : Head → Clauses → Held → Frame

-- the innermost first, and what was read in it
pub record State : Type 0 where
  pub frames : List Frame
  pub top : Held

abbrev pub start : State
start = record { frames = []; top = nothing_held }

-- an entry with this indent ends the innermost options that aren't less deep
abbrev pub settled : ℕ → List Frame → Held → State
settled i [] top = record { frames = []; top = top }
settled i (InOption k n before ∷ fs) top =
    if nat_lt k i then record { frames = InOption k n before ∷ fs; top = top } else settled i fs (with_option before n (all_of top))
settled i (InClause n cs before ∷ fs) top = record { frames = InClause n cs before ∷ fs; top = top }
settled i (InElse n cs before ∷ fs) top = record { frames = InElse n cs before ∷ fs; top = top }

-- the least indent of an entry within what is open
abbrev pub least : List Frame → ℕ
least [] = 0
least (InOption k n before ∷ fs) = k + 1
least (InClause n cs before ∷ fs) = least fs
least (InElse n cs before ∷ fs) = least fs

abbrev pub next_clause : List Frame → Held → Asked → Option State
next_clause [] top n = None
next_clause (InOption k m before ∷ fs) top n = None
next_clause (InClause m cs before ∷ fs) top n =
    Some (record { frames = InClause n (with_clause cs m (all_of top)) before ∷ fs; top = nothing_held })
next_clause (InElse m cs before ∷ fs) top n = None

abbrev pub last_clause : List Frame → Held → Head → Option State
last_clause [] top n = None
last_clause (InOption k m before ∷ fs) top n = None
last_clause (InClause m cs before ∷ fs) top n =
    Some (record { frames = InElse n (with_clause cs m (all_of top)) before ∷ fs; top = nothing_held })
last_clause (InElse m cs before ∷ fs) top n = None

abbrev pub end_of_if : List Frame → Held → Head → Option State
end_of_if [] top n = None
end_of_if (InOption k m before ∷ fs) top n = None
end_of_if (InClause m cs before ∷ fs) top n =
    Some (record { frames = fs; top = with_stmt before (Choice (with_clause cs m (all_of top)) NoElse n) })
end_of_if (InElse m cs before ∷ fs) top n =
    Some (record { frames = fs; top = with_stmt before (Choice cs (ElseOf m (all_of top)) n) })

-- an entry is taken into what is open
abbrev pub taken : State → ℕ → What → Option State
taken s i (Statement n) = Some (record { frames = s.frames; top = with_stmt s.top (Leaf n) })
taken s i (Offer text condition) = Some (record { frames = InOption i (record { text = text; condition = condition }) s.top ∷ s.frames; top = nothing_held })
taken s i (If head condition) = Some (record { frames = InClause (record { head = head; condition = condition }) NoClauses s.top ∷ s.frames; top = nothing_held })
taken s i (ElseIf head condition) = next_clause s.frames s.top (record { head = head; condition = condition })
taken s i (Else head) = last_clause s.frames s.top head
taken s i (EndIf head) = end_of_if s.frames s.top head

-- None where the entry can't stand there
abbrev pub placed : State → Entry → Option State
placed s x = if nat_lt x.indent (least s.frames) then None else taken s x.indent x.what

abbrev pub step : State → Entry → Option State
step s x = placed (settled x.indent s.frames s.top) x

abbrev pub go : State → List Entry → Option State
go s [] = Some s
go s (x ∷ xs) = option_and_then (λ t. go t xs) (step s x)

-- at the end each open option ends; None where an `if` is open
abbrev pub ended : List Frame → Held → Option Stmts
ended [] top = Some (all_of top)
ended (InOption k n before ∷ fs) top = ended fs (with_option before n (all_of top))
ended (InClause n cs before ∷ fs) top = None
ended (InElse n cs before ∷ fs) top = None

abbrev pub finish : State → Option Stmts
finish s = ended s.frames s.top

-- None where the entries are no block
abbrev pub read : List Entry → Option Stmts
read xs = option_and_then finish (go start xs)

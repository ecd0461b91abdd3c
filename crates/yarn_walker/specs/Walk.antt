-- What is still to come of a run, from where its walk stands.
use Rattle.std.specs.Prelude.{◌≡◌, ℕ, zero, suc, List, [], map, Bool, true, false, Option, Some, None, All, ⊤}
use Rattle.std.specs.Borrow.{Bor}
use Rattle.yarn_blocks.specs.declared.tree.Stmt.{Stmt}
use Rattle.yarn_blocks.specs.declared.tree.OptionItem.{OptionItem}
use Rattle.yarn_blocks.specs.Tree.{Stmts, Options}
use Rattle.yarn_blocks.specs.View.{stmts_of, options_of}
use Rattle.yarn_tree.specs.Trees.{FileTree, file_tree}
use Rattle.yarn_code.specs.Answer.{answer_of}
use Rattle.yarn_code.specs.declared.event.Event.{Event}
use Rattle.yarn_code.specs.declared.event.Event.TheVariants as event
use Rattle.yarn_code.specs.declared.event.Choice.{Choice}
use Rattle.yarn_code.specs.Moments.{State, Behaviour, moment, stands, emit, finishes, Limit, Faults, Waits as IsWaiting}
use Rattle.yarn_value.specs.Pairs.{Pairs}
use Rattle.yarn_meaning.specs.Does.{and_on, waits, group_line, does_all, does_option}
use Rattle.yarn_code.specs.Answers.{any_open, chooses, less_one}
use Rattle.yarn_meaning.specs.Filled.{filled}
use Rattle.yarn_meaning.specs.First.{Placed, Piece, leaves, after, exits_of, enters, in_node, from}
use Rattle.yarn_meaning.specs.Texts.{Table, Tells, TellsAll, said_in, said_in_options, said_in_files}
use Rattle.yarn_walker.specs.States.{at, no_hosts}
use Rattle.yarn_walker.specs.Faults.{fault_of}
use Rattle.yarn_walker.specs.Frames.{rest_of}
use Rattle.yarn_walker.specs.Titles.{placed, HasAll}
use Rattle.yarn_walker.specs.Offers.{all_shown, AreOf}
use Rattle.yarn_walker.specs.declared.offer.Offer.{Offer}
use Rattle.yarn_walker.specs.declared.titles.NodeAt.{NodeAt}
use Rattle.yarn_walker.specs.declared.walk.Seat.{Seat}
use Rattle.yarn_walker.specs.declared.walk.Seat.TheVariants.{Enters, Within, Chooses, Finishes, Fails}
use Rattle.yarn_walker.specs.declared.walk.Turn.{Turn}
use Rattle.yarn_walker.specs.declared.walk.Turn.TheVariants as turn
use Rattle.yarn_walker.specs.declared.walk.Walk.{Walk}

abbrev pub files_of : Walk → List FileTree
files_of w = map file_tree w.titles.files.now

-- ---- what is to come

-- what comes through at most so many further pieces, with these bytes of the input left
abbrev pub Coming : Type 0
Coming = ℕ → List ℕ → Behaviour

-- the body of a node, as a run without host functions has it
abbrev pub piece_of : Placed → Piece
piece_of n = record { node = n }

-- statements of the node, and what follows them
abbrev pub in_body : List FileTree → ℕ → Placed → Stmts → State → Behaviour
in_body files fuel n b st = after (does_all no_hosts b st) (exits_of files (from [] files fuel) (piece_of n))

-- at a group that is shown, with the statements behind it
abbrev pub at_group : List FileTree → ℕ → Placed → Options → List Choice → Stmts → State → Behaviour
at_group files fuel n os cs rest st =
    after (and_on (waits (group_line os) cs st (λ number st1. does_option no_hosts os number st1)) rest (λ st1. does_all no_hosts rest st1))
    (exits_of files (from [] files fuel) (piece_of n))

abbrev pub from_seat : List FileTree → ℕ → List Choice → Seat → State → Behaviour
from_seat files fuel cs (Enters n) st = in_node (from [] files fuel) (piece_of (placed n)) st
from_seat files fuel cs (Within n rest) st = in_body files fuel (placed n) (rest_of rest) st
from_seat files fuel cs (Chooses n os rest) st = at_group files fuel (placed n) (options_of os.now) cs (rest_of rest) st
from_seat files fuel cs Finishes st = finishes st
from_seat files fuel cs (Fails f) st = stands (Faults (fault_of f)) st

abbrev pub coming : Walk → Coming
coming w fuel answers = from_seat (files_of w) fuel (all_shown w.offers.items) w.seat (at w.store answers)

-- what a walk gives within the next k + 1 events; each piece begins behind an event, so room for k further pieces suffices
abbrev pub run_of : Walk → List ℕ → Behaviour
run_of w answers k = coming w k answers k

-- ---- one turn

-- that event is the first, and the walk goes on with the rest
abbrev pub Gives : Coming → Event → Walk → Type 0
Gives c e new = (answers : List ℕ) (k : ℕ) → c k answers k ≡ emit (moment e (at new.store answers)) (run_of new answers) k

-- a turn of the walk
abbrev pub Turned : Coming → Turn → Walk → Type 0
Turned c (turn.NodeStart title) new = Gives c (event.NodeStart title.now) new
Turned c (turn.Line text values) new = Gives c (event.Line text.now.id values) new
Turned c (turn.Command text values) new = Gives c (event.Command (filled text.now.text values)) new
Turned c turn.Options new = Gives c (event.Options (all_shown new.offers.items)) new
Turned c (turn.NodeEnd title) new = Gives c (event.NodeEnd title.now) new
Turned c turn.End new = (answers : List ℕ) (k : ℕ) → c k answers k ≡ finishes (at new.store answers) k
Turned c (turn.Faults f) new = (answers : List ℕ) (k : ℕ) → c k answers k ≡ stands (Faults (fault_of f)) (at new.store answers) k

abbrev pub Turns : Walk → Turn → Walk → Type 0
Turns old t new = Turned (coming old) t new

-- ---- answers

abbrev pub is_asking : Seat → Bool
is_asking (Chooses n os rest) = true
is_asking _ = false

-- where no bytes are left, the run waits
abbrev pub Waits : Walk → Type 0
Waits w = (k : ℕ) → run_of w [] k ≡ stands IsWaiting (at w.store []) k

-- where that number is answered, it chooses an option and the walk goes on behind the answer; or it is rejected
abbrev pub IsChosen : Bool → ℕ → Walk → Walk → Type 0
IsChosen true number old new = (bytes rest : List ℕ) (k : ℕ) → answer_of bytes ≡ Some (record { number = number; rest = rest }) → run_of old bytes k ≡ run_of new rest k
IsChosen false number old new = (bytes rest : List ℕ) (k : ℕ) → answer_of bytes ≡ Some (record { number = number; rest = rest }) →
    run_of old bytes k ≡ emit (moment event.Rejected (at new.store rest)) (run_of new rest) k

-- the number, from 1, chooses an option that can be chosen, with that body; else none is chosen
abbrev pub Opens : List Choice → Options → ℕ → Option (Bor (List Stmt)) → Type 0
Opens cs os number (Some body) =
    (chooses number cs ≡ true) × ((st : State) → does_option no_hosts os (less_one number) st ≡ does_all no_hosts (stmts_of body.now) st)
    × ((table : Table) → TellsAll table (said_in_options os) → TellsAll table (said_in (stmts_of body.now)))
Opens cs os number None = chooses number cs ≡ false

-- ---- texts

-- the table has the texts that may still be shown
abbrev pub ToldSeat : Table → Seat → Type 0
ToldSeat table (Enters n) = TellsAll table (said_in (stmts_of n.node.now.body))
ToldSeat table (Within n rest) = TellsAll table (said_in (rest_of rest))
ToldSeat table (Chooses n os rest) = TellsAll table (said_in_options (options_of os.now)) × TellsAll table (said_in (rest_of rest))
ToldSeat table Finishes = ⊤
ToldSeat table (Fails f) = ⊤

-- the table has the texts that are shown
abbrev pub ToldTurn : Table → Turn → Walk → Type 0
ToldTurn table (turn.Line text values) new = Tells table text.now
ToldTurn table turn.Options new = All (λ (offer : Offer). Tells table offer.text.now) new.offers.items
ToldTurn table _ new = ⊤

-- whatever table has the texts of all files
abbrev pub WithTexts : List FileTree → (Table → Type 0) → Type 0
WithTexts files P = (table : Table) → TellsAll table (said_in_files files) → P table

abbrev pub TellsTurn : Walk → Turn → Walk → Type 0
TellsTurn old t new = WithTexts (files_of old) (λ table. ToldTurn table t new)

-- ---- what holds of each walk

-- an answer is only asked for where one of the options can be chosen
abbrev pub IsGroup : Seat → List Offer → Type 0
IsGroup (Chooses n os rest) offers = (any_open (all_shown offers) ≡ true) × AreOf (options_of os.now) offers
IsGroup _ offers = ⊤

pub record IsSound (w : Walk) : Type 0 where
  pub titles : HasAll w.titles
  pub told : WithTexts (files_of w) (λ table. ToldSeat table w.seat)
  pub group : IsGroup w.seat w.offers.items

pub record StaysSound (old new : Walk) : Type 0 where
  pub sound : IsSound new
  pub titles : new.titles ≡ old.titles

-- ---- how a node is left

-- the statements of a node
abbrev pub within_node : List FileTree → NodeAt → Stmts → Pairs → Coming
within_node files n rest store fuel answers = in_body files fuel (placed n) rest (at store answers)

-- a group of a node
abbrev pub with_group : List FileTree → NodeAt → List OptionItem → List Offer → Stmts → Pairs → Coming
with_group files n os offers rest store fuel answers =
    emit (moment (event.Options (all_shown offers)) (at store answers)) (at_group files fuel (placed n) (options_of os) (all_shown offers) rest (at store answers))

-- a jump on that line to that title
abbrev pub jumping : List FileTree → NodeAt → ℕ → List ℕ → Pairs → Coming
jumping files n line title store fuel answers =
    leaves (placed n) line (at store answers) (enters files (from [] files fuel) (placed n) line title (piece_of (placed n)))

-- what comes behind a node that is left, where the walk goes on so
abbrev pub arrives : List FileTree → ℕ → Seat → State → Behaviour
arrives files zero (Enters n) st = stands Limit st
arrives files (suc fuel) (Enters n) st = in_node (from [] files fuel) (piece_of (placed n)) st
arrives files fuel Finishes st = finishes st
arrives files fuel (Fails f) st = stands (Faults (fault_of f)) st
arrives files fuel _ st = stands Limit st

abbrev pub is_arrival : Seat → Bool
is_arrival (Enters n) = true
is_arrival Finishes = true
is_arrival (Fails f) = true
is_arrival _ = false

abbrev pub leaving : List FileTree → NodeAt → ℕ → Seat → Pairs → Coming
leaving files n line next store fuel answers = leaves (placed n) line (at store answers) (λ st. arrives files fuel next st)

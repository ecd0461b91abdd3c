-- What a tape tells of the functions that were asked (docs/guide-hosts.md, What the tape tells).
use Rattle.std.specs.Prelude.{◌≡◌, ◌≤◌, ◌⊎◌, ℕ, List, [], ◌∷◌, ◌++◌, length, map, nat_eq, if◌then◌else◌, Option, Some, None, Result, Ok, Err}
use Rattle.std.specs.List.{filter}
use Rattle.std.specs.Cmp.Lexicographic.{pointwise}
use Rattle.yarn_value.specs.declared.value.Value.{Value}
use Rattle.yarn_value.specs.declared.reply.Reply.{Reply}
use Rattle.yarn_value.specs.Tape.{Tape}
use Rattle.yarn_host.specs.declared.table.AskFault.{AskFault}
use Rattle.yarn_host.specs.declared.table.AskFault.TheVariants as fault
use Rattle.yarn_host.specs.Known.{counted, append_known, prepend_known}
use Rattle.yarn_host.specs.Meaning.{Meaning}
use Rattle.yarn_host.specs.Names.{meaning_of}
use Rattle.yarn_host.specs.Hosts.{Hosts}
use Rattle.yarn_host.specs.Calls.{Fails, Loses}
use Rattle.yarn_host.specs.Asks.{entry}

-- ---- how a course of asks ended

pub data Course : Type 0 where
  -- each ask got its reply
  Replied : Course
  -- the last one failed: it was of this function, with these arguments
  Failed : List ℕ → List Value → Course
  -- the last one got no reply, for want of memory
  Lost : List ℕ → List Value → Course

-- the last thing that happened to one function, behind its entries on the tape
pub data Last : Type 0 where
  Nothing : Last
  Failure : List Value → Last
  Loss : List Value → Last

abbrev pub last_of : Course → List ℕ → Last
last_of Replied name = Nothing
last_of (Failed asked args) name = if pointwise nat_eq asked name then Failure args else Nothing
last_of (Lost asked args) name = if pointwise nat_eq asked name then Loss args else Nothing

-- a function that got no memory may not have been asked at all
abbrev pub Ends : Last → Meaning → Meaning → Type 0
Ends Nothing before after = after ≡ before
Ends (Failure args) before after = Fails before after args
Ends (Loss args) before after = (after ≡ before) ⊎ Loses before after args

-- ---- the entries of one function

abbrev pub entries_of : List ℕ → Tape → Tape
entries_of name entries = filter (λ e. pointwise nat_eq e.name name) entries

-- the function gave the values of these entries, at their arguments, and was asked no more often
pub record Answered (entries : Tape) (old new : Meaning) : Type 0 where
  pub left : old.left ≡ prepend_known (map (λ e. e.value) entries) new.left
  pub came : new.came ≡ append_known old.came (map (λ e. e.args) entries)
  pub asked : new.asked ≡ counted (length entries) old.asked
  pub later : old.faults ≤ new.faults
  pub test : new.accepts ≡ old.accepts
  -- one that was never asked is as before
  pub idle : entries ≡ [] → new ≡ old

-- the function answered its entries, and then the last thing happened to it
pub record Ran (entries : Tape) (last : Last) (old new : Meaning) : Type 0 where
  pub between : Meaning
  pub answered : Answered entries old between
  pub ends : Ends last between new

-- a name stands for a function that ran so, or for none, which was never asked
abbrev pub Follows : Tape → Last → Option Meaning → Option Meaning → Type 0
Follows entries last None None = (entries ≡ []) × (last ≡ Nothing)
Follows entries last (Some old) (Some new) = Ran entries last old new
Follows entries last None (Some new) = ⊥
Follows entries last (Some old) None = ⊥

-- ---- the tape

-- from one table to another all that was asked stands on what was added to the tape, but for the last ask of a course that ended early
pub record TapeTells (old new : Hosts) (added : Tape) (course : Course) : Type 0 where
  pub signatures : new.signatures ≡ old.signatures
  pub tape : new.tape ≡ old.tape ++ added
  pub each : (name : List ℕ) → Follows (entries_of name added) (last_of course name)
      (meaning_of old.signatures old.meanings name) (meaning_of new.signatures new.meanings name)

-- ---- one ask

-- what an answer adds to the tape
abbrev pub added_by : List ℕ → List Value → Result Value AskFault → Tape
added_by name args (Ok value) = entry name args value ∷ []
added_by name args (Err fault.Failed) = []
added_by name args (Err (fault.WrongType value)) = entry name args value ∷ []
added_by name args (Err fault.Memory) = []

abbrev pub course_by : List ℕ → List Value → Result Value AskFault → Course
course_by name args (Ok value) = Replied
course_by name args (Err fault.Failed) = Failed name args
course_by name args (Err (fault.WrongType value)) = Replied
course_by name args (Err fault.Memory) = Lost name args

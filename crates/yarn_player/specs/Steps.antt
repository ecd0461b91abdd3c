-- What one step of a played run does.
use Rattle.std.specs.Prelude.{◌≡◌, ℕ, ◌≤◌, List, [], ◌++◌, Option, Some, None, Result, IsErrOf}
use Rattle.yarn_base.specs.Causes.{Rose}
use Rattle.yarn_base.specs.declared.fault.IoFault.{IoFault}
use Rattle.yarn_base.specs.declared.fault.IoFault.TheVariants as io
use Rattle.yarn_base.proofs.Written.{IsWritten}
use Rattle.yarn_code.specs.Answer.{answer_of}
use Rattle.yarn_code.specs.declared.event.Event.{Event}
use Rattle.yarn_code.specs.Moments.{Moment, moment, emit}
use Rattle.yarn_meaning.specs.Texts.{Table}
use Rattle.yarn_walker.specs.States.{at}
use Rattle.yarn_walker.specs.Walk.{run_of, files_of, WithTexts}
use Rattle.yarn_walker.specs.declared.walk.Walk.{Walk}
use Rattle.yarn_player.specs.Stands.{stand_of}
use Rattle.yarn_player.specs.Transcript.{shown, transcript}
use Rattle.yarn_player.specs.declared.ends.PlayEnd.{PlayEnd}
use Rattle.yarn_player.specs.declared.ends.PlayFault.{PlayFault}
use Rattle.yarn_player.specs.declared.ends.PlayFault.TheVariants as fault

-- ---- what the walk gives

-- that event is the next, and the rest comes from the new walk, with the rest of the bytes left
abbrev pub GivesNext : Walk → List ℕ → Event → Walk → List ℕ → Type 0
GivesNext old bytes e new rest = (k : ℕ) → run_of old bytes k ≡ emit (moment e (at new.store rest)) (run_of new rest) k

-- the run stands there, and nothing more is written
pub record StopsAt (old : Walk) (bytes : List ℕ) (end : PlayEnd) (new : Walk) (rest : List ℕ) : Type 0 where
  pub moments : List Moment
  pub nothing : (table : Table) → transcript table moments ≡ []
  pub run : (k : ℕ) → run_of old bytes k ≡ record { moments = moments; stand = stand_of end; state = at new.store rest }

-- ---- what is shown of it

-- what is taken from the bytes of the input that are left
abbrev pub Takes : Type 1
Takes = List ℕ → List ℕ → Type 0

abbrev pub NoAnswer : Takes
NoAnswer bytes rest = rest ≡ bytes

abbrev pub Answer : ℕ → Takes
Answer number bytes rest = answer_of bytes ≡ Some (record { number = number; rest = rest })

-- an event comes behind what is taken, and what is shown of it is kept
pub record ShowsEvent (takes : Takes) (old : Walk) (kept : List ℕ) (new : Walk) (now : List ℕ) : Type 0 where
  pub event : Event
  pub next : (bytes rest : List ℕ) → takes bytes rest → GivesNext old bytes event new rest
  pub shows : WithTexts (files_of old) (λ table. now ≡ kept ++ shown table event)

-- the run stands behind what is taken, and what is kept stays
pub record ShowsEnd (takes : Takes) (old : Walk) (kept : List ℕ) (end : PlayEnd) (new : Walk) (now : List ℕ) : Type 0 where
  pub stops : (bytes rest : List ℕ) → takes bytes rest → StopsAt old bytes end new rest
  pub stays : now ≡ kept

abbrev pub Shows : Takes → Walk → List ℕ → Option PlayEnd → Walk → List ℕ → Type 0
Shows takes old kept None new now = ShowsEvent takes old kept new now
Shows takes old kept (Some end) new now = ShowsEnd takes old kept end new now

-- ---- steps

-- where a run is played to: its walk, the bytes of the input that are left, those that are written, how often a write
-- failed, and the bytes that the page keeps
pub record Spot : Type 0 where
  pub walk : Walk
  pub left : Option (List ℕ)
  pub written : Option (List ℕ)
  pub faults : ℕ
  pub kept : List ℕ

abbrev pub spot : Walk → Option (List ℕ) → Option (List ℕ) → ℕ → List ℕ → Spot
spot walk left written faults kept = record { walk = walk; left = left; written = written; faults = faults; kept = kept }

-- these bytes are written from one spot to the other, but for those that are kept then
abbrev pub Hands : Spot → Spot → List ℕ → Type 0
Hands old new bytes = IsWritten old.written new.written old.faults new.faults bytes new.kept

-- where these bytes are left, an event is given, and what is shown of it is written or kept
pub record GivesEvent (old new : Spot) (bytes : List ℕ) : Type 0 where
  pub event : Event
  pub rest : List ℕ
  pub left_is : new.left ≡ Some rest
  pub next : GivesNext old.walk bytes event new.walk rest
  pub hands : WithTexts (files_of old.walk) (λ table. Hands old new (old.kept ++ shown table event))

-- where these bytes are left, the run stands
pub record GivesEnd (old new : Spot) (end : PlayEnd) (bytes : List ℕ) : Type 0 where
  pub rest : List ℕ
  pub left_is : new.left ≡ Some rest
  pub stops : StopsAt old.walk bytes end new.walk rest
  pub hands : Hands old new old.kept

-- one event is given, or the run stands
abbrev pub Steps : Spot → Spot → Option PlayEnd → Type 0
Steps old new None = (bytes : List ℕ) → old.left ≡ Some bytes → GivesEvent old new bytes
Steps old new (Some end) = (bytes : List ℕ) → old.left ≡ Some bytes → GivesEnd old new end bytes

-- ---- faults

-- a count doesn't fall, and that fault comes only where it rose
pub record IsCause {T : Type 0} (f : PlayFault) (before now : ℕ) (result : Result T PlayFault) : Type 0 where
  pub later : before ≤ now
  pub failed : IsErrOf result f → Rose before now

-- the fault of a play whose write gave that fault
abbrev pub fault_of_write : IoFault → PlayFault
fault_of_write io.Failed = fault.OutputFailed
fault_of_write io.Memory = fault.Memory

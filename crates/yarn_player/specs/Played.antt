-- What a run of a walk comes to.
use Rattle.std.specs.Prelude.{◌≡◌, ℕ, zero, suc, List, Option, Some}
use Rattle.std.specs.Io.KnownBytes.{append_known, prepend_known}
use Rattle.yarn_base.specs.Outside.{WritesPart}
use Rattle.yarn_code.specs.Moments.{Outcome, Limit, stands}
use Rattle.yarn_walker.specs.States.{at}
use Rattle.yarn_walker.specs.Walk.{run_of, files_of, WithTexts}
use Rattle.yarn_walker.specs.declared.walk.Walk.{Walk}
use Rattle.yarn_player.specs.Stands.{stand_of}
use Rattle.yarn_player.specs.Transcript.{transcript}
use Rattle.yarn_player.specs.declared.ends.Played.{Played}

-- the first events of a walk, so many, where these bytes of the input are left, and where the run stands then
abbrev pub first_from : Walk → List ℕ → ℕ → Outcome
first_from w answers zero = stands Limit (at w.store answers) zero
first_from w answers (suc k) = run_of w answers k

-- the stand, the variables there and the bytes of the input that are left
pub record IsPlayed (meant : Outcome) (played : Played) (left : Option (List ℕ)) : Type 0 where
  pub stand : stand_of played.end ≡ meant.stand
  pub store : played.store ≡ meant.state.store
  pub left_is : left ≡ Some meant.state.answers

-- the transcript was written, whatever table has the texts of the project
abbrev pub Writes : Walk → Outcome → Option (List ℕ) → Option (List ℕ) → Type 0
Writes w meant old new = WithTexts (files_of w) (λ table. new ≡ append_known old (transcript table meant.moments))

-- a front of the transcript was written
abbrev pub WritesSome : Walk → Outcome → Option (List ℕ) → Option (List ℕ) → Type 0
WritesSome w meant old new = WithTexts (files_of w) (λ table. WritesPart old new (transcript table meant.moments))

-- a front of the input was taken
pub record TakesFront (old new : Option (List ℕ)) : Type 0 where
  pub front : List ℕ
  pub split : old ≡ prepend_known front new

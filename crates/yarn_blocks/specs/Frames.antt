-- What is held and what is open, seen as plain data.
use Rattle.std.specs.Prelude.{◌≡◌, ℕ, ◌+◌, nat_le, Bool, false, List, [], ◌∷◌, Option, Some, None}
use Rattle.yarn_blocks.specs.declared.held.Held.{Held}
use Rattle.yarn_blocks.specs.declared.frame.Frame.{Frame}
use Rattle.yarn_blocks.specs.declared.frame.Frame.TheVariants.{InOption, InClause, InElse}
use Rattle.yarn_blocks.specs.declared.frame.Open.{Open}
use Rattle.yarn_blocks.specs.Reading as R
use Rattle.yarn_blocks.specs.View.{stmts_of, options_of, clauses_of}

abbrev pub held_of : Held → R.Held
held_of h = record { done = stmts_of h.done; group = options_of h.group }

abbrev pub frame_of : Frame → R.Frame
frame_of (InOption k text condition before) = R.InOption k (record { text = text; condition = condition }) (held_of before)
frame_of (InClause head condition cs before) = R.InClause (record { head = head; condition = condition }) (clauses_of cs) (held_of before)
frame_of (InElse head cs before) = R.InElse head (clauses_of cs) (held_of before)

abbrev pub frames_of : List Frame → List R.Frame
frames_of [] = []
frames_of (f ∷ fs) = frame_of f ∷ frames_of fs

abbrev pub frames_in : List Open → List Frame
frames_in [] = []
frames_in (o ∷ os) = o.frame ∷ frames_in os

-- each frame has the least indent within it
abbrev pub LeastsAreRight : List Open → Type 0
LeastsAreRight [] = Unit {0}
LeastsAreRight (o ∷ os) = (o.low ≡ R.least (frames_of (frames_in (o ∷ os)))) × LeastsAreRight os

abbrev pub first_open : List Open → Option Open
first_open [] = None
first_open (o ∷ os) = Some o

abbrev pub least_first : List Open → ℕ
least_first [] = 0
least_first (o ∷ os) = o.low

abbrev pub least_over : Frame → ℕ → ℕ
least_over (InOption k text condition before) outside = k + 1
least_over (InClause head condition cs before) outside = outside
least_over (InElse head cs before) outside = outside

-- a line with this indent ends the innermost frame
abbrev pub ends_frame : ℕ → List Frame → Bool
ends_frame i [] = false
ends_frame i (InOption k text condition before ∷ fs) = nat_le i k
ends_frame i (InClause head condition cs before ∷ fs) = false
ends_frame i (InElse head cs before ∷ fs) = false

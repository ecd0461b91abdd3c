-- The first events of the machine (docs/meaning.md, The machine).
use Rattle.std.specs.Prelude.{◌≡◌, ℕ, zero, suc, ◌+◌, List, [], ◌∷◌, Option, Some, None}
use Rattle.yarn_value.specs.Tape.{Tape}
use Rattle.yarn_code.specs.declared.event.Event.TheVariants as event
use Rattle.yarn_code.specs.declared.program.Program.{Program}
use Rattle.yarn_code.specs.Moments.{Stand, Outcome, Moment, moment}
use Rattle.yarn_code.specs.Moments as moments
use Rattle.yarn_code.specs.MachineState.{Doing, Runs, Enters, Rests, Asks, Over, MachineState, with_input}
use Rattle.yarn_code.specs.Machine.{Stepped, Quiet, Shows, Finishes, StandsAt, Stuck, next}

-- what the machine gave, where it stands, the state there, and how many instructions were run up to there
pub record Course : Type 0 where
  pub moments : List Moment
  pub stand : Stand
  pub last : MachineState
  pub count : ℕ

abbrev pub ran : List Moment → Stand → MachineState → Course
ran ms stand w = record { moments = ms; stand = stand; last = w; count = 0 }

-- what a reader sees of it
abbrev pub outcome_of : Course → Outcome
outcome_of r = record { moments = r.moments; stand = r.stand; state = r.last.state }

abbrev pub with_first : Moment → Option Course → Option Course
with_first m None = None
with_first m (Some r) = Some (record r { moments = m ∷ r.moments })

abbrev pub with_count : ℕ → Option Course → Option Course
with_count n None = None
with_count n (Some r) = Some (record r { count = n + r.count })

-- a step runs an instruction, or none
abbrev pub ticks : Doing → ℕ
ticks Runs = 1
ticks Enters = 0
ticks (Rests rest) = 0
ticks (Asks name args) = 0
ticks (Over cause) = 0

-- what a step does, and what follows it, up to the event of that number, from 0
abbrev pub follow : (MachineState → ℕ → Option Course) → Stepped → ℕ → Option Course
follow go (Quiet w) k = go w k
follow go (Shows shown w) zero = Some (ran (moment shown w.state ∷ []) moments.Limit w)
follow go (Shows shown w) (suc k) = with_first (moment shown w.state) (go w k)
follow go (Finishes w) k = Some (ran (moment event.End w.state ∷ []) moments.Ended w)
follow go (StandsAt stand w) k = Some (ran [] stand w)
follow go Stuck k = None

module _ (p : Program) where
  -- up to the event of that number, from 0, where at most so many steps come to it
  abbrev pub run : ℕ → MachineState → ℕ → Option Course
  run zero w k = None
  run (suc most) w k = with_count (ticks w.doing) (follow (run most) (next p w) k)

  -- so over some number of steps
  pub record Reaches (w : MachineState) (k : ℕ) (r : Course) : Type 0 where
    pub steps : ℕ
    pub runs : run steps w k ≡ Some r

  -- what the first k events from a state on come to, for k at least 1, over any number of steps
  abbrev pub MFirst : MachineState → ℕ → Course → Type 0
  MFirst w zero r = ⊥
  MFirst w (suc k) r = Reaches w k r

  -- two states come to the same for all answers, tapes and numbers of events, whatever number of instructions they run
  abbrev pub Comes : MachineState → MachineState → Type 0
  Comes w v = (bytes : List ℕ) (tape : Tape) (k : ℕ) (r : Course) → MFirst (with_input bytes tape w) k r →
      (q : Course) × MFirst (with_input bytes tape v) k q × (outcome_of q ≡ outcome_of r)

  pub record Same (w v : MachineState) : Type 0 where
    pub there : Comes w v
    pub back : Comes v w

-- From a shaped state there is one outcome for each number of events.
use Rattle.std.proofs.Common.{◌≡◌, ◌<◌, ◌≤◌, ℕ, zero, suc, ◌+◌, List, [], ◌∷◌, length, Option, Some, None, refl, sym, ap, ◌∙◌, subst, arith}
use Rattle.yarn_code.specs.declared.event.Event.TheVariants as event
use Rattle.yarn_code.specs.declared.program.CodeNode.{CodeNode}
use Rattle.yarn_code.specs.declared.program.Program.{Program}
use Rattle.yarn_code.specs.Moments.{State, Moment, moment}
use Rattle.yarn_code.specs.Moments as moments
use Rattle.yarn_code.specs.Parts.{code_titled}
use Rattle.yarn_code.specs.MachineState.{Stack, Offer, Starts, Doing, Runs, Enters, Rests, Asks, Over, Here, MachineState, machine, rests_at}
use Rattle.yarn_code.specs.Machine.{Stepped, Quiet, Shows, Finishes, StandsAt, Stuck, when_some, when_empty, in_node, step, next}
use Rattle.yarn_code.specs.Runs.{Course, ran, with_first, with_count, ticks, follow, run, Reaches}
use Rattle.yarn_check.specs.Shaped.{IsPlaced}
use Rattle.yarn_check.specs.Laws.{IsRunnable, IsGood, IsStep, HaveOutcomes}
use Rattle.yarn_check.proofs.Acts.{Goes, IsAct}
use Rattle.yarn_check.proofs.Steps.{acting, run_act, steps}
use Rattle.yarn_check.proofs.Comes.{within, OnQuiet, some_quiet, first_quiet, empty_quiet, IsLanded, Lands, lands, over_quiet}

-- ---- there is only one

abbrev BothSame : Option Course → Option Course → Type 0
BothSame r s = (x y : Course) → r ≡ Some x → s ≡ Some y → x ≡ y

first_same : (m : Moment) (r s : Option Course) → BothSame r s → BothSame (with_first m r) (with_first m s)
first_same m (Some x) (Some y) same = λ o q h g. let e = same x y refl refl in cc
first_same m (Some x) None same = λ o q h g. absurd cc
first_same m None s same = λ o q h g. absurd cc

count_same : (n : ℕ) (r s : Option Course) → BothSame r s → BothSame (with_count n r) (with_count n s)
count_same n (Some x) (Some y) same = λ o q h g. let e = same x y refl refl in cc
count_same n (Some x) None same = λ o q h g. absurd cc
count_same n None s same = λ o q h g. absurd cc

module _ (p : Program) where
  follow_same : (a b : ℕ) → ((w : MachineState) (k : ℕ) → BothSame (run p a w k) (run p b w k)) → (x : Stepped) (k : ℕ) →
      BothSame (follow (run p a) x k) (follow (run p b) x k)
  follow_same a b same (Quiet w) k = same w k
  follow_same a b same (Shows shown w) zero = λ o q h g. cc
  follow_same a b same (Shows shown w) (suc k) = first_same (moment shown w.state) (run p a w k) (run p b w k) (same w k)
  follow_same a b same (Finishes w) k = λ o q h g. cc
  follow_same a b same (StandsAt stand w) k = λ o q h g. cc
  follow_same a b same Stuck k = λ o q h g. absurd cc

  run_same : (a b : ℕ) (w : MachineState) (k : ℕ) → BothSame (run p a w k) (run p b w k)
  run_same zero b w k = λ o q h g. absurd cc
  run_same (suc a) zero w k = λ o q h g. absurd cc
  run_same (suc a) (suc b) w k = count_same (ticks w.doing) (follow (run p a) (next p w) k) (follow (run p b) (next p w) k) (follow_same a b (run_same a b) (next p w) k)

  -- ---- there is one

  abbrev Exists : MachineState → ℕ → Type 0
  Exists w k = (r : Course) × Reaches p w k r

  -- what is to be there behind an event
  abbrev Before : ℕ → MachineState → Type 0
  Before zero w = Unit {0}
  Before (suc k) w = Exists w k

  abbrev counted : ℕ → Course → Course
  counted n r = record r { count = n + r.count }

  abbrev behind : Moment → Course → Course
  behind m r = record r { moments = m ∷ r.moments }

  -- by the step, and what follows it
  by_step : (k : ℕ) (w : MachineState) (x : Stepped) → next p w ≡ x → (most : ℕ) (r : Course) → follow (run p most) x k ≡ Some r → Exists w k
  by_step k w x is most r h =
      (counted (ticks w.doing) r, record { steps = suc most; runs = ap (with_count (ticks w.doing)) (subst (λ y. follow (run p most) y k ≡ Some r) (sym is) h) })

  by_next : (k : ℕ) (w : MachineState) (x : Stepped) → next p w ≡ x → IsStep p x → ((v : MachineState) → IsGood p v → Before k v) →
      OnQuiet (λ v. Exists v k) x → Exists w k
  by_next k w (Quiet v) is h later quiet = by_step k w (Quiet v) is quiet.1.steps quiet.0 quiet.1.runs
  by_next zero w (Shows shown v) is h later quiet = by_step zero w (Shows shown v) is zero (ran (moment shown v.state ∷ []) moments.Limit v) refl
  by_next (suc k) w (Shows shown v) is h later quiet =
      let rest = later v h in
      by_step (suc k) w (Shows shown v) is rest.1.steps (behind (moment shown v.state) rest.0) (ap (with_first (moment shown v.state)) rest.1.runs)
  by_next k w (Finishes v) is h later quiet = by_step k w (Finishes v) is zero (ran (moment event.End v.state ∷ []) moments.Ended v) refl
  by_next k w (StandsAt stand v) is h later quiet = by_step k w (StandsAt stand v) is zero (ran [] stand v) refl
  by_next k w Stuck is h later quiet = absurd h

  -- ---- quiet steps come to an end

  -- so many instructions, counted twice, are left in the node at most
  abbrev Left : ℕ → Here → ℕ → Type 0
  Left most here place = (n : CodeNode) → code_titled here.node p.nodes ≡ Some n → length n.code + length n.code ≤ place + place + most

  abbrev LeftMore : ℕ → Here → ℕ → Type 0
  LeftMore most here place = (1 ≤ most) × ((n : CodeNode) → code_titled here.node p.nodes ≡ Some n → length n.code + length n.code + 1 ≤ place + place + most)

  -- at most so many quiet steps follow
  abbrev Near : ℕ → Here → ℕ → Doing → Type 0
  Near most here place Runs = Left most here place
  Near most here place Enters = Unit {0}
  Near most here place (Rests rest) = LeftMore most here place
  Near most here place (Asks name args) = LeftMore most here place
  Near most here place (Over cause) = Unit {0}

  abbrev Nearer : ℕ → MachineState → Type 0
  Nearer zero w = ⊥
  Nearer (suc most) w = Near most w.here w.place w.doing

  goes_near : (most : ℕ) (n : CodeNode) (here : Here) (place : ℕ) → code_titled here.node p.nodes ≡ Some n → Left (suc most) here place →
      (doing : Doing) (w : MachineState) → Goes n here place w doing → Near most w.here w.place doing
  goes_near most n here place named left Runs w goes =
      let after = goes.later in λ m found. let l = left m (ap (λ x. code_titled x.node p.nodes) (sym goes.same) ∙ found) in omega arith
  goes_near most n here place named left (Asks name args) w goes =
      let after = goes.later in
      let inside = goes.within in
      (let l = left n named in omega arith, λ m found. let l = left m (ap (λ x. code_titled x.node p.nodes) (sym goes.same) ∙ found) in omega arith)
  goes_near most n here place named left (Over cause) w goes = tt
  goes_near most n here place named left Enters w goes = absurd goes
  goes_near most n here place named left (Rests rest) w goes = absurd goes

  act_near : (most : ℕ) (n : CodeNode) (here : Here) (place : ℕ) → code_titled here.node p.nodes ≡ Some n → place < length n.code →
      Left most here place → (x : Stepped) → IsAct p n here place x →
      OnQuiet (Nearer most) x
  act_near zero n here place named inside left (Quiet w) h = let l = left n named in absurd (omega arith)
  act_near (suc most) n here place named inside left (Quiet w) h = goes_near most n here place named left w.doing w h.1
  act_near most n here place named inside left (Shows shown w) h = tt
  act_near most n here place named inside left (Finishes w) h = tt
  act_near most n here place named inside left (StandsAt stand w) h = tt
  act_near most n here place named inside left Stuck h = absurd h

  landed_near : (most : ℕ) (here : Here) (place : ℕ) → LeftMore (suc most) here place → (doing : Doing) (w : MachineState) →
      IsLanded here place w doing → Near most w.here w.place doing
  landed_near most here place left Runs w landed =
      λ m found. let l = left.1 m (ap (λ x. code_titled x.node p.nodes) (sym landed.0) ∙ found) in let e = landed.1 in omega arith
  landed_near most here place left Enters w landed = tt
  landed_near most here place left (Over cause) w landed = tt
  landed_near most here place left (Rests rest) w landed = absurd landed
  landed_near most here place left (Asks name args) w landed = absurd landed

  lands_near : (most : ℕ) (here : Here) (place : ℕ) → LeftMore most here place → (x : Stepped) → Lands here place x → OnQuiet (Nearer most) x
  lands_near zero here place left (Quiet w) landed = let l = left.0 in absurd (omega arith)
  lands_near (suc most) here place left (Quiet w) landed = landed_near most here place left w.doing w landed
  lands_near most here place left (Shows shown w) landed = tt
  lands_near most here place left (Finishes w) landed = tt
  lands_near most here place left (StandsAt stand w) landed = tt
  lands_near most here place left Stuck landed = tt

  module _ (runnable : IsRunnable p) where
    near_next : (most : ℕ) (here : Here) (place : ℕ) (stack : Stack) (pending : List Offer) (st : State) (doing : Doing) →
        IsGood p (machine here place stack pending doing st) → Near most here place doing →
        OnQuiet (Nearer most) (step p doing (machine here place stack pending doing st))
    near_next most here place stack pending st Runs good near =
        let placed = good.shaped.placed in
        let n = placed.node in
        let does = acting p runnable here place stack pending Runs st good.shaped.stored good.tape in
        subst (λ o. OnQuiet (Nearer most) (when_some o Stuck does)) (sym placed.named)
        (act_near most n here place placed.named (within p n (machine here place stack pending Runs st) placed.holds) near (does n)
        (run_act p runnable here place stack pending Runs st good.shaped.stored good.tape n placed.named placed.holds))
    near_next most here place stack pending st Enters good near =
        let w = machine here place stack pending Enters st in
        let begins = λ (n : CodeNode). Shows (event.NodeStart here.node) (rests_at 0 [] Starts w) in
        first_quiet (Nearer most) place (when_empty stack pending Stuck (in_node p w begins))
        (empty_quiet (Nearer most) stack pending (in_node p w begins) (some_quiet (Nearer most) (code_titled here.node p.nodes) begins (λ n. tt)))
    near_next most here place stack pending st (Rests rest) good near =
        lands_near most here place near (step p (Rests rest) (machine here place stack pending (Rests rest) st))
        (lands p here place stack pending st (Rests rest) (λ e. cc))
    near_next most here place stack pending st (Asks name args) good near =
        lands_near most here place near (step p (Asks name args) (machine here place stack pending (Asks name args) st))
        (lands p here place stack pending st (Asks name args) (λ e. cc))
    near_next most here place stack pending st (Over cause) good near =
        over_quiet p here place stack pending st (Nearer most) cause (machine here place stack pending (Over cause) st)

    -- each state is near enough
    more_left : (n : CodeNode) (here : Here) (place : ℕ) → code_titled here.node p.nodes ≡ Some n → LeftMore (length n.code + length n.code + 1) here place
    more_left n here place named = (
      omega arith,
      λ m found. let both : Some n ≡ Some m = sym named ∙ found in
          let e : n ≡ m = cc in
          subst (λ j. length j.code + length j.code + 1 ≤ place + place + (length n.code + length n.code + 1)) e (omega arith),
    )

    far : (doing : Doing) (w : MachineState) → IsPlaced p doing w → (most : ℕ) × Near most w.here w.place doing
    far Runs w placed =
        (length placed.node.code + length placed.node.code + 1, λ m found. let l = (more_left placed.node w.here w.place placed.named).1 m found in omega arith)
    far Enters w placed = (0, tt)
    far (Rests rest) w placed = (length placed.node.code + length placed.node.code + 1, more_left placed.node w.here w.place placed.named)
    far (Asks name args) w placed = (length placed.node.code + length placed.node.code + 1, more_left placed.node w.here w.place placed.named)
    far (Over cause) w placed = (0, tt)

    -- ---- by the number of events, and then by the quiet steps that are left

    module _ (k : ℕ) (later : (v : MachineState) → IsGood p v → Before k v) where
      quiet_exists : (most : ℕ) (x : Stepped) → IsStep p x → ((v : MachineState) → IsGood p v → Nearer most v → Exists v k) →
          OnQuiet (Nearer most) x → OnQuiet (λ v. Exists v k) x
      quiet_exists most (Quiet v) h go near = go v h near
      quiet_exists most (Shows shown v) h go near = tt
      quiet_exists most (Finishes v) h go near = tt
      quiet_exists most (StandsAt stand v) h go near = tt
      quiet_exists most Stuck h go near = tt

      near_exists : (most : ℕ) (w : MachineState) → IsGood p w → Near most w.here w.place w.doing → Exists w k
      near_exists zero w good near =
          by_next k w (next p w) refl (steps p w runnable good) later
          (quiet_exists zero (next p w) (steps p w runnable good) (λ v g never. absurd never) (near_next zero w.here w.place w.stack w.pending w.state w.doing good near))
      near_exists (suc most) w good near =
          by_next k w (next p w) refl (steps p w runnable good) later
          (quiet_exists (suc most) (next p w) (steps p w runnable good) (near_exists most) (near_next (suc most) w.here w.place w.stack w.pending w.state w.doing good near))

    exists : (k : ℕ) (w : MachineState) → IsGood p w → Exists w k
    exists zero w good = let f = far w.doing w good.shaped.placed in near_exists zero (λ v g. tt) f.0 w good f.1
    exists (suc k) w good = let f = far w.doing w good.shaped.placed in near_exists (suc k) (exists k) f.0 w good f.1

pub have_outcomes : HaveOutcomes
have_outcomes p w k runnable good =
    let one = exists p runnable k w good in
    record { outcome = one.0; first = one.1; alone = λ r other. run_same p other.steps one.1.steps w k r one.0 other.runs one.1.runs }

-- The next event, question or end comes within as many instructions as the node has.
use Rattle.std.proofs.Common.{◌≡◌, ◌<◌, ◌≤◌, ℕ, zero, suc, ◌+◌, ◌-◌, List, [], ◌∷◌, length, Bool, true, false, ◌&&◌, if◌then◌else◌, Option, Some, None, refl, sym, ap, ◌∙◌, subst, arith}
use Rattle.std.proofs.lemmas.Option.{slice_get_within}
use Rattle.yarn_value.specs.declared.value.Value as V
use Rattle.yarn_value.specs.declared.fault.RunFault.TheVariants as fault
use Rattle.yarn_value.specs.Operations.{same_text}
use Rattle.yarn_value.specs.Replies.{is_reply_of, same_values}
use Rattle.yarn_value.specs.Signatures.{signature_named}
use Rattle.yarn_value.specs.Tape.{Tape}
use Rattle.yarn_code.specs.declared.event.Event.TheVariants as event
use Rattle.yarn_code.specs.declared.program.CodeNode.{CodeNode}
use Rattle.yarn_code.specs.declared.program.Program.{Program}
use Rattle.yarn_code.specs.Answer.{Answered, answer_of}
use Rattle.yarn_code.specs.Answers.{chooses, any_open, less_one, at_answer}
use Rattle.yarn_code.specs.Moments.{State, with_tape, with_answers}
use Rattle.yarn_code.specs.Moments as moments
use Rattle.yarn_code.specs.Parts.{code_titled, line_at}
use Rattle.yarn_code.specs.MachineState.{Stack, Offer, choices, Leave, Stop, To, Line, Options, Command, Starts, Ends, Cause, Ended, Fault, Doing, Runs, Enters, Rests, Asks, Over, Value, Destination, Here, moved_to, MachineState, machine, rests_at, enters, with_state}
use Rattle.yarn_code.specs.Machine.{Stepped, Quiet, Shows, Finishes, StandsAt, Stuck, when_some, when_empty, when_first, label_at, breaks, in_node, enters_to, leaves, closed, answered, takes_reply, asks, ends, step}
use Rattle.yarn_check.specs.Shapes.{shape}
use Rattle.yarn_check.specs.Shaped.{IsShaped, IsPlaced, IsStored}
use Rattle.yarn_check.specs.Laws.{IsRunnable, TapeFits, IsGood, IsStep, OrAsks, ComesBy, Comes, ComesSoon}
use Rattle.yarn_check.proofs.Places.{coded_at}
use Rattle.yarn_check.proofs.Acts.{Goes, IsAct}
use Rattle.yarn_check.proofs.Steps.{gives_start, acting, run_act, steps}

-- a place that has a shape is in the node
pub within : (p : Program) (n : CodeNode) (w : MachineState) → IsShaped p n w → w.place < length n.code
within p n w shaped =
    let c = coded_at p n w.place shaped.has.shapes (shape shaped.entries shaped.labels) shaped.has.agrees shaped.has.has in
    slice_get_within n.code w.place c.0 c.1

-- ---- what holds of the state behind a quiet step

abbrev pub OnQuiet : (MachineState → Type 0) → Stepped → Type 0
OnQuiet P (Quiet w) = P w
OnQuiet P (Shows shown w) = Unit {0}
OnQuiet P (Finishes w) = Unit {0}
OnQuiet P (StandsAt stand w) = Unit {0}
OnQuiet P Stuck = Unit {0}

module _ (P : MachineState → Type 0) where
  pub some_quiet : {A : Type 0} (o : Option A) (f : A → Stepped) → ((a : A) → OnQuiet P (f a)) → OnQuiet P (when_some o Stuck f)
  some_quiet None f h = tt
  some_quiet (Some a) f h = h a

  pub first_quiet : (place : ℕ) (x : Stepped) → OnQuiet P x → OnQuiet P (when_first place Stuck x)
  first_quiet zero x h = h
  first_quiet (suc place) x h = tt

  pub empty_quiet : (stack : Stack) (pending : List Offer) (x : Stepped) → OnQuiet P x → OnQuiet P (when_empty stack pending Stuck x)
  empty_quiet [] [] x h = h
  empty_quiet [] (o ∷ os) x h = tt
  empty_quiet (e ∷ stack) pending x h = tt

-- ---- where a state lands that doesn't run

-- it runs on at the place, enters a node, or is over
abbrev pub IsLanded : Here → ℕ → MachineState → Doing → Type 0
IsLanded here place w Runs = (w.here ≡ here) × (w.place ≡ place)
IsLanded here place w Enters = Unit {0}
IsLanded here place w (Over cause) = Unit {0}
IsLanded here place w (Rests rest) = ⊥
IsLanded here place w (Asks name args) = ⊥

abbrev pub Lands : Here → ℕ → Stepped → Type 0
Lands here place x = OnQuiet (λ w. IsLanded here place w w.doing) x

module _ (p : Program) (here : Here) (place : ℕ) (stack : Stack) (pending : List Offer) (st : State) where
  abbrev at_work : Doing → MachineState
  at_work doing = machine here place stack pending doing st

  abbrev LandsFrom : Doing → Type 0
  LandsFrom doing = Lands here place (step p doing (at_work doing))

  abbrev Landed : MachineState → Type 0
  Landed w = IsLanded here place w w.doing

  enters_land : LandsFrom Enters
  enters_land =
      first_quiet Landed place (when_empty stack pending Stuck (in_node p (at_work Enters) (λ n. Shows (event.NodeStart here.node) (rests_at 0 [] Starts (at_work Enters)))))
      (empty_quiet Landed stack pending (in_node p (at_work Enters) (λ n. Shows (event.NodeStart here.node) (rests_at 0 [] Starts (at_work Enters))))
      (some_quiet Landed (code_titled here.node p.nodes) (λ n. Shows (event.NodeStart here.node) (rests_at 0 [] Starts (at_work Enters))) (λ n. tt)))

  options_land : (offers : List Offer) → LandsFrom (Rests (Options offers))
  options_land offers = by_open (any_open (choices offers))
    where
      by_test : (number : ℕ) (st1 : State) (b : Bool) → Lands here place (if b
          then Quiet (machine here place (Destination (label_at (less_one number) offers) ∷ stack) pending Runs st1)
          else Shows event.Rejected (machine here place stack pending (Rests (Options offers)) st1))
      by_test number st1 true = (refl, refl)
      by_test number st1 false = tt

      by_answer : (o : Option Answered) →
          Lands here place (at_answer o (StandsAt moments.Waits (at_work (Rests (Options offers))))
          (λ number rest. answered p offers number (with_state (with_answers rest st) (at_work (Rests (Options offers))))))
      by_answer (Some a) = by_test a.number (with_answers a.rest st) (chooses a.number (choices offers))
      by_answer None = tt

      by_open : (b : Bool) → Lands here place (if b
          then at_answer (answer_of st.answers) (StandsAt moments.Waits (at_work (Rests (Options offers))))
          (λ number rest. answered p offers number (with_state (with_answers rest st) (at_work (Rests (Options offers)))))
          else closed p (at_work (Rests (Options offers))))
      by_open true = by_answer (answer_of st.answers)
      by_open false =
          some_quiet Landed (code_titled here.node p.nodes) (λ n. breaks n (line_at n (place - 1)) fault.NoOpenOption (at_work (Rests (Options offers)))) (λ n. tt)

  found_lands : (n : CodeNode) (title : List ℕ) (w : MachineState) (o : Option CodeNode) →
      Lands here place (when_some o (breaks n (line_at n place) (fault.UnknownNode title) w) (λ to. Quiet (enters (moved_to title here) st)))
  found_lands n title w None = tt
  found_lands n title w (Some to) = tt

  ends_land : (leave : Leave) → LandsFrom (Rests (Ends leave))
  ends_land Stop = empty_quiet Landed stack pending (leaves p Stop (at_work (Rests (Ends Stop)))) tt
  ends_land (To title) =
      empty_quiet Landed stack pending (leaves p (To title) (at_work (Rests (Ends (To title)))))
      (some_quiet Landed (code_titled here.node p.nodes) (λ n. enters_to p n (line_at n place) title (at_work (Rests (Ends (To title)))))
      (λ n. found_lands n title (at_work (Rests (Ends (To title)))) (code_titled title p.nodes)))

  asks_land : (name : List ℕ) (args : List V.Value) (t : Tape) → Lands here place (asks p name args t (at_work (Asks name args)))
  asks_land name args [] = tt
  asks_land name args (r ∷ t) = by_test (same_text r.name name && same_values r.args args)
    where
      by_reply : (b : Bool) →
          Lands here place (if b then Quiet (machine here place (Value r.value ∷ stack) pending Runs (with_tape t st))
          else StandsAt (moments.BadReply name r.value) (machine here place stack pending (Asks name args) (with_tape t st)))
      by_reply true = (refl, refl)
      by_reply false = tt

      by_test : (b : Bool) →
          Lands here place (if b then takes_reply p name r.value (with_state (with_tape t st) (at_work (Asks name args)))
          else StandsAt (moments.Asks name args) (at_work (Asks name args)))
      by_test true = by_reply (is_reply_of (signature_named p.functions name) r.value)
      by_test false = tt

  pub over_quiet : (P : MachineState → Type 0) (cause : Cause) (w : MachineState) → OnQuiet P (ends p cause w)
  over_quiet P Ended w = tt
  over_quiet P (Fault place) w = tt

  pub lands : (doing : Doing) → (doing ≡ Runs → ⊥) → LandsFrom doing
  lands Runs other = absurd (other refl)
  lands Enters other = enters_land
  lands (Rests Starts) other = (refl, refl)
  lands (Rests (Line id values)) other = (refl, refl)
  lands (Rests (Command text)) other = (refl, refl)
  lands (Rests (Options offers)) other = options_land offers
  lands (Rests (Ends leave)) other = ends_land leave
  lands (Asks name args) other = asks_land name args st.tape
  lands (Over cause) other = over_quiet Landed cause (at_work (Over cause))

-- ---- how soon it comes

module _ (p : Program) (runnable : IsRunnable p) where
  over_comes : (most ticks : ℕ) (here : Here) (place : ℕ) (stack : Stack) (pending : List Offer) (cause : Cause) (st : State) → 1 ≤ most →
      Comes p most ticks (machine here place stack pending (Over cause) st)
  over_comes zero ticks here place stack pending cause st some = absurd (omega arith)
  over_comes (suc most) ticks here place stack pending Ended st some = tt
  over_comes (suc most) ticks here place stack pending (Fault at) st some = tt

  -- a node that is entered gives its start
  enters_comes : (most ticks : ℕ) (here : Here) (place : ℕ) (stack : Stack) (pending : List Offer) (st : State) →
      IsPlaced p Enters (machine here place stack pending Enters st) → 1 ≤ most →
      Comes p most ticks (machine here place stack pending Enters st)
  enters_comes zero ticks here place stack pending st placed some = absurd (omega arith)
  enters_comes (suc most) ticks here place stack pending st placed some =
      subst (ComesBy (Comes p most ticks)) (sym (gives_start p (machine here place stack pending Enters st) placed)) tt

  -- from where a state runs, each tick comes nearer to the node's end
  abbrev Running : ℕ → ℕ → Type 0
  Running most ticks = (n : CodeNode) (here : Here) (place : ℕ) (stack : Stack) (pending : List Offer) (st : State) → IsStored p st.store → TapeFits st.tape →
      code_titled here.node p.nodes ≡ Some n → IsShaped p n (machine here place stack pending Runs st) → length n.code ≤ place + ticks → ticks < most →
      Comes p most ticks (machine here place stack pending Runs st)

  -- the node of the state is the one of its title
  module _ (most ticks : ℕ) (later : Running most ticks) (n : CodeNode) where
    placed_runs : (here : Here) (place : ℕ) (stack : Stack) (pending : List Offer) (st : State) →
        IsPlaced p Runs (machine here place stack pending Runs st) → IsStored p st.store → TapeFits st.tape →
        code_titled here.node p.nodes ≡ Some n → length n.code ≤ place + ticks → ticks < most → Comes p most ticks (machine here place stack pending Runs st)
    placed_runs here place stack pending st placed is tape named bound fewer =
        later placed.node here place stack pending st is tape placed.named placed.holds
        (let same : Some n ≡ Some placed.node = sym named ∙ placed.named in let e : n ≡ placed.node = cc in subst (λ k. length k.code ≤ place + ticks) e bound) fewer

    goes_comes : (from : Here) (before : ℕ) (doing : Doing) (here : Here) (place : ℕ) (stack : Stack) (pending : List Offer) (st : State) →
        Goes n from before (machine here place stack pending doing st) doing →
        IsPlaced p doing (machine here place stack pending doing st) → IsStored p st.store → TapeFits st.tape →
        code_titled from.node p.nodes ≡ Some n → length n.code ≤ before + suc ticks → ticks < most →
        OrAsks doing (Comes p most ticks (machine here place stack pending doing st))
    goes_comes from before Runs here place stack pending st goes placed is tape named bound fewer =
        let later_on = goes.later in
        placed_runs here place stack pending st placed is tape (ap (λ x. code_titled x.node p.nodes) goes.same ∙ named) (omega arith) fewer
    goes_comes from before (Asks name args) here place stack pending st goes placed is tape named bound fewer = tt
    goes_comes from before (Over cause) here place stack pending st goes placed is tape named bound fewer = over_comes most ticks here place stack pending cause st (omega arith)
    goes_comes from before Enters here place stack pending st goes placed is tape named bound fewer = absurd goes
    goes_comes from before (Rests rest) here place stack pending st goes placed is tape named bound fewer = absurd goes

    act_comes : (here : Here) (place : ℕ) (x : Stepped) → IsAct p n here place x → code_titled here.node p.nodes ≡ Some n →
        length n.code ≤ place + suc ticks → ticks < most → ComesBy (Comes p most ticks) x
    act_comes here place (Quiet w) h named bound fewer =
        goes_comes here place w.doing w.here w.place w.stack w.pending w.state h.1 h.0.shaped.placed h.0.shaped.stored h.0.tape named bound fewer
    act_comes here place (Shows shown w) h named bound fewer = tt
    act_comes here place (Finishes w) h named bound fewer = tt
    act_comes here place (StandsAt stand w) h named bound fewer = tt
    act_comes here place Stuck h named bound fewer = absurd h

  running : (most ticks : ℕ) → Running most ticks
  running zero ticks n here place stack pending st is tape named shaped bound fewer = absurd (omega arith)
  running (suc most) zero n here place stack pending st is tape named shaped bound fewer =
      let inside = within p n (machine here place stack pending Runs st) shaped in absurd (omega arith)
  running (suc most) (suc ticks) n here place stack pending st is tape named shaped bound fewer =
      subst (λ o. ComesBy (Comes p most ticks) (when_some o Stuck (acting p runnable here place stack pending Runs st is tape))) (sym named)
      (act_comes most ticks (running most ticks) n here place (acting p runnable here place stack pending Runs st is tape n)
      (run_act p runnable here place stack pending Runs st is tape n named shaped) named bound (omega arith))

  module _ (n : CodeNode) (here : Here) (named : code_titled here.node p.nodes ≡ Some n) where
    -- behind a step that lands
    abbrev most : ℕ
    most = suc (suc (length n.code))

    landed_comes : (at : ℕ) (doing : Doing) (h : Here) (place : ℕ) (stack : Stack) (pending : List Offer) (st : State) →
        IsLanded here at (machine h place stack pending doing st) doing →
        IsPlaced p doing (machine h place stack pending doing st) → IsStored p st.store → TapeFits st.tape →
        OrAsks doing (Comes p most (length n.code) (machine h place stack pending doing st))
    landed_comes at Runs h place stack pending st landed placed is tape =
        placed_runs most (length n.code) (running most (length n.code)) n h place stack pending st placed is tape
        (ap (λ x. code_titled x.node p.nodes) landed.0 ∙ named) (omega arith) (omega arith)
    landed_comes at Enters h place stack pending st landed placed is tape = enters_comes most (length n.code) h place stack pending st placed (omega arith)
    landed_comes at (Over cause) h place stack pending st landed placed is tape = over_comes most (length n.code) h place stack pending cause st (omega arith)
    landed_comes at (Rests rest) h place stack pending st landed placed is tape = absurd landed
    landed_comes at (Asks name args) h place stack pending st landed placed is tape = absurd landed

    step_comes : (place : ℕ) (x : Stepped) → IsStep p x → Lands here place x → ComesBy (Comes p most (length n.code)) x
    step_comes place (Quiet w) h landed = landed_comes place w.doing w.here w.place w.stack w.pending w.state landed h.shaped.placed h.shaped.stored h.tape
    step_comes place (Shows shown w) h landed = tt
    step_comes place (Finishes w) h landed = tt
    step_comes place (StandsAt stand w) h landed = tt
    step_comes place Stuck h landed = absurd h

    -- from a state that doesn't run
    other_comes : (doing : Doing) (place : ℕ) (stack : Stack) (pending : List Offer) (st : State) → (doing ≡ Runs → ⊥) →
        IsGood p (machine here place stack pending doing st) →
        ComesBy (Comes p most (length n.code)) (step p doing (machine here place stack pending doing st))
    other_comes doing place stack pending st other good =
        step_comes place (step p doing (machine here place stack pending doing st)) (steps p (machine here place stack pending doing st) runnable good)
        (lands p here place stack pending st doing other)

    comes_from : (doing : Doing) (place : ℕ) (stack : Stack) (pending : List Offer) (st : State) → IsGood p (machine here place stack pending doing st) →
        Comes p (suc most) (length n.code) (machine here place stack pending doing st)
    comes_from Runs place stack pending st good =
        placed_runs (suc most) (length n.code) (running (suc most) (length n.code)) n here place stack pending st good.shaped.placed good.shaped.stored good.tape
        named (omega arith) (omega arith)
    comes_from Enters place stack pending st good = other_comes Enters place stack pending st (λ e. cc) good
    comes_from (Rests rest) place stack pending st good = other_comes (Rests rest) place stack pending st (λ e. cc) good
    comes_from (Asks name args) place stack pending st good = other_comes (Asks name args) place stack pending st (λ e. cc) good
    comes_from (Over cause) place stack pending st good = other_comes (Over cause) place stack pending st (λ e. cc) good

pub comes_soon : ComesSoon
comes_soon p w n runnable good named =
    let e : suc (suc (suc (length n.code))) ≡ length n.code + 3 = omega arith in
    subst (λ k. Comes p k (length n.code) w) e (comes_from p runnable n w.here named w.doing w.place w.stack w.pending w.state good)

-- The machine follows a group that was shown: it waits for an answer, or none can be chosen.
use Rattle.std.proofs.Common.{◌≡◌, ℕ, zero, suc, ◌+◌, ◌-◌, ◌<◌, ◌≤◌, Bool, true, false, if◌then◌else◌, List, [], ◌∷◌, length, Option, Some, None, refl, sym, ap, subst, ◌∙◌, arith}
use Rattle.std.specs.Prelude.{slice_get}
use Rattle.yarn_value.specs.declared.fault.RunFault.TheVariants as run
use Rattle.yarn_code.specs.Answer.{Answered, answer_of}
use Rattle.yarn_code.specs.declared.event.Event.TheVariants as event
use Rattle.yarn_code.specs.Moments.{State, Behaviour, stands, with_answers}
use Rattle.yarn_value.specs.Pairs.{Pairs}
use Rattle.yarn_code.specs.Moments as moments
use Rattle.yarn_value.specs.Evaluation.{Halt, Faults}
use Rattle.yarn_meaning.specs.Does.{Done, done, Waiting, Halted, showing, picked}
use Rattle.yarn_code.specs.Answers.{chooses, is_open, any_open, less_one, at_answer}
use Rattle.yarn_meaning.specs.First.{Exits, after, halts_at}
use Rattle.yarn_compile.specs.Code.{Terms}
use Rattle.yarn_code.specs.declared.program.Instr.{Instr}
use Rattle.yarn_code.specs.Parts.{coded, line_at}
use Rattle.yarn_code.specs.declared.program.Program.{Program}
use Rattle.yarn_code.specs.MachineState.{Destination, Stack, Offer, choices, Options, Rests, MachineState, machine}
use Rattle.yarn_code.specs.Machine.{Stepped, Quiet, Shows, StandsAt, label_at, answered, closed, breaks, next}
use Rattle.yarn_compile.proofs.Follows.{running, Site, here_of, coded_node, Follows, quiet, shows_same, halts, breaks_here, at_node_code, line_before}
use Rattle.yarn_compile.proofs.Answering.{answer_shorter, empty_answer}

module _ (terms : Terms) (p : Program) (site : Site terms p) (n : ℕ) (x : Exits) (halting : (line : ℕ) (h : Halt) (st : State) → x.halts line h st ≡ stands (halts_at site.node line h) st) (Good : Pairs → Type 0) where
  module _ (pc : ℕ) (stack : Stack) (offers : List Offer) where
    -- what the machine does where it waits
    abbrev waiting_step : State → Option Answered → Stepped
    waiting_step st o =
        at_answer o (StandsAt moments.Waits (machine (here_of site) pc stack [] (Rests (Options offers)) st))
        (λ number rest. answered p offers number (machine (here_of site) pc stack [] (Rests (Options offers)) (with_answers rest st)))

    abbrev shown_step : State → Bool → Stepped
    shown_step st b = if b then waiting_step st (answer_of st.answers) else closed p (machine (here_of site) pc stack [] (Rests (Options offers)) st)

    next_shown : (st : State) (b : Bool) → any_open (choices offers) ≡ b →
        next p (machine (here_of site) pc stack [] (Rests (Options offers)) st) ≡ shown_step st b
    next_shown st b e = ap (shown_step st) e

    module _ (f : ℕ → State → Done) (can : any_open (choices offers) ≡ true)
        (chosen : (i : ℕ) (st : State) → Good st.store → is_open i (choices offers) ≡ true →
        Follows p n (running (here_of site) pc (Destination (label_at i offers) ∷ stack) [] st) (after (f i st) x)) where
      -- the option that an answer names is open
      open_chosen : (a : ℕ) → chooses a (choices offers) ≡ true → is_open (less_one a) (choices offers) ≡ true
      open_chosen zero e = cc
      open_chosen (suc i) e = e

      abbrev chosen_step : ℕ → State → Bool → Stepped
      chosen_step a st b =
          if b then Quiet (running (here_of site) pc (Destination (label_at (less_one a) offers) ∷ stack) [] st)
          else Shows event.Rejected (machine (here_of site) pc stack [] (Rests (Options offers)) st)

      -- an answer: again is what follows a refusal
      answered_follows : (st : State) (a : Answered) (again : Done) (b : Bool) → Good st.store → answer_of st.answers ≡ Some a →
          chooses a.number (choices offers) ≡ b →
          Follows p n (machine (here_of site) pc stack [] (Rests (Options offers)) (with_answers a.rest st)) (after again x) →
          Follows p n (machine (here_of site) pc stack [] (Rests (Options offers)) st)
          (after (if b then f (less_one a.number) (with_answers a.rest st) else showing event.Rejected (with_answers a.rest st) again) x)
      answered_follows st a again true good e eb h =
          let e1 : next p (machine (here_of site) pc stack [] (Rests (Options offers)) st) ≡ chosen_step a.number (with_answers a.rest st) true =
          next_shown st true can ∙ ap (waiting_step st) e ∙ ap (chosen_step a.number (with_answers a.rest st)) eb in
          quiet p n _ _ _ e1 (chosen (less_one a.number) (with_answers a.rest st) good (open_chosen a.number eb))
      answered_follows st a again false good e eb h =
          let e1 : next p (machine (here_of site) pc stack [] (Rests (Options offers)) st) ≡ chosen_step a.number (with_answers a.rest st) false =
          next_shown st true can ∙ ap (waiting_step st) e ∙ ap (chosen_step a.number (with_answers a.rest st)) eb in
          shows_same p n _ (machine (here_of site) pc stack [] (Rests (Options offers)) (with_answers a.rest st)) event.Rejected (after again x) e1 h

      none_left : (st : State) → answer_of st.answers ≡ None →
          Follows p n (machine (here_of site) pc stack [] (Rests (Options offers)) st) (after (done Waiting st) x)
      none_left st e = halts p n _ (machine (here_of site) pc stack [] (Rests (Options offers)) st) moments.Waits
          (next_shown st true can ∙ ap (waiting_step st) e)

      of_answer : (fuel : ℕ) (st : State) → Good st.store → length st.answers ≤ suc fuel →
          ((st1 : State) → Good st1.store → length st1.answers ≤ fuel →
          Follows p n (machine (here_of site) pc stack [] (Rests (Options offers)) st1) (after (picked fuel (choices offers) st1 f) x)) →
          (o : Option Answered) → answer_of st.answers ≡ o →
          Follows p n (machine (here_of site) pc stack [] (Rests (Options offers)) st)
          (after (at_answer o (done Waiting st) (λ number rest. if chooses number (choices offers) then f (less_one number) (with_answers rest st)
          else showing event.Rejected (with_answers rest st) (picked fuel (choices offers) (with_answers rest st) f))) x)
      of_answer fuel st good le again None e = none_left st e
      of_answer fuel st good le again (Some a) e =
          let shorter : length a.rest < length st.answers = answer_shorter st.answers a e in
          answered_follows st a (picked fuel (choices offers) (with_answers a.rest st) f) (chooses a.number (choices offers)) good e refl
          (again (with_answers a.rest st) good (omega arith))

      waiting : (fuel : ℕ) (st : State) → Good st.store → length st.answers ≤ fuel →
          Follows p n (machine (here_of site) pc stack [] (Rests (Options offers)) st) (after (picked fuel (choices offers) st f) x)
      waiting zero st good le = none_left st (empty_answer st.answers le)
      waiting (suc fuel) st good le = of_answer fuel st good le (λ st1 good1 le1. waiting fuel st1 good1 le1) (answer_of st.answers) refl

  -- behind SHOW_OPTIONS
  pub shown : (pc line : ℕ) (stack : Stack) (offers : List Offer) (i : Instr) (f : ℕ → State → Done) →
      slice_get site.code pc ≡ Some (coded line i) →
      ((i : ℕ) (st : State) → Good st.store → is_open i (choices offers) ≡ true →
      Follows p n (running (here_of site) (pc + 1) (Destination (label_at i offers) ∷ stack) [] st) (after (f i st) x)) →
      (st : State) → Good st.store → (b : Bool) → any_open (choices offers) ≡ b →
      Follows p n (machine (here_of site) (pc + 1) stack [] (Rests (Options offers)) st)
      (after (if b then picked (length st.answers) (choices offers) st f else done (Halted line (Faults run.NoOpenOption)) st) x)
  shown pc line stack offers i f met chosen st good true can = waiting (pc + 1) stack offers f can chosen (length st.answers) st good (omega arith)
  shown pc line stack offers i f met chosen st good false none =
      let w : MachineState = machine (here_of site) (pc + 1) stack [] (Rests (Options offers)) st in
      subst (Follows p n (machine (here_of site) (pc + 1) stack [] (Rests (Options offers)) st)) (sym (halting line (Faults run.NoOpenOption) st))
      (breaks_here terms p site n _ w line run.NoOpenOption
      (next_shown (pc + 1) stack offers st false none ∙ at_node_code terms p site (λ c. breaks c (line_at c (pc + 1 - 1)) run.NoOpenOption w)
      ∙ ap (λ l. breaks (coded_node site.node site.code) l run.NoOpenOption w) (line_before terms p site pc line i met)))

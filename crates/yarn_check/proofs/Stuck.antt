-- No shaped state is stuck, and what it waits for is taken.
use Rattle.std.proofs.Common.{◌≡◌, ℕ, ◌-◌, List, ◌∷◌, Bool, true, false, if◌then◌else◌, Option, Some, None, is_some, IsTrue, refl, sym, ap, ◌∙◌, subst, arith}
use Rattle.yarn_value.specs.declared.fault.RunFault.TheVariants as fault
use Rattle.yarn_code.specs.declared.event.Event.TheVariants as event
use Rattle.yarn_code.specs.declared.program.CodeNode.{CodeNode}
use Rattle.yarn_code.specs.declared.program.Program.{Program}
use Rattle.yarn_code.specs.Answer.{Answered, answer_of}
use Rattle.yarn_code.specs.Answers.{chooses, any_open, less_one, at_answer}
use Rattle.yarn_code.specs.Moments.{State, with_answers}
use Rattle.yarn_code.specs.Moments as moments
use Rattle.yarn_code.specs.Parts.{code_titled, line_of, line_at}
use Rattle.yarn_code.specs.MachineState.{Stack, Offer, choices, Stop, To, Line, Options, Command, Starts, Ends, Doing, Runs, Enters, Rests, Asks, Over, Destination, Here, moved_to, MachineState, machine, enters, with_state}
use Rattle.yarn_code.specs.Machine.{Stepped, Quiet, Shows, Finishes, StandsAt, Stuck, when_some, label_at, breaks, enters_to, leaves, closed, answered, step, next}
use Rattle.yarn_check.specs.Shaped.{IsPlaced, Shaped}
use Rattle.yarn_check.specs.Laws.{IsRunnable, TapeFits, IsStep, NeverStuck, HasInput, MakesStep, StepsOn, TakesReply, Closes, NoneOpen}
use Rattle.yarn_check.proofs.Acts.{IsAct}
use Rattle.yarn_check.proofs.Steps.{gives_start, emptied, acting, run_act, steps}

pub never_stuck : NeverStuck
never_stuck p w runnable good is = subst (IsStep p) is (steps p w runnable good)

-- ---- what is taken

pub takes_reply : TakesReply
takes_reply p w name args doing shaped has = rw doing (rw has.is (rw (has.asked, has.right) refl))

pub none_open : NoneOpen
none_open p w offers doing shaped none = by_placed (subst (λ d. IsPlaced p d w) doing shaped.placed)
  where
    by_placed : IsPlaced p (Rests (Options offers)) w → Closes p (next p w) w
    by_placed placed =
        let at = placed.holds in
        let n = placed.node in
        let back : w.place - 1 ≡ at.behind.before = let e = at.behind.next in omega arith in
        let line : line_at n (w.place - 1) ≡ at.behind.stands.line = ap (line_at n) back ∙ ap line_of at.behind.stands.stands in
        record {
          node = n;
          named = placed.named;
          before = at.behind.before;
          line = at.behind.stands.line;
          stands = at.behind.stands.stands;
          is = rw doing (rw (none, placed.named) (ap (λ k. breaks n k fault.NoOpenOption w) line));
        }

-- ---- a step is made

module _ (p : Program) (runnable : IsRunnable p) (here : Here) (place : ℕ) (stack : Stack) (pending : List Offer) (st : State) where
  -- the state, by what it is doing
  abbrev at_work : Doing → MachineState
  at_work doing = machine here place stack pending doing st

  act_makes : (n : CodeNode) (x : Stepped) → IsAct p n here place x → MakesStep x
  act_makes n (Quiet w) h = tt
  act_makes n (Shows shown w) h = tt
  act_makes n (Finishes w) h = absurd h
  act_makes n (StandsAt stand w) h = absurd h
  act_makes n Stuck h = absurd h

  in_its_node : (f : CodeNode → Stepped) (n : CodeNode) → code_titled here.node p.nodes ≡ Some n → MakesStep (f n) →
      MakesStep (when_some (code_titled here.node p.nodes) Stuck f)
  in_its_node f n named h = subst (λ o. MakesStep (when_some o Stuck f)) (sym named) h

  waits_makes : (offers : List Offer) → IsPlaced p (Rests (Options offers)) (at_work (Rests (Options offers))) → IsTrue (is_some (answer_of st.answers)) →
      MakesStep (step p (Rests (Options offers)) (at_work (Rests (Options offers))))
  waits_makes offers placed input = by_open (any_open (choices offers))
    where
      by_test : (number : ℕ) (st1 : State) (b : Bool) → MakesStep (if b
          then Quiet (machine here place (Destination (label_at (less_one number) offers) ∷ stack) pending Runs st1)
          else Shows event.Rejected (machine here place stack pending (Rests (Options offers)) st1))
      by_test number st1 true = tt
      by_test number st1 false = tt

      by_answer : (o : Option Answered) → IsTrue (is_some o) →
          MakesStep (at_answer o (StandsAt moments.Waits (at_work (Rests (Options offers))))
          (λ number rest. answered p offers number (with_state (with_answers rest st) (at_work (Rests (Options offers))))))
      by_answer (Some a) some = by_test a.number (with_answers a.rest st) (chooses a.number (choices offers))
      by_answer None some = absurd cc

      by_open : (b : Bool) → MakesStep (if b
          then at_answer (answer_of st.answers) (StandsAt moments.Waits (at_work (Rests (Options offers))))
          (λ number rest. answered p offers number (with_state (with_answers rest st) (at_work (Rests (Options offers)))))
          else closed p (at_work (Rests (Options offers))))
      by_open true = by_answer (answer_of st.answers) input
      by_open false = in_its_node (λ n. breaks n (line_at n (place - 1)) fault.NoOpenOption (at_work (Rests (Options offers)))) placed.node placed.named tt

  found_makes : (n : CodeNode) (title : List ℕ) (w : MachineState) (o : Option CodeNode) →
      MakesStep (when_some o (breaks n (line_at n place) (fault.UnknownNode title) w) (λ to. Quiet (enters (moved_to title here) st)))
  found_makes n title w None = tt
  found_makes n title w (Some to) = tt

  makes : (doing : Doing) → Shaped p (at_work doing) → TapeFits st.tape → HasInput p doing st → MakesStep (step p doing (at_work doing))
  makes Runs shaped tape input =
      let n = shaped.placed.node in
      in_its_node (acting p runnable here place stack pending Runs st shaped.stored tape) n shaped.placed.named
      (act_makes n (acting p runnable here place stack pending Runs st shaped.stored tape n)
      (run_act p runnable here place stack pending Runs st shaped.stored tape n shaped.placed.named shaped.placed.holds))
  makes Enters shaped tape input = subst MakesStep (sym (gives_start p (at_work Enters) shaped.placed)) tt
  makes (Rests Starts) shaped tape input = tt
  makes (Rests (Line id values)) shaped tape input = tt
  makes (Rests (Command text)) shaped tape input = tt
  makes (Rests (Options offers)) shaped tape input = waits_makes offers shaped.placed input
  makes (Rests (Ends Stop)) shaped tape input =
      let empty = shaped.placed.holds.empty in
      subst MakesStep (sym (emptied stack pending (leaves p Stop (at_work (Rests (Ends Stop)))) empty.no_entries empty.no_offers)) tt
  makes (Rests (Ends (To title))) shaped tape input =
      let empty = shaped.placed.holds.0.empty in
      subst MakesStep (sym (emptied stack pending (leaves p (To title) (at_work (Rests (Ends (To title))))) empty.no_entries empty.no_offers))
      (in_its_node (λ n. enters_to p n (line_at n place) title (at_work (Rests (Ends (To title))))) shaped.placed.node shaped.placed.named
      (found_makes shaped.placed.node title (at_work (Rests (Ends (To title)))) (code_titled title p.nodes)))
  makes (Asks name args) shaped tape input = subst MakesStep (sym (takes_reply p (at_work (Asks name args)) name args refl shaped input)) tt
  makes (Over cause) shaped tape input = absurd input

pub steps_on : StepsOn
steps_on p w runnable good input = makes p runnable w.here w.place w.stack w.pending w.state w.doing good.shaped good.tape input

-- One step from a shaped state.
use Rattle.std.proofs.Common.{◌≡◌, ℕ, zero, suc, ◌-◌, List, [], ◌∷◌, length, Bool, true, false, ◌&&◌, if◌then◌else◌, Contains, Option, Some, None, refl, sym, ap, ◌∙◌, subst, arith, slice_get}
use Rattle.std.proofs.lemmas.Bool.{leb-true, and_parts}
use Rattle.yarn_value.specs.declared.value.Value as V
use Rattle.yarn_value.specs.declared.value.Value.TheVariants as value
use Rattle.yarn_value.specs.declared.fault.RunFault.TheVariants as fault
use Rattle.yarn_value.specs.declared.signature.Signature.{Signature}
use Rattle.yarn_value.specs.Values.{kind_of}
use Rattle.yarn_value.specs.Rows.{same_kind}
use Rattle.yarn_value.specs.Operations.{same_text}
use Rattle.yarn_value.specs.Replies.{is_short, is_reply_of, same_values}
use Rattle.yarn_value.specs.Signatures.{signature_named}
use Rattle.yarn_value.specs.Tape.{Tape}
use Rattle.yarn_code.specs.declared.event.Event.TheVariants as event
use Rattle.yarn_code.specs.declared.program.CodeNode.{CodeNode}
use Rattle.yarn_code.specs.declared.program.Program.{Program}
use Rattle.yarn_code.specs.Answer.{Answered, answer_of}
use Rattle.yarn_code.specs.Answers.{is_open, chooses, any_open, less_one, at_answer}
use Rattle.yarn_code.specs.Moments.{State, with_tape, with_answers}
use Rattle.yarn_code.specs.Moments as moments
use Rattle.yarn_code.specs.Parts.{code_titled, line_at}
use Rattle.yarn_code.specs.Fields.{IsFitting, IsNodeField, HasOperands}
use Rattle.yarn_code.specs.MachineState as m
use Rattle.yarn_code.specs.MachineState.{Stack, Offer, choices, Leave, Stop, To, Rest, Line, Options, Command, Starts, Ends, Cause, Ended, Fault, Doing, Runs, Enters, Rests, Asks, Over, Here, moved_to, MachineState, machine, runs_at, rests_at, enters, with_state, entry}
use Rattle.yarn_code.specs.Machine.{Stepped, Quiet, Shows, Finishes, StandsAt, Stuck, when_some, when_empty, when_first, label_at, breaks, act, in_node, enters_to, leaves, closed, answered, takes_reply, asks, step}
use Rattle.yarn_check.specs.Shapes as s
use Rattle.yarn_check.specs.Shapes.{shape, IsValidNode}
use Rattle.yarn_check.specs.Shaped.{IsOf, HasOffers, IsShaped, IsAtOptions, IsAtCall, IsPlaced, IsStored}
use Rattle.yarn_check.specs.Laws.{IsRunnable, NumberFits, TapeFits, IsGood, IsStep, Steps, Begins}
use Rattle.yarn_check.proofs.SameKinds.{kind_same}
use Rattle.yarn_check.proofs.Places.{of_titled, of_got, coded_at}
use Rattle.yarn_check.proofs.Acts.{IsAct, acts_well}

-- ---- options

later_in : (l x : ℕ) (ls : List ℕ) → Contains ls x → Contains (l ∷ ls) x
later_in l x ls h = let lt = h.1 in (suc h.0, omega arith, h.2)

open_at : (p : Program) (k : ℕ) (labels : List ℕ) (offers : List Offer) → HasOffers p labels offers → is_open k (choices offers) ≡ true →
    Contains labels (label_at k offers)
open_at p zero labels [] has is = absurd cc
open_at p (suc k) labels [] has is = absurd cc
open_at p zero [] (o ∷ os) has is = absurd has
open_at p (suc k) [] (o ∷ os) has is = absurd has
open_at p zero (l ∷ ls) (o ∷ os) has is = (0, omega arith, sym has.0.at)
open_at p (suc k) (l ∷ ls) (o ∷ os) has is = later_in l (label_at k os) ls (open_at p k ls os has.1 is)

chosen_at : (p : Program) (number : ℕ) (labels : List ℕ) (offers : List Offer) → HasOffers p labels offers → chooses number (choices offers) ≡ true →
    Contains labels (label_at (less_one number) offers)
chosen_at p zero labels offers has is = absurd cc
chosen_at p (suc k) labels offers has is = open_at p k labels offers has is

-- ---- replies

short_fits : (v : V.Value) → is_short v ≡ true → NumberFits v → IsFitting v
short_fits (value.Number n) h g = g
short_fits (value.Str text) h g = leb-true (length text) 65536 h
short_fits (value.Truth b) h g = tt

-- a right reply is a fitting value of the function's kind
reply_is : (p : Program) (name : List ℕ) (one : Signature) (v : V.Value) → signature_named p.functions name ≡ Some one →
    is_reply_of (signature_named p.functions name) v ≡ true → NumberFits v → IsOf one.result v
reply_is p name one v named h g =
    let here : (same_kind one.result (kind_of v) && is_short v) ≡ true = ap (λ o. is_reply_of o v) (sym named) ∙ h in
    let parts = and_parts (same_kind one.result (kind_of v)) (is_short v) here in
    record { kind = sym (kind_same one.result (kind_of v) parts.0); fits = short_fits v parts.1 g }

-- ---- states with an empty stack

entering : (place : ℕ) (stack : Stack) (pending : List Offer) (x : Stepped) → place ≡ 0 → stack ≡ [] → pending ≡ [] →
    when_first place Stuck (when_empty stack pending Stuck x) ≡ x
entering place stack pending x first no_entries no_offers = rw (first, no_entries, no_offers) refl

-- a node that is entered gives its start
pub gives_start : (p : Program) (w : MachineState) → IsPlaced p Enters w → step p Enters w ≡ Shows (event.NodeStart w.here.node) (rests_at 0 [] Starts w)
gives_start p w placed =
    let at = placed.holds in
    let shows : CodeNode → Stepped = λ n. Shows (event.NodeStart w.here.node) (rests_at 0 [] Starts w) in
    entering w.place w.stack w.pending (in_node p w shows) at.first at.empty.no_entries at.empty.no_offers ∙ ap (λ o. when_some o Stuck shows) placed.named

pub emptied : (stack : Stack) (pending : List Offer) (x : Stepped) → stack ≡ [] → pending ≡ [] → when_empty stack pending Stuck x ≡ x
emptied stack pending x no_entries no_offers = rw (no_entries, no_offers) refl

module _ (p : Program) (runnable : IsRunnable p) where
  valid_node : (title : List ℕ) (n : CodeNode) → code_titled title p.nodes ≡ Some n → IsValidNode p n
  valid_node title n named = of_titled (IsValidNode p) title p.nodes n runnable.valid named

  act_step : (n : CodeNode) (here : Here) (place : ℕ) (x : Stepped) → IsAct p n here place x → IsStep p x
  act_step n here place (Quiet w) h = h.0
  act_step n here place (Shows shown w) h = h
  act_step n here place (Finishes w) h = absurd h
  act_step n here place (StandsAt stand w) h = absurd h
  act_step n here place Stuck h = absurd h

  module _ (here : Here) (place : ℕ) (stack : Stack) (pending : List Offer) (doing : Doing) (st : State) (is : IsStored p st.store) (tape : TapeFits st.tape) where
    -- the instruction of the node at the place
    abbrev pub acting : CodeNode → Stepped
    acting n = when_some (slice_get n.code place) Stuck (λ c. act p n c.line c.instr (machine here place stack pending doing st))

    pub run_act : (n : CodeNode) → code_titled here.node p.nodes ≡ Some n → IsShaped p n (machine here place stack pending doing st) →
        IsAct p n here place (acting n)
    run_act n named shaped =
        let c = coded_at p n place shaped.has.shapes (shape shaped.entries shaped.labels) shaped.has.agrees shaped.has.has in
        let runs = shaped.has.agrees.runs place c.0 (shape shaped.entries shaped.labels) c.1 shaped.has.has in
        let fields : IsNodeField p n = of_titled (IsNodeField p) here.node p.nodes n runnable.fields.nodes named in
        subst (λ o. IsAct p n here place (when_some o Stuck (λ c. act p n c.line c.instr (machine here place stack pending doing st)))) (sym c.1)
        (acts_well p n here named shaped.has.shapes shaped.has.agrees place c.0.line shaped.entries shaped.labels stack pending doing st runs.goals
        shaped.entered shaped.offered is tape shaped.has.has runs.reached c.0.instr c.1
        ((valid_node here.node n named).fine place c.0 c.1)
        (of_got (λ c. HasOperands c.instr) n.code place c.0 fields.operands c.1)
        runs.can)

  module _ (here : Here) (place : ℕ) (stack : Stack) (pending : List Offer) (st : State) (is : IsStored p st.store) (tape : TapeFits st.tape) where
    -- the state, by what it is doing
    abbrev at_work : Doing → MachineState
    at_work doing = machine here place stack pending doing st

    -- in the node of the state
    in_its_node : (f : CodeNode → Stepped) (n : CodeNode) → code_titled here.node p.nodes ≡ Some n → IsStep p (f n) →
        IsStep p (when_some (code_titled here.node p.nodes) Stuck f)
    in_its_node f n named h = subst (λ o. IsStep p (when_some o Stuck f)) (sym named) h

    good_over : (cause : Cause) → IsGood p (machine here place [] [] (Over cause) st)
    good_over cause = record { shaped = record { placed = record { entries = tt; offers = tt }; stored = is }; tape = tape }

    abbrev StepOf : Doing → Type 0
    StepOf doing = IsPlaced p doing (at_work doing) → IsStep p (step p doing (at_work doing))

    runs_step : StepOf Runs
    runs_step placed =
        in_its_node (acting here place stack pending Runs st is tape) placed.node placed.named
        (act_step placed.node here place (acting here place stack pending Runs st is tape placed.node)
        (run_act here place stack pending Runs st is tape placed.node placed.named placed.holds))

    enters_step : StepOf Enters
    enters_step placed =
        let valid = valid_node here.node placed.node placed.named in
        subst (IsStep p) (sym (gives_start p (at_work Enters) placed))
        (record {
          shaped = record {
            placed = record {
              node = placed.node;
              named = placed.named;
              holds = record {
                first = refl;
                shaped = record {
                  entries = [];
                  labels = [];
                  has = record { shapes = valid.shapes; agrees = valid.agrees; has = valid.agrees.begins };
                  entered = tt;
                  offered = subst (HasOffers p []) (sym placed.holds.empty.no_offers) tt;
                };
              };
            };
            stored = is;
          };
          tape = tape;
        })

    -- ---- behind an event

    -- it runs on from there
    on_from : (doing : Doing) (n : CodeNode) → code_titled here.node p.nodes ≡ Some n → IsShaped p n (at_work doing) → IsGood p (at_work Runs)
    on_from doing n named shaped = record {
      shaped = record {
        placed = record {
          node = n;
          named = named;
          holds = record { entries = shaped.entries; labels = shaped.labels; has = shaped.has; entered = shaped.entered; offered = shaped.offered };
        };
        stored = is;
      };
      tape = tape;
    }

    abbrev after_answer : List ℕ → State
    after_answer rest = with_answers rest st

    answered_step : (offers : List Offer) (n : CodeNode) → code_titled here.node p.nodes ≡ Some n →
        IsAtOptions p n offers (at_work (Rests (Options offers))) → (number : ℕ) (rest : List ℕ) →
        IsStep p (answered p offers number (with_state (after_answer rest) (at_work (Rests (Options offers)))))
    answered_step offers n named at number rest = by_test (chooses number (choices offers)) refl
      where
        by_test : (b : Bool) → chooses number (choices offers) ≡ b →
            IsStep p (if b then Quiet (machine here place (m.Destination (label_at (less_one number) offers) ∷ stack) pending Runs (after_answer rest))
            else Shows event.Rejected (machine here place stack pending (Rests (Options offers)) (after_answer rest)))
        by_test true chosen = record {
          shaped = record {
            placed = record {
              node = n;
              named = named;
              holds = record {
                entries = s.Destination at.labels ∷ at.entries;
                labels = [];
                has = at.has;
                entered = (chosen_at p number at.labels offers at.offered chosen, at.entered);
                offered = subst (HasOffers p []) (sym at.nothing) tt;
              };
            };
            stored = is;
          };
          tape = tape;
        }
        by_test false chosen = record {
          shaped = record {
            placed = record {
              node = n;
              named = named;
              holds = record { behind = at.behind; labels = at.labels; entries = at.entries; has = at.has; entered = at.entered; offered = at.offered; nothing = at.nothing };
            };
            stored = is;
          };
          tape = tape;
        }

    options_step : (offers : List Offer) → StepOf (Rests (Options offers))
    options_step offers placed = by_open (any_open (choices offers))
      where
        by_answer : (o : Option Answered) →
            IsStep p (at_answer o (StandsAt moments.Waits (at_work (Rests (Options offers))))
            (λ number rest. answered p offers number (with_state (after_answer rest) (at_work (Rests (Options offers))))))
        by_answer None = record { shaped = record { placed = placed; stored = is }; tape = tape }
        by_answer (Some a) = answered_step offers placed.node placed.named placed.holds a.number a.rest

        by_open : (b : Bool) → IsStep p (if b
            then at_answer (answer_of st.answers) (StandsAt moments.Waits (at_work (Rests (Options offers))))
            (λ number rest. answered p offers number (with_state (after_answer rest) (at_work (Rests (Options offers)))))
            else closed p (at_work (Rests (Options offers))))
        by_open true = by_answer (answer_of st.answers)
        by_open false =
            in_its_node (λ n. breaks n (line_at n (place - 1)) fault.NoOpenOption (at_work (Rests (Options offers)))) placed.node placed.named
            (good_over _)

    ends_step : (leave : Leave) → StepOf (Rests (Ends leave))
    ends_step Stop placed =
        let empty = placed.holds.empty in
        subst (IsStep p) (sym (emptied stack pending (leaves p Stop (at_work (Rests (Ends Stop)))) empty.no_entries empty.no_offers)) (good_over Ended)
    ends_step (To title) placed =
        let empty = placed.holds.0.empty in
        subst (IsStep p) (sym (emptied stack pending (leaves p (To title) (at_work (Rests (Ends (To title))))) empty.no_entries empty.no_offers))
        (in_its_node (λ n. enters_to p n (line_at n place) title (at_work (Rests (Ends (To title))))) placed.node placed.named
        (by_found (code_titled title p.nodes) refl))
      where
        by_found : (o : Option CodeNode) → code_titled title p.nodes ≡ o →
            IsStep p (when_some o (breaks placed.node (line_at placed.node place) (fault.UnknownNode title) (at_work (Rests (Ends (To title)))))
            (λ to. Quiet (enters (moved_to title here) st)))
        by_found None found = good_over _
        by_found (Some to) found = record {
          shaped = record { placed = record { node = to; named = found; holds = record { first = refl; empty = record { no_entries = refl; no_offers = refl } } }; stored = is };
          tape = tape;
        }

    rests_step : (rest : Rest) → StepOf (Rests rest)
    rests_step Starts placed = on_from (Rests Starts) placed.node placed.named placed.holds.shaped
    rests_step (Line id vs) placed = on_from (Rests (Line id vs)) placed.node placed.named placed.holds.behind.shaped
    rests_step (Command text) placed = on_from (Rests (Command text)) placed.node placed.named placed.holds.behind.shaped
    rests_step (Options offers) placed = options_step offers placed
    rests_step (Ends leave) placed = ends_step leave placed

    -- ---- a question

    taken_step : (name : List ℕ) (args : List V.Value) (n : CodeNode) → code_titled here.node p.nodes ≡ Some n →
        IsAtCall p n name args (at_work (Asks name args)) → (v : V.Value) (rest : Tape) →
        NumberFits v → TapeFits rest → IsStep p (takes_reply p name v (with_state (with_tape rest st) (at_work (Asks name args))))
    taken_step name args n named at v rest fit left = by_test (is_reply_of (signature_named p.functions name) v) refl
      where
        by_test : (b : Bool) → is_reply_of (signature_named p.functions name) v ≡ b →
            IsStep p (if b then Quiet (machine here place (m.Value v ∷ stack) pending Runs (with_tape rest st))
            else StandsAt (moments.BadReply name v) (machine here place stack pending (Asks name args) (with_tape rest st)))
        by_test true right = record {
          shaped = record {
            placed = record {
              node = n;
              named = named;
              holds = record {
                entries = s.Of at.signature.result ∷ at.entries;
                labels = at.labels;
                has = at.has;
                entered = (reply_is p name at.signature v at.named right fit, at.entered);
                offered = at.offered;
              };
            };
            stored = is;
          };
          tape = left;
        }
        by_test false right = record {
          shaped = record {
            placed = record {
              node = n;
              named = named;
              holds = record {
                signature = at.signature;
                host = at.host;
                named = at.named;
                takes = at.takes;
                behind = at.behind;
                entries = at.entries;
                labels = at.labels;
                has = at.has;
                entered = at.entered;
                offered = at.offered;
              };
            };
            stored = is;
          };
          tape = left;
        }

    -- no reply is there, and the state stays
    as_asked : (name : List ℕ) (args : List V.Value) → IsPlaced p (Asks name args) (at_work (Asks name args)) → IsGood p (at_work (Asks name args))
    as_asked name args placed = record { shaped = record { placed = placed; stored = is }; tape = tape }

    asks_step : (name : List ℕ) (args : List V.Value) (t : Tape) → TapeFits t → IsPlaced p (Asks name args) (at_work (Asks name args)) →
        IsStep p (asks p name args t (at_work (Asks name args)))
    asks_step name args [] fit placed = as_asked name args placed
    asks_step name args (r ∷ t) fit placed = by_test (same_text r.name name && same_values r.args args)
      where
        by_test : (b : Bool) →
            IsStep p (if b then takes_reply p name r.value (with_state (with_tape t st) (at_work (Asks name args)))
            else StandsAt (moments.Asks name args) (at_work (Asks name args)))
        by_test true = taken_step name args placed.node placed.named placed.holds r.value t fit.0 fit.1
        by_test false = as_asked name args placed

    -- ---- any state

    over_step : (cause : Cause) → StepOf (Over cause)
    over_step Ended placed = record { shaped = record { placed = placed; stored = is }; tape = tape }
    over_step (Fault place) placed = record { shaped = record { placed = placed; stored = is }; tape = tape }

    step_of : (doing : Doing) → StepOf doing
    step_of Runs placed = runs_step placed
    step_of Enters placed = enters_step placed
    step_of (Rests rest) placed = rests_step rest placed
    step_of (Asks name args) placed = asks_step name args st.tape tape placed
    step_of (Over cause) placed = over_step cause placed

pub steps : Steps
steps p w runnable good = step_of p runnable w.here w.place w.stack w.pending w.state good.shaped.stored good.tape w.doing good.shaped.placed

pub begins : Begins
begins p start st there is tape = record {
  shaped = record {
    placed = record { node = there.node; named = there.named; holds = record { first = refl; empty = record { no_entries = refl; no_offers = refl } } };
    stored = is;
  };
  tape = tape;
}

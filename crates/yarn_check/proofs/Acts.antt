-- One instruction on a stack that has its shape.
use Rattle.std.proofs.Common.{◌≡◌, ◌<◌, ℕ, ◌+◌, List, [], ◌∷◌, ◌++◌, length, map, Bool, true, false, if◌then◌else◌, All, Option, Some, None, Ok, Err, is_some, IsTrue, refl, sym, ap, ◌∙◌, subst, arith, slice_get}
use Rattle.std.proofs.lemmas.List.Elements.{All-nil, All-cons, All-head, All-tail, All-contains}
use Rattle.yarn_value.specs.declared.value.Value as V
use Rattle.yarn_value.specs.declared.value.Value.TheVariants as value
use Rattle.yarn_value.specs.declared.value.Kind.{Kind}
use Rattle.yarn_value.specs.declared.value.Kind.TheVariants as kind
use Rattle.yarn_value.specs.declared.signature.Signature.{Signature}
use Rattle.yarn_value.specs.Builtins.{Row, builtin_named}
use Rattle.yarn_value.specs.Rows.{takes}
use Rattle.yarn_value.specs.Values.{kind_of}
use Rattle.yarn_value.specs.Operations.{Outcome}
use Rattle.yarn_value.specs.Signatures.{signature_named}
use Rattle.yarn_value.specs.Calls.{builtin_result, kind_of_call}
use Rattle.yarn_value.specs.Templates.{Part, template_of, expanded}
use Rattle.yarn_code.specs.declared.event.Event.TheVariants as event
use Rattle.yarn_code.specs.declared.program.Instr.{Instr}
use Rattle.yarn_code.specs.declared.program.Instr.TheVariants as code
use Rattle.yarn_code.specs.declared.program.CodeNode.{CodeNode}
use Rattle.yarn_code.specs.declared.program.Program.{Program}
use Rattle.yarn_code.specs.Moments.{State, with_value}
use Rattle.yarn_code.specs.Parts.{coded, code_titled}
use Rattle.yarn_code.specs.Fields.{HasOperands}
use Rattle.yarn_code.specs.MachineState as m
use Rattle.yarn_code.specs.MachineState.{Stack, Offer, Line, Command, To, Ends, Rests, Doing, Runs, Enters, Asks, Over, Here, MachineState, machine, runs_at, rests_at}
use Rattle.yarn_code.specs.Machine.{Stepped, Quiet, Shows, Finishes, StandsAt, Stuck, take_values, when_some, offer, scope_at, pushes, calls, act}
use Rattle.yarn_check.specs.Shapes as s
use Rattle.yarn_check.specs.Shapes.{ShapeEntry, shape, Shapes, Goal, goal, HasShape, Agrees, IsReached, PassesFirstLook, IsLine, flow, goes_on, take_kinds, on_known, on_kind, kind_under, kind_called}
use Rattle.yarn_check.specs.Shaped.{IsOf, AreOf, HasEntries, HasOffers, HasShapeAt, Stands, Behind, IsShaped, IsStored}
use Rattle.yarn_check.specs.Laws.{TapeFits, IsGood}
use Rattle.yarn_check.proofs.Operations.{IsMeant, of_truth, of_number, of_text}
use Rattle.yarn_check.proofs.Builtins.{builtin_gives}
use Rattle.yarn_check.proofs.Stores.{IsThere, variable_is, put_stored}
use Rattle.yarn_check.proofs.Takes.{values_taken, value_taken, truth_on_top, truth_taken, text_on_top, destination_taken, any_taken}
use Rattle.yarn_check.proofs.Places.{one_of, second_of, all_of, nothing_is, something_is, are_fitting, are_kinds, offers_and}
use Rattle.yarn_check.proofs.Calls.{row_called, host_called}

-- a later place of the same node
pub record IsOnward (n : CodeNode) (here : Here) (place : ℕ) (w : MachineState) : Type 0 where
  pub same : w.here ≡ here
  pub later : place < w.place
  pub within : w.place < length n.code

-- runs on or asks a function, at a later place; or is over
abbrev pub Goes : CodeNode → Here → ℕ → MachineState → Doing → Type 0
Goes n here place w Runs = IsOnward n here place w
Goes n here place w (Asks name args) = IsOnward n here place w
Goes n here place w (Over cause) = Unit {0}
Goes n here place w Enters = ⊥
Goes n here place w (Rests rest) = ⊥

-- what an instruction does is good
abbrev pub IsAct : Program → CodeNode → Here → ℕ → Stepped → Type 0
IsAct p n here place (Quiet w) = IsGood p w × Goes n here place w w.doing
IsAct p n here place (Shows shown w) = IsGood p w
IsAct p n here place (Finishes w) = ⊥
IsAct p n here place (StandsAt stand w) = ⊥
IsAct p n here place Stuck = ⊥

module _ (p : Program) (n : CodeNode) (here : Here) (named : code_titled here.node p.nodes ≡ Some n) (shapes : Shapes) (agrees : Agrees p n shapes) (place : ℕ) where
  abbrev Q : Stepped → Type 0
  Q = IsAct p n here place

  abbrev Reached : Goal → Type 0
  Reached = IsReached n shapes place

  shape_at : (at : ℕ) (es : List ShapeEntry) (ls : List ℕ) → HasShape shapes at (shape es ls) → HasShapeAt p n at (shape es ls)
  shape_at at es ls has = record { shapes = shapes; agrees = agrees; has = has }

  -- it runs on at a goal
  runs_on : (at : ℕ) (es : List ShapeEntry) (ls : List ℕ) (stack : Stack) (pending : List Offer) (st : State) →
      Reached (goal at (shape es ls)) → HasEntries es stack → HasOffers p ls pending → IsStored p st.store → TapeFits st.tape →
      Q (Quiet (machine here at stack pending Runs st))
  runs_on at es ls stack pending st reached entered offered is tape = (
    record {
      shaped = record {
        placed = record { node = n; named = named; holds = record { entries = es; labels = ls; has = shape_at at es ls reached.has; entered = entered; offered = offered } };
        stored = is;
      };
      tape = tape;
    },
    record { same = refl; later = reached.later.later; within = reached.later.within },
  )

  module _ (line : ℕ) (es : List ShapeEntry) (ls : List ℕ) (stack : Stack) (pending : List Offer) (doing : Doing) (st : State) (goals : List Goal)
      (entered : HasEntries es stack) (offered : HasOffers p ls pending) (is : IsStored p st.store) (tape : TapeFits st.tape)
      (has : HasShape shapes place (shape es ls)) (reached : All Reached goals) where
    abbrev w : MachineState
    w = machine here place stack pending doing st

    abbrev Acts : Instr → Type 0
    Acts instr = Q (act p n line instr w)

    -- the flow of the instruction
    abbrev Can : Instr → Type 0
    Can instr = flow p instr place es ls ≡ Some goals

    -- the instruction stands there
    abbrev IsHere : Instr → Type 0
    IsHere instr = slice_get n.code place ≡ Some (coded line instr)

    stands_here : (instr : Instr) → IsHere instr → Stands p n place instr
    stands_here instr stands = record { line = line; stands = stands; shape = shape es ls; has = shape_at place es ls has }

    behind_here : (instr : Instr) → IsHere instr → Behind p n (place + 1) instr
    behind_here instr stands = record { before = place; next = refl; stands = stands_here instr stands }

    -- it goes on to the next instruction
    next_on : (es1 : List ShapeEntry) (ls1 : List ℕ) (stack1 : Stack) (pending1 : List Offer) (st1 : State) → goes_on place es1 ls1 ≡ Some goals →
        HasEntries es1 stack1 → HasOffers p ls1 pending1 → IsStored p st1.store → TapeFits st1.tape → Q (Quiet (machine here (place + 1) stack1 pending1 Runs st1))
    next_on es1 ls1 stack1 pending1 st1 can entered1 offered1 is1 tape1 =
        runs_on (place + 1) es1 ls1 stack1 pending1 st1 (one_of Reached (goal (place + 1) (shape es1 ls1)) [] goals can reached) entered1 offered1 is1 tape1

    next_shaped : (es1 : List ShapeEntry) (ls1 : List ℕ) (stack1 : Stack) (pending1 : List Offer) (doing1 : Doing) (st1 : State) →
        goes_on place es1 ls1 ≡ Some goals →
        HasEntries es1 stack1 → HasOffers p ls1 pending1 → IsShaped p n (machine here (place + 1) stack1 pending1 doing1 st1)
    next_shaped es1 ls1 stack1 pending1 doing1 st1 can entered1 offered1 = record {
      entries = es1;
      labels = ls1;
      has = shape_at (place + 1) es1 ls1 (one_of Reached (goal (place + 1) (shape es1 ls1)) [] goals can reached).has;
      entered = entered1;
      offered = offered1;
    }

    -- ---- jumps

    jump_to : (label : ℕ) → Can (code.JumpTo label) → Acts (code.JumpTo label)
    jump_to label can = runs_on label es ls stack pending st (one_of Reached (goal label (shape es ls)) [] goals can reached) entered offered is tape

    jump : Can code.Jump → Acts code.Jump
    jump can =
        destination_taken Q Stuck goals es stack (λ labels. Some (map (λ label. goal label (shape es ls)) labels)) (λ label. Quiet (runs_at label stack w)) entered can
        (λ labels label among gone.
        let each : All (λ l. Reached (goal l (shape es ls))) labels = goals_of labels (all_of Reached (map (λ label. goal label (shape es ls)) labels) goals gone reached) in
        runs_on label es ls stack pending st (All-contains (λ l. Reached (goal l (shape es ls))) labels label each among) entered offered is tape)
      where
        goals_of : (labels : List ℕ) → All Reached (map (λ label. goal label (shape es ls)) labels) → All (λ l. Reached (goal l (shape es ls))) labels
        goals_of [] all = All-nil (λ l. Reached (goal l (shape es ls)))
        goals_of (l ∷ labels) all =
            All-cons (λ l. Reached (goal l (shape es ls))) l labels (All-head Reached (goal l (shape es ls)) (map (λ label. goal label (shape es ls)) labels) all)
            (goals_of labels (All-tail Reached (goal l (shape es ls)) (map (λ label. goal label (shape es ls)) labels) all))

    jump_if_false : (label : ℕ) → Can (code.JumpIfFalse label) → Acts (code.JumpIfFalse label)
    jump_if_false label can =
        truth_on_top Q Stuck goals es stack (λ rest. Some (goal label (shape es ls) ∷ goal (place + 1) (shape es ls) ∷ []))
        (λ b rest. Quiet (runs_at (if b then place + 1 else label) stack w)) entered can
        (λ b es1 stack1 has1 can1. by_test b can1)
      where
        by_test : (b : Bool) → Some (goal label (shape es ls) ∷ goal (place + 1) (shape es ls) ∷ []) ≡ Some goals →
            Q (Quiet (runs_at (if b then place + 1 else label) stack w))
        by_test true can1 =
            runs_on (place + 1) es ls stack pending st
            (second_of Reached (goal label (shape es ls)) (goal (place + 1) (shape es ls)) goals can1 reached) entered offered is tape
        by_test false can1 =
            runs_on label es ls stack pending st
            (one_of Reached (goal label (shape es ls)) (goal (place + 1) (shape es ls) ∷ []) goals can1 reached) entered offered is tape

    -- ---- what is shown

    run_line : (count : ℕ) (id : List ℕ) → IsHere (code.RunLine count id) → Can (code.RunLine count id) → Acts (code.RunLine count id)
    run_line count id stands can =
        let nothing = nothing_is ls (take_kinds count [] es (λ kinds rest. goes_on place rest ls)) goals can in
        values_taken Q Stuck goals count [] [] es stack (λ kinds rest. goes_on place rest ls)
        (λ vs rest. Shows (event.Line id vs) (rests_at (place + 1) rest (Line id vs) w)) tt entered nothing.1
        (λ ks vs es1 stack1 are counted entered1 can1.
        let same : count ≡ length vs = omega arith in
        record {
          shaped = record {
            placed = record {
              node = n;
              named = named;
              holds = record {
                behind = record {
                  behind = behind_here (code.RunLine (length vs) id) (stands ∙ ap (λ k. Some (coded line (code.RunLine k id))) same);
                  shaped = next_shaped es1 ls stack1 pending (Rests (Line id vs)) st can1 entered1 offered;
                };
                fits = are_fitting ks vs are;
              };
            };
            stored = is;
          };
          tape = tape;
        })

    -- the text is a template
    command_shown : (count : ℕ) (text : List ℕ) → IsHere (code.RunCommand count text) → (vs : List V.Value) (es1 : List ShapeEntry) (stack1 : Stack) →
        HasEntries es1 stack1 → goes_on place es1 ls ≡ Some goals → (o : Option (List Part)) → IsTrue (is_some o) →
        Q (when_some o Stuck (λ parts. Shows (event.Command (expanded parts vs)) (rests_at (place + 1) stack1 (Command (expanded parts vs)) w)))
    command_shown count text stands vs es1 stack1 entered1 can1 None there = absurd cc
    command_shown count text stands vs es1 stack1 entered1 can1 (Some parts) there = record {
      shaped = record {
        placed = record {
          node = n;
          named = named;
          holds = record {
            count = count;
            text = text;
            behind = record {
              behind = behind_here (code.RunCommand count text) stands;
              shaped = next_shaped es1 ls stack1 pending (Rests (Command (expanded parts vs))) st can1 entered1 offered;
            };
          };
        };
        stored = is;
      };
      tape = tape;
    }

    run_command : (count : ℕ) (text : List ℕ) → IsHere (code.RunCommand count text) → HasOperands (code.RunCommand count text) →
        Can (code.RunCommand count text) → Acts (code.RunCommand count text)
    run_command count text stands operands can =
        let nothing = nothing_is ls (take_kinds count [] es (λ kinds rest. goes_on place rest ls)) goals can in
        values_taken Q Stuck goals count [] [] es stack (λ kinds rest. goes_on place rest ls)
        (λ vs rest. when_some (template_of text count) Stuck
        (λ parts. Shows (event.Command (expanded parts vs)) (rests_at (place + 1) rest (Command (expanded parts vs)) w))) tt entered nothing.1
        (λ ks vs es1 stack1 are counted entered1 can1. command_shown count text stands vs es1 stack1 entered1 can1 (template_of text count) operands.template)

    add_option : (count : ℕ) (id : List ℕ) (label : ℕ) (conditional : Bool) → IsLine p count id → Can (code.AddOption count id label conditional) →
        Acts (code.AddOption count id label conditional)
    add_option count id label conditional known can =
        truth_taken Q Stuck goals conditional es stack (λ rest. take_kinds count [] rest (λ kinds rest1. goes_on place rest1 (ls ++ label ∷ [])))
        (λ b rest. take_values count [] rest Stuck (λ vs rest1. Quiet (machine here (place + 1) rest1 (pending ++ offer id vs b label ∷ []) Runs st))) entered can
        (λ b es1 stack1 entered1 can1.
        values_taken Q Stuck goals count [] [] es1 stack1 (λ kinds rest1. goes_on place rest1 (ls ++ label ∷ []))
        (λ vs rest1. Quiet (machine here (place + 1) rest1 (pending ++ offer id vs b label ∷ []) Runs st)) tt entered1 can1
        (λ ks vs es2 stack2 are counted entered2 can2.
        let same : count ≡ length vs = omega arith in
        next_on es2 (ls ++ label ∷ []) stack2 (pending ++ offer id vs b label ∷ []) st can2 entered2
        (offers_and p ls pending label (offer id vs b label) offered (record { at = refl; line = subst (λ k. IsLine p k id) same known; fits = are_fitting ks vs are }))
        is tape))

    show_options : IsHere code.ShowOptions → Can code.ShowOptions → Acts code.ShowOptions
    show_options stands can =
        let on = something_is ls (goes_on place (s.Destination ls ∷ es) []) goals can in
        record {
          shaped = record {
            placed = record {
              node = n;
              named = named;
              holds = record {
                behind = behind_here code.ShowOptions stands;
                labels = ls;
                entries = es;
                has = shape_at (place + 1) (s.Destination ls ∷ es) [] (one_of Reached (goal (place + 1) (shape (s.Destination ls ∷ es) [])) [] goals on reached).has;
                entered = entered;
                offered = offered;
                nothing = refl;
              };
            };
            stored = is;
          };
          tape = tape;
        }

    -- ---- the stack

    push : (k : Kind) (v : V.Value) → goes_on place (s.Of k ∷ es) ls ≡ Some goals → IsOf k v → Q (Quiet (runs_at (place + 1) (m.Value v ∷ stack) w))
    push k v can of_kind = next_on (s.Of k ∷ es) ls (m.Value v ∷ stack) pending st can (of_kind, entered) offered is tape

    push_null : Can code.PushNull → Acts code.PushNull
    push_null can = next_on (s.Null ∷ es) ls (m.Null ∷ stack) pending st can (tt, entered) offered is tape

    pop : Can code.Pop → Acts code.Pop
    pop can =
        any_taken Q Stuck goals es stack (λ rest. goes_on place rest ls) (λ rest. Quiet (runs_at (place + 1) rest w)) entered can
        (λ es1 stack1 entered1 can1. next_on es1 ls stack1 pending st can1 entered1 offered is tape)

    -- ---- variables

    push_variable : (name : List ℕ) → Can (code.PushVariable name) → Acts (code.PushVariable name)
    push_variable name can = by_kind (kind_under p name) refl can
      where
        by_value : (k : Kind) → goes_on place (s.Of k ∷ es) ls ≡ Some goals → IsThere st.store name k → Acts (code.PushVariable name)
        by_value k h found =
            subst (λ o. Q (when_some o Stuck (λ v. Quiet (runs_at (place + 1) (m.Value v ∷ stack) w)))) (sym found.there) (push k found.value h found.of_kind)

        by_kind : (o : Option Kind) → kind_under p name ≡ o → on_known o (λ k. goes_on place (s.Of k ∷ es) ls) ≡ Some goals → Acts (code.PushVariable name)
        by_kind (Some k) known h = by_value k h (variable_is p st.store is name k known)
        by_kind None known h = absurd cc

    store_variable : (name : List ℕ) → Can (code.StoreVariable name) → Acts (code.StoreVariable name)
    store_variable name can = by_kind (kind_under p name) refl can
      where
        by_kind : (o : Option Kind) → kind_under p name ≡ o → on_known o (λ k. on_kind k es (λ rest. goes_on place es ls)) ≡ Some goals →
            Acts (code.StoreVariable name)
        by_kind (Some k) known h =
            value_taken Q Stuck goals k es stack (λ rest. goes_on place es ls) (λ v rest. Quiet (machine here (place + 1) stack pending Runs (with_value name v st))) entered h
            (λ v es1 stack1 of_kind entered1 can1. next_on es ls stack pending (with_value name v st) can1 entered offered (put_stored p st.store is name v k known of_kind) tape)
        by_kind None known h = absurd cc

    -- ---- calls

    -- the value of a builtin is pushed, or its fault ends the run
    pushed : (k result : Kind) (es1 : List ShapeEntry) (stack1 : Stack) → result ≡ k → HasEntries es1 stack1 → goes_on place (s.Of k ∷ es1) ls ≡ Some goals →
        (o : Option Outcome) → IsMeant result o → Q (when_some o Stuck (λ outcome. pushes p n line outcome stack1 w))
    pushed k result es1 stack1 same entered1 can1 None meant = absurd meant
    pushed k result es1 stack1 same entered1 can1 (Some (Ok v)) meant =
        next_on (s.Of k ∷ es1) ls (m.Value v ∷ stack1) pending st can1 (record { kind = meant.kind ∙ same; fits = meant.fits }, entered1) offered is tape
    pushed k result es1 stack1 same entered1 can1 (Some (Err fault)) meant =
        (record { shaped = record { placed = record { entries = tt; offers = tt }; stored = is }; tape = tape }, tt)

    host_asked : (name : List ℕ) (o : Option Signature) (ks : List Kind) (vs : List V.Value) (k : Kind) (es1 : List ShapeEntry) (stack1 : Stack) →
        builtin_named name ≡ None → signature_named p.functions name ≡ o → kind_of_call None o ks ≡ Some k → AreOf ks vs →
        IsHere (code.CallFunc (length vs) name) → HasEntries es1 stack1 → goes_on place (s.Of k ∷ es1) ls ≡ Some goals →
        Q (calls p n line None name vs stack1 w)
    host_asked name None ks vs k es1 stack1 host signature typed are stands entered1 can1 = absurd cc
    host_asked name (Some one) ks vs k es1 stack1 host signature typed are stands entered1 can1 =
        let taken = host_called one ks vs k typed are in
        let on = one_of Reached (goal (place + 1) (shape (s.Of k ∷ es1) ls)) [] goals can1 reached in (
          record {
            shaped = record {
              placed = record {
                node = n;
                named = named;
                holds = record {
                  signature = one;
                  host = host;
                  named = signature;
                  takes = taken.0;
                  behind = behind_here (code.CallFunc (length vs) name) stands;
                  entries = es1;
                  labels = ls;
                  has = subst (λ j. HasShapeAt p n (place + 1) (shape (s.Of j ∷ es1) ls)) (sym taken.1) (shape_at (place + 1) (s.Of k ∷ es1) ls on.has);
                  entered = entered1;
                  offered = offered;
                };
              };
              stored = is;
            };
            tape = tape;
          },
          record { same = refl; later = on.later.later; within = on.later.within },
        )

    called_on : (name : List ℕ) (row : Option Row) (ks : List Kind) (vs : List V.Value) (k : Kind) (es1 : List ShapeEntry) (stack1 : Stack) →
        builtin_named name ≡ row → kind_of_call row (signature_named p.functions name) ks ≡ Some k → AreOf ks vs →
        IsHere (code.CallFunc (length vs) name) → HasEntries es1 stack1 → goes_on place (s.Of k ∷ es1) ls ≡ Some goals →
        Q (calls p n line row name vs stack1 w)
    called_on name None ks vs k es1 stack1 found typed are stands entered1 can1 =
        host_asked name (signature_named p.functions name) ks vs k es1 stack1 found refl typed are stands entered1 can1
    called_on name (Some row) ks vs k es1 stack1 found typed are stands entered1 can1 =
        let taken = row_called row (signature_named p.functions name) ks k typed in
        let kinds : takes row.first row.second (map kind_of vs) ≡ true = subst (λ x. takes row.first row.second x ≡ true) (are_kinds ks vs are) taken.0 in
        pushed k row.result es1 stack1 taken.1 entered1 can1 (builtin_result (scope_at p here) st.store row vs)
        (builtin_gives name row found (scope_at p here) st.store vs is.fits (are_fitting ks vs are) kinds)

    call_func : (count : ℕ) (name : List ℕ) → IsHere (code.CallFunc count name) → Can (code.CallFunc count name) → Acts (code.CallFunc count name)
    call_func count name stands can =
        values_taken Q Stuck goals count [] [] es stack (λ kinds rest. on_known (kind_called p name kinds) (λ k. goes_on place (s.Of k ∷ rest) ls))
        (λ vs rest. calls p n line (builtin_named name) name vs rest w) tt entered can
        (λ ks vs es1 stack1 are counted entered1 can1.
        let same : count ≡ length vs = omega arith in
        by_kind ks vs es1 stack1 are (stands ∙ ap (λ k. Some (coded line (code.CallFunc k name))) same) entered1 (kind_called p name ks) refl can1)
      where
        by_kind : (ks : List Kind) (vs : List V.Value) (es1 : List ShapeEntry) (stack1 : Stack) → AreOf ks vs →
            IsHere (code.CallFunc (length vs) name) → HasEntries es1 stack1 →
            (o : Option Kind) → kind_called p name ks ≡ o → on_known o (λ k. goes_on place (s.Of k ∷ es1) ls) ≡ Some goals →
            Q (calls p n line (builtin_named name) name vs stack1 w)
        by_kind ks vs es1 stack1 are stands1 entered1 (Some k) typed h = called_on name (builtin_named name) ks vs k es1 stack1 refl typed are stands1 entered1 h
        by_kind ks vs es1 stack1 are stands1 entered1 None typed h = absurd cc

    -- ---- how a node is left

    stop : IsHere code.Stop → Acts code.Stop
    stop stands = record {
      shaped = record {
        placed = record { node = n; named = named; holds = record { stands = stands_here code.Stop stands; empty = record { no_entries = refl; no_offers = refl } } };
        stored = is;
      };
      tape = tape;
    }

    run_node : IsHere code.RunNode → Can code.RunNode → Acts code.RunNode
    run_node stands can =
        let nothing = nothing_is ls (on_kind kind.Str es (λ rest. Some [])) goals can in
        text_on_top Q Stuck goals es stack (λ rest. Some [])
        (λ title rest. Shows (event.NodeEnd here.node) (machine here place [] [] (Rests (Ends (To title))) st)) entered nothing.1
        (λ title stack1 short. record {
          shaped = record {
            placed = record {
              node = n;
              named = named;
              holds = (record { stands = stands_here code.RunNode stands; empty = record { no_entries = refl; no_offers = refl } }, short);
            };
            stored = is;
          };
          tape = tape;
        })

    -- ---- any

    pub acts_well : (instr : Instr) → IsHere instr → PassesFirstLook p n place instr → HasOperands instr → Can instr → Acts instr
    acts_well (code.JumpTo label) stands fine fits can = jump_to label can
    acts_well code.Jump stands fine fits can = jump can
    acts_well (code.RunLine count id) stands fine fits can = run_line count id stands can
    acts_well (code.RunCommand count text) stands fine fits can = run_command count text stands fits can
    acts_well (code.AddOption count id label conditional) stands fine fits can = add_option count id label conditional fine.1 can
    acts_well code.ShowOptions stands fine fits can = show_options stands can
    acts_well (code.PushString text) stands fine fits can = push kind.Str (value.Str text) can (of_text text fits)
    acts_well (code.PushFloat number) stands fine fits can = push kind.Number (value.Number number) can (of_number number fits)
    acts_well (code.PushBool b) stands fine fits can = push kind.Truth (value.Truth b) can (of_truth b)
    acts_well code.PushNull stands fine fits can = push_null can
    acts_well (code.JumpIfFalse label) stands fine fits can = jump_if_false label can
    acts_well code.Pop stands fine fits can = pop can
    acts_well (code.CallFunc count name) stands fine fits can = call_func count name stands can
    acts_well (code.PushVariable name) stands fine fits can = push_variable name can
    acts_well (code.StoreVariable name) stands fine fits can = store_variable name can
    acts_well code.Stop stands fine fits can = stop stands
    acts_well code.RunNode stands fine fits can = run_node stands can

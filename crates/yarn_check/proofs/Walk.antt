-- What holds of the cells as the pass goes, and where it stops.
use Rattle.std.proofs.Common.{◌≡◌, ℕ, ◌+◌, ◌<◌, ◌≤◌, List, [], ◌∷◌, ◌++◌, length, get_or, Option, Some, None, Bool, true, false, if◌then◌else◌, refl, sym, ap, ◌∙◌, subst, arith, All, ◌⊎◌, inl, inr, leb, ltb, append_assoc, length-append}
use Rattle.std.specs.Prelude.{slice_get}
use Rattle.std.specs.Option.{option_and_then}
use Rattle.std.proofs.lemmas.Bool.{and_parts, and_from, ltb-true, ltb-false, leb-true, le-leb}
use Rattle.std.proofs.lemmas.Option.{slice_get_within, slice_get-get_or}
use Rattle.std.proofs.lemmas.List.Elements.{All-nil, All-cons, All-head, All-tail}
use Rattle.yarn_code.specs.declared.program.Instr.{Instr}
use Rattle.yarn_code.specs.declared.program.Coded.{Coded}
use Rattle.yarn_code.specs.declared.program.CodeNode.{CodeNode}
use Rattle.yarn_code.specs.declared.program.Program.{Program}
use Rattle.yarn_check.specs.Shapes.{Shape, shape, Goal, flow, IsLater, IsSmall}
use Rattle.yarn_check.specs.Faults.{Comes, Begins, Goes, AreTwo, IsStuck, NodeFault, Shapeless, Deep, IsFaultOf, IsFaultAt, IsFirstAt}
use Rattle.yarn_check.specs.Pass.{Coming, Nothing, Alone, Several, put_all, Stepped, Moved, Stopped, is_small, sized, step, Ended, Faulted, go_on, walk}
use Rattle.yarn_check.proofs.Cells.{Means, AreMeant, meant_same, IsAmong, IsAhead, put_all_some, put_all_none, among_cut, cut_among, among_later}

pub is_small_true : (s : Shape) → is_small s ≡ true → IsSmall s
is_small_true s e =
    let parts = and_parts (leb (length s.entries) 2048) (leb (length s.pending) 64) e in
    record { entries = leb-true (length s.entries) 2048 parts.0; pending = leb-true (length s.pending) 64 parts.1 }

pub is_small_from : (s : Shape) → IsSmall s → is_small s ≡ true
is_small_from s h = and_from (leb (length s.entries) 2048) (leb (length s.pending) 64) (le-leb (length s.entries) 2048 h.entries) (le-leb (length s.pending) 64 h.pending)

-- the item behind a front
stands_behind : {A : Type 0} (front : List A) (x : A) (behind : List A) → slice_get (front ++ x ∷ behind) (length front) ≡ Some x
stands_behind [] x behind = refl
stands_behind (y ∷ front) x behind = stands_behind front x behind

all_same : (P Q : Goal → Type 0) → ((g : Goal) → P g → Q g) → (gs : List Goal) → All P gs → All Q gs
all_same P Q f [] h = All-nil Q
all_same P Q f (g ∷ gs) h = All-cons Q g gs (f g (All-head P g gs h)) (all_same P Q f gs (All-tail P g gs h))

module _ (p : Program) (n : CodeNode) where
  -- the shape comes from an instruction before a place
  pub record FromBefore (i q : ℕ) (s : Shape) : Type 0 where
    pub from : ℕ
    pub c : Coded
    pub t : Shape
    pub goals : List Goal
    pub lower : from < i
    pub comes : Comes p n from t
    pub stands : slice_get n.code from ≡ Some c
    pub can : flow p c.instr from t.entries t.pending ≡ Some goals
    pub among : IsAmong goals q s
    pub later : from < q

  abbrev pub Came : ℕ → ℕ → Shape → Type 0
  Came i q s = ((q ≡ 0) × (s ≡ shape [] [])) ⊎ FromBefore i q s

  pub came_comes : (i q : ℕ) (s : Shape) → Came i q s → Comes p n q s
  came_comes i q s (inl h) = subst (λ m. Comes p n m s) (sym h.0) (subst (Comes p n 0) (sym h.1) Begins)
  came_comes i q s (inr h) =
      let cut = among_cut h.goals q s h.among in
      let can : flow p h.c.instr h.from h.t.entries h.t.pending ≡ Some (cut.before ++ cut.into ∷ cut.behind) = h.can ∙ ap (λ l. Some l) cut.is in
      let later : h.from < cut.into.place = omega (arith, h.later, cut.place) in
      subst (λ m. Comes p n m s) cut.place (subst (Comes p n cut.into.place) cut.same (Goes h.from h.c h.t cut.before cut.into cut.behind h.comes h.stands can later))

  pub comes_came : (q : ℕ) (s : Shape) → Comes p n q s → (i : ℕ) → q ≤ i → Came i q s
  comes_came q s Begins i le = inl (refl, refl)
  comes_came q s (Goes from c t before into behind comes stands can later) i le =
      inr (record { from = from; c = c; t = t; goals = before ++ into ∷ behind; lower = omega (arith, later, le); comes = comes; stands = stands; can = can; among = cut_among before into behind; later = later })

  -- how an instruction ran
  pub record IsRun (place : ℕ) (i : Instr) (s : Shape) : Type 0 where
    pub goals : List Goal
    pub can : flow p i place s.entries s.pending ≡ Some goals
    pub ahead : All (IsAhead place (length n.code)) goals
    pub small : IsSmall s

  -- what holds when the pass comes to a place
  pub record Holds (i : ℕ) (cells : List Coming) : Type 0 where
    pub counted : length cells ≡ length n.code
    pub meant : AreMeant (Came i) cells
    pub same : (q : ℕ) (s t : Shape) → q < i → Comes p n q s → Comes p n q t → s ≡ t
    pub ran : (q : ℕ) (c : Coded) (s : Shape) → q < i → slice_get n.code q ≡ Some c → Comes p n q s → IsRun q c.instr s

  not_stuck : (place : ℕ) (i : Instr) (s : Shape) → IsRun place i s → ((goals : List Goal) → flow p i place s.entries s.pending ≡ Some goals → All (λ g. IsLater n place g.place) goals → ⊥) → ⊥
  not_stuck place i s r stuck = stuck r.goals r.can (all_same (IsAhead place (length n.code)) (λ g. IsLater n place g.place) (λ g h. record { later = h.later; within = h.within }) r.goals r.ahead)

  not_two : (q : ℕ) → ((s t : Shape) → Comes p n q s → Comes p n q t → s ≡ t) → AreTwo p n q → ⊥
  not_two q same two = two.differ (same two.one two.other two.comes two.comes_too)

  pub not_wrong : (q : ℕ) (c : Coded) → ((s t : Shape) → Comes p n q s → Comes p n q t → s ≡ t) → ((s : Shape) → Comes p n q s → IsRun q c.instr s) → (f : NodeFault) → IsFaultOf p n q c.instr f → ⊥
  not_wrong q c same ran Shapeless (inl two) = not_two q same two
  not_wrong q c same ran Shapeless (inr h) = not_stuck q c.instr h.s (ran h.s h.comes) h.stuck
  not_wrong q c same ran Deep h = h.1.deep (ran h.1.s h.1.comes).small

  -- where that holds, no instruction before has a fault
  pub none_before : (i : ℕ) (cells : List Coming) → Holds i cells → (q : ℕ) (f : NodeFault) → q < i → IsFaultAt p n q f → ⊥
  none_before i cells h q f lt at = not_wrong q at.c (λ s t. h.same q s t lt) (λ s. h.ran q at.c s lt at.stands) f at.wrong

  -- ---- one instruction

  lower_or_here : {P : Type 0} (q i : ℕ) → q < i + 1 → (q < i → P) → (q ≡ i → P) → P
  lower_or_here {P} q i lt below here = by_test (ltb q i) refl
    where
      by_test : (b : Bool) → ltb q i ≡ b → P
      by_test true e = below (ltb-true q i e)
      by_test false e = let ge = ltb-false q i e in here (omega (arith, ge, lt))

  came_more : (i q : ℕ) (s : Shape) → Came i q s → Came (i + 1) q s
  came_more i q s (inl h) = inl h
  came_more i q s (inr h) = inr (record { from = h.from; c = h.c; t = h.t; goals = h.goals; lower = omega (arith, h.lower); comes = h.comes; stands = h.stands; can = h.can; among = h.among; later = h.later })

  came_less : (i : ℕ) → (P : ℕ → Shape → Type 0) → ((q : ℕ) (s : Shape) (h : FromBefore (i + 1) q s) → h.from ≡ i → P q s) → (q : ℕ) (s : Shape) → Came (i + 1) q s → Came i q s ⊎ P q s
  came_less i P f q s (inl h) = inl (inl h)
  came_less i P f q s (inr h) =
      lower_or_here h.from i h.lower
      (λ lt. inl (inr (record { from = h.from; c = h.c; t = h.t; goals = h.goals; lower = lt; comes = h.comes; stands = h.stands; can = h.can; among = h.among; later = h.later })))
      (λ e. inr (f q s h e))

  module _ (i : ℕ) (c : Coded) (stands : slice_get n.code i ≡ Some c) (cells : List Coming) (h : Holds i cells) where
    -- more holds, where the cells mean more
    holds_more : (after : List Coming) → length after ≡ length n.code → AreMeant (Came (i + 1)) after → ((s t : Shape) → Comes p n i s → Comes p n i t → s ≡ t) → ((s : Shape) → Comes p n i s → IsRun i c.instr s) → Holds (i + 1) after
    holds_more after counted meant same ran = record {
      counted = counted;
      meant = meant;
      same = λ q s t lt a b. lower_or_here q i lt (λ below. h.same q s t below a b) (λ e. same s t (subst (λ m. Comes p n m s) e a) (subst (λ m. Comes p n m t) e b));
      ran = λ q d s lt at a. lower_or_here q i lt (λ below. h.ran q d s below at a) (λ e. ran_here q d s e at a);
    }
      where
        ran_here : (q : ℕ) (d : Coded) (s : Shape) → q ≡ i → slice_get n.code q ≡ Some d → Comes p n q s → IsRun q d.instr s
        ran_here q d s e at a =
            let is : c ≡ d = cc in
            subst (λ m. IsRun m d.instr s) (sym e) (subst (λ (x : Coded). IsRun i x.instr s) is (ran s (subst (λ m. Comes p n m s) e a)))

    module _ (s : Shape) (comes : Comes p n i s) (only : (t : Shape) → Comes p n i t → t ≡ s) where
      only_one : (a b : Shape) → Comes p n i a → Comes p n i b → a ≡ b
      only_one a b x y = only a x ∙ sym (only b y)

      module _ (goals : List Goal) (can : flow p c.instr i s.entries s.pending ≡ Some goals) where
        came_goal : (q : ℕ) (t : Shape) → i < q → IsAmong goals q t → Came (i + 1) q t
        came_goal q t later a = inr (record { from = i; c = c; t = s; goals = goals; lower = omega arith; comes = comes; stands = stands; can = can; among = a; later = later })

        came_both : (ahead : All (IsAhead i (length cells)) goals) (q : ℕ) (t : Shape) → Came i q t ⊎ IsAmong goals q t → Came (i + 1) q t
        came_both ahead q t (inl x) = came_more i q t x
        came_both ahead q t (inr a) = came_goal q t (among_later i (length cells) goals q t ahead a) a

        of_goals : (q : ℕ) (t : Shape) (f : FromBefore (i + 1) q t) → f.from ≡ i → IsAmong goals q t
        of_goals q t f e =
            let is : f.c ≡ c = cc (f.stands, stands, e) in
            let that : f.t ≡ s = only f.t (subst (λ m. Comes p n m f.t) e f.comes) in
            let same : f.goals ≡ goals = cc (f.can, can, is, that, e) in
            subst (λ l. IsAmong l q t) same f.among

        run_ahead : All (IsAhead i (length cells)) goals → IsSmall s → (t : Shape) → Comes p n i t → IsRun i c.instr t
        run_ahead ahead small t x =
            subst (IsRun i c.instr) (sym (only t x)) (record { goals = goals; can = can; ahead = subst (λ m. All (IsAhead i m) goals) h.counted ahead; small = small })

        moved : (after : List Coming) → put_all i goals cells ≡ Some after → IsSmall s → Holds (i + 1) after
        moved after e small =
            let put = put_all_some (Came i) i goals cells after h.meant e in
            holds_more after (put.counted ∙ h.counted)
            (meant_same (λ q t. Came i q t ⊎ IsAmong goals q t) (Came (i + 1)) (came_both put.ahead) (came_less i (IsAmong goals) of_goals) after put.meant)
            only_one (run_ahead put.ahead small)

        stuck_goals : put_all i goals cells ≡ None → IsStuck p n i c.instr
        stuck_goals e = record {
          s = s;
          comes = comes;
          stuck = λ others f later.
              let same : others ≡ goals = cc (f, can) in
              put_all_none i goals cells e
              (subst (λ m. All (IsAhead i m) goals) (sym h.counted)
              (all_same (λ g. IsLater n i g.place) (IsAhead i (length n.code)) (λ g r. record { later = r.later; within = r.within }) goals (subst (All (λ g. IsLater n i g.place)) same later)));
        }

        deep_goals : (after : List Coming) → put_all i goals cells ≡ Some after → is_small s ≡ false → IsFaultOf p n i c.instr Deep
        deep_goals after e big =
            let put = put_all_some (Came i) i goals cells after h.meant e in
            (none put.ahead, record { s = s; comes = comes; deep = λ small. absurd (cc (big, is_small_from s small)) })
          where
            none : All (IsAhead i (length cells)) goals → AreTwo p n i ⊎ IsStuck p n i c.instr → ⊥
            none ahead (inl two) = not_two i only_one two
            none ahead (inr st) =
                st.stuck goals (ap (λ (x : Shape). flow p c.instr i x.entries x.pending) (only st.s st.comes) ∙ can)
                (all_same (IsAhead i (length cells)) (λ g. IsLater n i g.place) (λ g r. record { later = r.later; within = omega (arith, r.within, h.counted) }) goals ahead)

      stuck_flow : flow p c.instr i s.entries s.pending ≡ None → IsStuck p n i c.instr
      stuck_flow e = record { s = s; comes = comes; stuck = λ others f later. absurd (cc (f, e)) }

      -- what the step gives on that shape
      run_moved : (after : List Coming) → sized s (option_and_then (λ goals. put_all i goals cells) (flow p c.instr i s.entries s.pending)) ≡ Moved after → Holds (i + 1) after
      run_moved after = by_flow (flow p c.instr i s.entries s.pending) refl
        where
          by_size : (goals : List Goal) → flow p c.instr i s.entries s.pending ≡ Some goals → (next : List Coming) → put_all i goals cells ≡ Some next → (b : Bool) → is_small s ≡ b → (if b then Moved next else Stopped Deep) ≡ Moved after → Holds (i + 1) after
          by_size goals can next is true b e = let same : next ≡ after = cc in moved goals can after (is ∙ ap (λ l. Some l) same) (is_small_true s b)
          by_size goals can next is false b e = absurd cc

          by_put : (goals : List Goal) → flow p c.instr i s.entries s.pending ≡ Some goals → (o : Option (List Coming)) → put_all i goals cells ≡ o → sized s o ≡ Moved after → Holds (i + 1) after
          by_put goals can None is e = absurd cc
          by_put goals can (Some next) is e = by_size goals can next is (is_small s) refl e

          by_flow : (o : Option (List Goal)) → flow p c.instr i s.entries s.pending ≡ o → sized s (option_and_then (λ goals. put_all i goals cells) o) ≡ Moved after → Holds (i + 1) after
          by_flow None is e = absurd cc
          by_flow (Some goals) is e = by_put goals is (put_all i goals cells) refl e

      run_stopped : (f : NodeFault) → sized s (option_and_then (λ goals. put_all i goals cells) (flow p c.instr i s.entries s.pending)) ≡ Stopped f → IsFaultOf p n i c.instr f
      run_stopped f = by_flow (flow p c.instr i s.entries s.pending) refl
        where
          shapeless : Stopped Shapeless ≡ Stopped f → IsStuck p n i c.instr → IsFaultOf p n i c.instr f
          shapeless e stuck = let same : Shapeless ≡ f = cc in subst (IsFaultOf p n i c.instr) same (inr stuck)

          by_size : (goals : List Goal) → flow p c.instr i s.entries s.pending ≡ Some goals → (next : List Coming) → put_all i goals cells ≡ Some next → (b : Bool) → is_small s ≡ b → (if b then Moved next else Stopped Deep) ≡ Stopped f → IsFaultOf p n i c.instr f
          by_size goals can next is true b e = absurd cc
          by_size goals can next is false b e = let same : Deep ≡ f = cc in subst (IsFaultOf p n i c.instr) same (deep_goals goals can next is b)

          by_put : (goals : List Goal) → flow p c.instr i s.entries s.pending ≡ Some goals → (o : Option (List Coming)) → put_all i goals cells ≡ o → sized s o ≡ Stopped f → IsFaultOf p n i c.instr f
          by_put goals can None is e = shapeless e (stuck_goals goals can is)
          by_put goals can (Some next) is e = by_size goals can next is (is_small s) refl e

          by_flow : (o : Option (List Goal)) → flow p c.instr i s.entries s.pending ≡ o → sized s (option_and_then (λ goals. put_all i goals cells) o) ≡ Stopped f → IsFaultOf p n i c.instr f
          by_flow None is e = shapeless e (stuck_flow is)
          by_flow (Some goals) is e = by_put goals is (put_all i goals cells) refl e

    step_moved : (cell : Coming) → Means (Came i i) cell → (after : List Coming) → step p c.instr i cells cell ≡ Moved after → Holds (i + 1) after
    step_moved Nothing m after e =
        let same : cells ≡ after = cc in
        let nobody = λ (s : Shape) (x : Comes p n i s). m s (comes_came i s x i (omega arith)) in
        subst (Holds (i + 1)) same
        (holds_more cells h.counted (meant_same (Came i) (Came (i + 1)) (came_more i) still cells h.meant) (λ s t x y. absurd (nobody s x)) (λ s x. absurd (nobody s x)))
      where
        still : (q : ℕ) (s : Shape) → Came (i + 1) q s → Came i q s
        still q s x = drop_none (came_less i (λ q s. ⊥) (λ q s f e. m f.t (comes_came i f.t (subst (λ k. Comes p n k f.t) e f.comes) i (omega arith))) q s x)
          where
            drop_none : Came i q s ⊎ ⊥ → Came i q s
            drop_none (inl a) = a
            drop_none (inr b) = absurd b
    step_moved (Alone s) m after e = run_moved s (came_comes i i s m.0) (λ t x. m.1 t (comes_came i t x i (omega arith))) after e
    step_moved Several m after e = absurd cc

    step_stopped : (cell : Coming) → Means (Came i i) cell → (f : NodeFault) → step p c.instr i cells cell ≡ Stopped f → IsFaultOf p n i c.instr f
    step_stopped Nothing m f e = absurd cc
    step_stopped (Alone s) m f e = run_stopped s (came_comes i i s m.0) (λ t x. m.1 t (comes_came i t x i (omega arith))) f e
    step_stopped Several m f e =
        let same : Shapeless ≡ f = cc in
        subst (IsFaultOf p n i c.instr) same
        (inl (record { one = m.one; other = m.other; comes = came_comes i i m.one m.first; comes_too = came_comes i i m.other m.second; differ = m.differ }))

    pub cell_means : Means (Came i i) (get_or cells i Nothing)
    cell_means =
        let lt = slice_get_within n.code i c stands in
        h.meant.at i (get_or cells i Nothing) (slice_get-get_or cells i Nothing (omega (arith, lt, h.counted)))

  -- ---- all instructions

  pub walked : (cs front : List Coded) (i : ℕ) → front ++ cs ≡ n.code → i ≡ length front → (cells : List Coming) → Holds i cells → (last : List Coming) → walk p cs i cells ≡ Ended last → Holds (length n.code) last
  walked [] front i all at cells h last e =
      let same : cells ≡ last = cc in
      let there : i ≡ length n.code = omega (arith, at, ap length all, length-append front []) in
      subst (λ m. Holds m last) there (subst (Holds i) same h)
  walked (c ∷ cs) front i all at cells h last e = by_step (walked cs (front ++ c ∷ []) (i + 1) (append_assoc front (c ∷ []) cs ∙ all) (omega (arith, at, length-append front (c ∷ [])))) (step p c.instr i cells (get_or cells i Nothing)) refl e
    where
      stands : slice_get n.code i ≡ Some c
      stands = subst (λ m. slice_get n.code m ≡ Some c) (sym at) (subst (λ l. slice_get l (length front) ≡ Some c) all (stands_behind front c cs))

      by_step : ((next : List Coming) → Holds (i + 1) next → (last : List Coming) → walk p cs (i + 1) next ≡ Ended last → Holds (length n.code) last) →
          (r : Stepped) → step p c.instr i cells (get_or cells i Nothing) ≡ r → go_on i r (λ after. walk p cs (i + 1) after) ≡ Ended last → Holds (length n.code) last
      by_step more (Moved next) is e = more next (step_moved i c stands cells h (get_or cells i Nothing) (cell_means i c stands cells h) next is) last e
      by_step more (Stopped f) is e = absurd cc

  pub stopped : (cs front : List Coded) (i : ℕ) → front ++ cs ≡ n.code → i ≡ length front → (cells : List Coming) → Holds i cells → (f : NodeFault) (place : ℕ) → walk p cs i cells ≡ Faulted f place → IsFirstAt p n place f
  stopped [] front i all at cells h f place e = absurd cc
  stopped (c ∷ cs) front i all at cells h f place e = by_step (stopped cs (front ++ c ∷ []) (i + 1) (append_assoc front (c ∷ []) cs ∙ all) (omega (arith, at, length-append front (c ∷ [])))) (step p c.instr i cells (get_or cells i Nothing)) refl e
    where
      stands : slice_get n.code i ≡ Some c
      stands = subst (λ m. slice_get n.code m ≡ Some c) (sym at) (subst (λ l. slice_get l (length front) ≡ Some c) all (stands_behind front c cs))

      by_step : ((next : List Coming) → Holds (i + 1) next → (f : NodeFault) (place : ℕ) → walk p cs (i + 1) next ≡ Faulted f place → IsFirstAt p n place f) →
          (r : Stepped) → step p c.instr i cells (get_or cells i Nothing) ≡ r → go_on i r (λ after. walk p cs (i + 1) after) ≡ Faulted f place → IsFirstAt p n place f
      by_step more (Moved next) is e = more next (step_moved i c stands cells h (get_or cells i Nothing) (cell_means i c stands cells h) next is) f place e
      by_step more (Stopped g) is e =
          let fault : g ≡ f = cc in
          let there : i ≡ place = cc in
          let wrong = step_stopped i c stands cells h (get_or cells i Nothing) (cell_means i c stands cells h) g is in
          subst (λ m. IsFirstAt p n m f) there (subst (IsFirstAt p n i) fault (record { here = record { c = c; stands = stands; wrong = wrong }; first = λ q k lt. none_before i cells h q k lt }))

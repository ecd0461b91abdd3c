-- The pass is exact: it ends with the shapes that agree, and else stops at the first fault.
use Rattle.std.proofs.Common.{◌≡◌, ℕ, zero, suc, ◌<◌, List, [], ◌∷◌, ◌++◌, length, get_or, replicate, map, Some, refl, sym, ap, ◌∙◌, subst, arith, All, inl, inr}
use Rattle.std.specs.Prelude.{slice_get}
use Rattle.std.specs.Option.{option_map}
use Rattle.std.proofs.lemmas.Option.{slice_get_within, slice_get-get_or, slice_get-map}
use Rattle.std.proofs.lemmas.List.{length-set, length-replicate}
use Rattle.std.proofs.lemmas.List.Elements.{All-nil, All-cons, All-head, All-tail}
use Rattle.yarn_code.specs.declared.program.Coded.{Coded}
use Rattle.yarn_code.specs.declared.program.CodeNode.{CodeNode}
use Rattle.yarn_code.specs.declared.program.Program.{Program}
use Rattle.yarn_check.specs.Shapes.{Shape, shape, Goal, flow, Shapes, HasShape, IsReached, CanRun, IsEntered, Agrees}
use Rattle.yarn_check.proofs.Each.{Each, each_back}
use Rattle.yarn_check.proofs.Each.{each_from_all}
use Rattle.yarn_check.proofs.OneShapes.{one_list}
use Rattle.yarn_check.specs.Faults.{Comes, Begins, Goes, NodeFault, Shapeless, Deep, IsFaultOf, IsFaultAt, IsFirstAt}
use Rattle.yarn_check.specs.Pass.{Coming, Nothing, Alone, Several, Walked, Ended, Faulted, beginning, pass, the_shape, shapes_in}
use Rattle.yarn_check.specs.PassLaws.{IsPassOf, PassIsExact}
use Rattle.yarn_check.proofs.Cells.{Means, IsAmong, IsAhead, all_among}
use Rattle.yarn_check.proofs.Walk.{Came, came_comes, comes_came, IsRun, Holds, not_wrong, walked, stopped}

length_map : {A B : Type 0} (f : A → B) (xs : List A) → length (map f xs) ≡ length xs
length_map f [] = refl
length_map f (x ∷ xs) = ap suc (length_map f xs)

all_both : (P Q R : Goal → Type 0) → ((g : Goal) → P g → Q g → R g) → (gs : List Goal) → All P gs → All Q gs → All R gs
all_both P Q R f [] h k = All-nil R
all_both P Q R f (g ∷ gs) h k = All-cons R g gs (f g (All-head P g gs h) (All-head Q g gs k)) (all_both P Q R f gs (All-tail P g gs h) (All-tail Q g gs k))

all_of : (P Q : Goal → Type 0) → ((g : Goal) → P g → Q g) → (gs : List Goal) → All P gs → All Q gs
all_of P Q f gs h = all_both P P Q (λ g x y. f g x) gs h h

first_cell : (n : ℕ) → 0 < n → slice_get (beginning n) 0 ≡ Some (Alone (shape [] []))
first_cell zero lt = absurd (omega (arith, lt))
first_cell (suc n) lt = refl

later_cell : (n q : ℕ) (cell : Coming) → slice_get (replicate n Nothing) q ≡ Some cell → cell ≡ Nothing
later_cell zero q cell e = absurd cc
later_cell (suc n) zero cell e = cc
later_cell (suc n) (suc q) cell e = later_cell n q cell e

other_cell : (n q : ℕ) (cell : Coming) → slice_get (beginning n) (suc q) ≡ Some cell → cell ≡ Nothing
other_cell zero q cell e = absurd cc
other_cell (suc n) q cell e = later_cell n q cell e

module _ (p : Program) (n : CodeNode) where
  begins : 0 < length n.code → Holds p n 0 (beginning (length n.code))
  begins lt = record {
    counted = length-set (replicate (length n.code) Nothing) 0 (Alone (shape [] [])) ∙ length-replicate (length n.code) Nothing;
    meant = record { at = at };
    same = λ q s t low a b. absurd (omega (arith, low));
    ran = λ q c s low e a. absurd (omega (arith, low));
  }
    where
      only : (s : Shape) → Came p n 0 0 s → s ≡ shape [] []
      only s (inl h) = h.1
      only s (inr h) = absurd (omega (arith, h.lower))

      none : (q : ℕ) (s : Shape) → Came p n 0 (suc q) s → ⊥
      none q s (inl h) = absurd (omega (arith, h.0))
      none q s (inr h) = absurd (omega (arith, h.lower))

      at : (q : ℕ) (cell : Coming) → slice_get (beginning (length n.code)) q ≡ Some cell → Means (Came p n 0 q) cell
      at zero cell e =
          let same : Alone (shape [] []) ≡ cell = cc (e, first_cell (length n.code) lt) in
          subst (Means (Came p n 0 0)) same (inl (refl, refl), only)
      at (suc q) cell e = subst (Means (Came p n 0 (suc q))) (sym (other_cell (length n.code) q cell e)) (none q)

  -- ---- where it ends

  module _ (last : List Coming) (h : Holds p n (length n.code) last) where
    counted : length (shapes_in last) ≡ length n.code
    counted = length_map the_shape last ∙ h.counted

    cell_at : (q : ℕ) → q < length n.code → slice_get last q ≡ Some (get_or last q Nothing)
    cell_at q lt = slice_get-get_or last q Nothing (omega (arith, lt, h.counted))

    shape_at : (q : ℕ) (cell : Coming) → slice_get last q ≡ Some cell → slice_get (shapes_in last) q ≡ Some (the_shape cell)
    shape_at q cell e = slice_get-map the_shape last q ∙ ap (option_map the_shape) e

    -- what comes is in the list
    comes_has : (q : ℕ) (s : Shape) → q < length n.code → Comes p n q s → HasShape (shapes_in last) q s
    comes_has q s lt x = by_cell (get_or last q Nothing) (cell_at q lt)
      where
        came : Came p n (length n.code) q s
        came = comes_came p n q s x (length n.code) (omega (arith, lt))

        by_cell : (cell : Coming) → slice_get last q ≡ Some cell → HasShape (shapes_in last) q s
        by_cell Nothing e = absurd (h.meant.at q Nothing e s came)
        by_cell (Alone t) e = shape_at q (Alone t) e ∙ ap (λ r. Some (Some r)) (sym ((h.meant.at q (Alone t) e).1 s came))
        by_cell Several e =
            let two = h.meant.at q Several e in
            absurd (two.differ (h.same q two.one two.other lt (came_comes p n (length n.code) q two.one two.first) (came_comes p n (length n.code) q two.other two.second)))

    -- and what is in the list comes
    has_comes : (q : ℕ) (s : Shape) → HasShape (shapes_in last) q s → Comes p n q s
    has_comes q s has = by_cell (get_or last q Nothing) (cell_at q lt)
      where
        lt : q < length n.code
        lt = let within = slice_get_within (shapes_in last) q (Some s) has in omega (arith, within, counted)

        by_cell : (cell : Coming) → slice_get last q ≡ Some cell → Comes p n q s
        by_cell Nothing e = let f = shape_at q Nothing e in absurd (cc (f, has))
        by_cell (Alone t) e =
            let f = shape_at q (Alone t) e in
            let same : t ≡ s = cc (f, has) in
            subst (Comes p n q) same (came_comes p n (length n.code) q t (h.meant.at q (Alone t) e).0)
        by_cell Several e = let f = shape_at q Several e in absurd (cc (f, has))

    entered_there : (q : ℕ) (s : Shape) → Comes p n q s → (place : ℕ) → q ≡ suc place → IsEntered p n (shapes_in last) q
    entered_there q s Begins place e = absurd (omega (arith, e))
    entered_there q s (Goes from c t before into behind comes stands can later) place e =
        record { from = from; c = c; s = t; stands = stands; has = comes_has from t (slice_get_within n.code from c stands) comes; before = before; into = into; behind = behind; can = can; there = refl }

    ran_there : (place : ℕ) (c : Coded) (s : Shape) → slice_get n.code place ≡ Some c → HasShape (shapes_in last) place s → CanRun p n (shapes_in last) place c.instr s
    ran_there place c s stands has = record {
      small = run.small;
      goals = run.goals;
      can = run.can;
      reached = all_both (IsAhead place (length n.code)) (λ g. IsAmong run.goals g.place g.shape) (IsReached n (shapes_in last) place) reached run.goals run.ahead (all_among (λ g. IsAmong run.goals g.place g.shape) run.goals (λ g a. a));
    }
      where
        lt : place < length n.code
        lt = slice_get_within n.code place c stands

        run : IsRun p n place c.instr s
        run = h.ran place c s lt stands (has_comes place s has)

        came : (g : Goal) → place < g.place → IsAmong run.goals g.place g.shape → Came p n (length n.code) g.place g.shape
        came g later a = inr (record { from = place; c = c; t = s; goals = run.goals; lower = lt; comes = has_comes place s has; stands = stands; can = run.can; among = a; later = later })

        reached : (g : Goal) → IsAhead place (length n.code) g → IsAmong run.goals g.place g.shape → IsReached n (shapes_in last) place g
        reached g ahead a = record {
          later = record { later = ahead.later; within = ahead.within };
          has = comes_has g.place g.shape ahead.within (came_comes p n (length n.code) g.place g.shape (came g ahead.later a));
        }

    pub ended_agrees : 0 < length n.code → Agrees p n (shapes_in last)
    ended_agrees lt = record {
      counted = counted;
      begins = comes_has 0 (shape [] []) lt Begins;
      runs = ran_there;
      entered = λ place s has. entered_there (suc place) s (has_comes (suc place) s has) place refl;
    }

  -- ---- where shapes agree

  module _ (shapes : Shapes) (x : Agrees p n shapes) where
    reached_at : (from : ℕ) (c : Coded) (s : Shape) (before : List Goal) (into : Goal) (behind : List Goal) → slice_get n.code from ≡ Some c → HasShape shapes from s →
        flow p c.instr from s.entries s.pending ≡ Some (before ++ into ∷ behind) → HasShape shapes into.place into.shape
    reached_at from c s before into behind stands has can =
        let r = x.runs from c s stands has in
        let same : r.goals ≡ before ++ into ∷ behind = cc (r.can, can) in
        let all = each_back (IsReached n shapes from) before (into ∷ behind) (subst (Each (IsReached n shapes from)) same (each_from_all (IsReached n shapes from) r.goals r.reached)) in
        all.0.has

    has_shape : (q : ℕ) (s : Shape) → Comes p n q s → HasShape shapes q s
    has_shape q s Begins = x.begins
    has_shape q s (Goes from c t before into behind comes stands can later) = reached_at from c t before into behind stands (has_shape from t comes) can

    runs_so : (q : ℕ) (c : Coded) → slice_get n.code q ≡ Some c → (s : Shape) → Comes p n q s → IsRun p n q c.instr s
    runs_so q c stands s comes =
        let r = x.runs q c s stands (has_shape q s comes) in
        record { goals = r.goals; can = r.can; small = r.small; ahead = all_of (IsReached n shapes q) (IsAhead q (length n.code)) (λ g k. record { later = k.later.later; within = k.later.within }) r.goals r.reached }

    pub agrees_clean : (q : ℕ) (f : NodeFault) → IsFaultAt p n q f → ⊥
    agrees_clean q f at = not_wrong p n q at.c one (runs_so q at.c at.stands) f at.wrong
      where
        one : (s t : Shape) → Comes p n q s → Comes p n q t → s ≡ t
        one s t a b = let u = has_shape q s a in let v = has_shape q t b in cc (u, v)

  -- ---- one first fault

  pub same_fault : (place : ℕ) (f g : NodeFault) → IsFaultAt p n place f → IsFaultAt p n place g → f ≡ g
  same_fault place Shapeless Shapeless x y = refl
  same_fault place Deep Deep x y = refl
  same_fault place Shapeless Deep x y =
      let same : x.c ≡ y.c = cc (x.stands, y.stands) in
      absurd (y.wrong.0 (subst (λ (c : Coded). IsFaultOf p n place c.instr Shapeless) same x.wrong))
  same_fault place Deep Shapeless x y =
      let same : y.c ≡ x.c = cc (x.stands, y.stands) in
      absurd (x.wrong.0 (subst (λ (c : Coded). IsFaultOf p n place c.instr Shapeless) same y.wrong))

  not_less : (a b : ℕ) (f g : NodeFault) → IsFirstAt p n a f → IsFirstAt p n b g → a < b → ⊥
  not_less a b f g x y lt = y.first a f lt x.here

  same_place : (a b : ℕ) (f g : NodeFault) → IsFirstAt p n a f → IsFirstAt p n b g → a ≡ b
  same_place a b f g x y =
      let left : a < b → ⊥ = not_less a b f g x y in
      let right : b < a → ⊥ = not_less b a g f y x in
      omega (arith, left, right)

  pub one_first : (a b : ℕ) (f g : NodeFault) → IsFirstAt p n a f → IsFirstAt p n b g → (a ≡ b) × (f ≡ g)
  one_first a b f g x y =
      let same = same_place a b f g x y in
      (same, same_fault b f g (subst (λ m. IsFaultAt p n m f) same x.here) y.here)

  -- ---- the pass

  module _ (some : 0 < length n.code) where
    ends_agree : (cells : List Coming) → pass p n ≡ Ended cells → Agrees p n (shapes_in cells)
    ends_agree cells e = ended_agrees cells (walked p n n.code [] 0 refl refl (beginning (length n.code)) (begins some) cells e) some

    stops_first : (f : NodeFault) (place : ℕ) → pass p n ≡ Faulted f place → IsFirstAt p n place f
    stops_first f place e = stopped p n n.code [] 0 refl refl (beginning (length n.code)) (begins some) f place e

    agrees_ends : (shapes : Shapes) → Agrees p n shapes → (r : Walked) → pass p n ≡ r → (cells : List Coming) × (pass p n ≡ Ended cells) × (shapes_in cells ≡ shapes)
    agrees_ends shapes x (Ended cells) e = (cells, e, one_list p n (shapes_in cells) shapes (ends_agree cells e) x)
    agrees_ends shapes x (Faulted f place) e = absurd (agrees_clean shapes x place f (stops_first f place e).here)

    first_stops : (f : NodeFault) (place : ℕ) → IsFirstAt p n place f → (r : Walked) → pass p n ≡ r → pass p n ≡ Faulted f place
    first_stops f place x (Ended cells) e = absurd (agrees_clean (shapes_in cells) (ends_agree cells e) place f x.here)
    first_stops f place x (Faulted g q) e =
        let same = one_first q place g f (stops_first g q e) x in
        e ∙ ap (λ k. Faulted k q) same.1 ∙ ap (λ m. Faulted f m) same.0

    pub exact : IsPassOf p n
    exact = record {
      agrees = ends_agree;
      faults = stops_first;
      ends = λ shapes x. agrees_ends shapes x (pass p n) refl;
      stops = λ f place x. first_stops f place x (pass p n) refl;
      none = λ f place e shapes x. agrees_clean shapes x place f (stops_first f place e).here;
    }

pub pass_is_exact : PassIsExact
pass_is_exact p n some = exact p n some

-- What a cell of the pass means, by the shapes that came to it.
use Rattle.std.proofs.Common.{◌≡◌, ℕ, ◌<◌, List, [], ◌∷◌, ◌++◌, length, Option, Some, None, Bool, true, false, if◌then◌else◌, nat_eq, refl, sym, ap, ◌∙◌, subst, arith, All, ◌⊎◌, inl, inr, ltb, set, ◌≢◌}
use Rattle.std.specs.Prelude.{slice_get, Decides}
use Rattle.std.specs.Cmp.Lexicographic.{pointwise}
use Rattle.std.specs.Option.{option_and_then}
use Rattle.std.proofs.lemmas.Bool.{and_parts, and_from, ltb-true, ltb-false}
use Rattle.std.proofs.lemmas.Option.{slice_get_within, slice_get-get_or, gets}
use Rattle.std.proofs.lemmas.Grind.{common_steps}
use Rattle.std.proofs.lemmas.List.{length-set}
use Rattle.std.proofs.lemmas.List.Elements.{All-nil, All-cons, All-head, All-tail}
use Rattle.std.proofs.lemmas.Slice.Eq.{slice_eq-Decides, bytes_eq-Decides}
use Rattle.yarn_check.proofs.SameKinds.{kind_same, same_kind_self}
use Rattle.yarn_check.specs.Shapes.{ShapeEntry, Of, Null, Destination, Shape, shape, Goal}
use Rattle.yarn_check.specs.Pass.{same_entry, same_shape, Coming, Nothing, Alone, Several, and_shape, put_there, put, put_all}

-- ---- shapes that are the same

same_entry_true : (a b : ShapeEntry) → same_entry a b ≡ true → a ≡ b
same_entry_true (Of k) (Of l) e = ap Of (kind_same k l e)
same_entry_true (Of k) Null e = absurd cc
same_entry_true (Of k) (Destination l) e = absurd cc
same_entry_true Null (Of l) e = absurd cc
same_entry_true Null Null e = refl
same_entry_true Null (Destination l) e = absurd cc
same_entry_true (Destination k) (Of l) e = absurd cc
same_entry_true (Destination k) Null e = absurd cc
same_entry_true (Destination k) (Destination l) e = ap Destination ((bytes_eq-Decides k l).0 e)

same_entry_self : (a : ShapeEntry) → same_entry a a ≡ true
same_entry_self (Of k) = same_kind_self k
same_entry_self Null = refl
same_entry_self (Destination k) = (bytes_eq-Decides k k).1 refl

same_entry_decides : (a b : ShapeEntry) → Decides (same_entry a b) (a ≡ b)
same_entry_decides a b = (same_entry_true a b, λ e. subst (λ x. same_entry a x ≡ true) e (same_entry_self a))

pub entries_decide : (a b : List ShapeEntry) → Decides (pointwise same_entry a b) (a ≡ b)
entries_decide a b = slice_eq-Decides same_entry_decides a b (pointwise same_entry a b) refl

pub same_shape_true : (s t : Shape) → same_shape s t ≡ true → s ≡ t
same_shape_true s t e =
    let parts = and_parts (pointwise same_entry s.entries t.entries) (pointwise nat_eq s.pending t.pending) e in
    let first : s.entries ≡ t.entries = (entries_decide s.entries t.entries).0 parts.0 in
    let second : s.pending ≡ t.pending = (bytes_eq-Decides s.pending t.pending).0 parts.1 in
    ap (λ x. shape x s.pending) first ∙ ap (λ x. shape t.entries x) second

pub same_shape_from : (s t : Shape) → s ≡ t → same_shape s t ≡ true
same_shape_from s t e =
    and_from (pointwise same_entry s.entries t.entries) (pointwise nat_eq s.pending t.pending)
    ((entries_decide s.entries t.entries).1 (ap (λ (x : Shape). x.entries) e))
    ((bytes_eq-Decides s.pending t.pending).1 (ap (λ (x : Shape). x.pending) e))

-- ---- what a cell means

pub record TwoOf (C : Shape → Type 0) : Type 0 where
  pub one : Shape
  pub other : Shape
  pub first : C one
  pub second : C other
  pub differ : one ≡ other → ⊥

abbrev pub Means : (Shape → Type 0) → Coming → Type 0
Means C Nothing = (s : Shape) → C s → ⊥
Means C (Alone s) = C s × ((t : Shape) → C t → t ≡ s)
Means C Several = TwoOf C

pub means_same : (C D : Shape → Type 0) → ((s : Shape) → C s → D s) → ((s : Shape) → D s → C s) → (cell : Coming) → Means C cell → Means D cell
means_same C D to back Nothing h = λ s d. h s (back s d)
means_same C D to back (Alone s) h = (to s h.0, λ t d. h.1 t (back t d))
means_same C D to back Several h = record { one = h.one; other = h.other; first = to h.one h.first; second = to h.other h.second; differ = h.differ }

either : {A B P : Type 0} → (A → P) → (B → P) → A ⊎ B → P
either f g (inl a) = f a
either f g (inr b) = g b

means_and : (C : Shape → Type 0) (s : Shape) (cell : Coming) → Means C cell → Means (λ t. C t ⊎ (t ≡ s)) (and_shape s cell)
means_and C s Nothing h = (inr refl, λ t. either (λ c. absurd (h t c)) (λ e. e))
means_and C s (Alone r) h = by_test (same_shape r s) refl
  where
    by_test : (b : Bool) → same_shape r s ≡ b → Means (λ t. C t ⊎ (t ≡ s)) (if b then Alone r else Several)
    by_test true is = (inl h.0, λ t. either (h.1 t) (λ e. e ∙ sym (same_shape_true r s is)))
    by_test false is = record { one = r; other = s; first = inl h.0; second = inr refl; differ = λ e. absurd (cc (is, same_shape_from r s e)) }
means_and C s Several h = record { one = h.one; other = h.other; first = inl h.first; second = inl h.second; differ = h.differ }

pub record AreMeant (C : ℕ → Shape → Type 0) (cells : List Coming) : Type 0 where
  pub at : (q : ℕ) (cell : Coming) → slice_get cells q ≡ Some cell → Means (C q) cell

pub meant_same : (C D : ℕ → Shape → Type 0) → ((q : ℕ) (s : Shape) → C q s → D q s) → ((q : ℕ) (s : Shape) → D q s → C q s) → (cells : List Coming) → AreMeant C cells → AreMeant D cells
meant_same C D to back cells h = record { at = λ q cell e. means_same (C q) (D q) (to q) (back q) cell (h.at q cell e) }

-- ---- one goal

slice_get_set_same : {X : Type 0} (xs : List X) (i : ℕ) (y : X) → i < length xs → slice_get (set xs i y) i ≡ Some y
slice_get_set_same xs i y lt = grind (arith, common_steps, gets)

pub slice_get_set_other : {X : Type 0} (xs : List X) (i j : ℕ) (y : X) → j ≢ i → slice_get (set xs i y) j ≡ slice_get xs j
slice_get_set_other xs i j y ne = grind (arith, common_steps, gets)

-- the goal is later, and its shape is put there
pub record IsPut (place : ℕ) (g : Goal) (cells after : List Coming) : Type 0 where
  pub later : place < g.place
  pub cell : Coming
  pub there : slice_get cells g.place ≡ Some cell
  pub is : after ≡ set cells g.place (and_shape g.shape cell)

pub put_some : (place : ℕ) (g : Goal) (cells after : List Coming) → put place g cells ≡ Some after → IsPut place g cells after
put_some place g cells after = by_test (ltb place g.place) refl
  where
    by_cell : ltb place g.place ≡ true → (o : Option Coming) → slice_get cells g.place ≡ o → put_there g cells o ≡ Some after → IsPut place g cells after
    by_cell is None at e = absurd cc
    by_cell is (Some cell) at e = record { later = ltb-true place g.place is; cell = cell; there = at; is = cc }

    by_test : (b : Bool) → ltb place g.place ≡ b → (if b then put_there g cells (slice_get cells g.place) else None) ≡ Some after → IsPut place g cells after
    by_test true is e = by_cell is (slice_get cells g.place) refl e
    by_test false is e = absurd cc

put_none : (place : ℕ) (g : Goal) (cells : List Coming) → put place g cells ≡ None → place < g.place → g.place < length cells → ⊥
put_none place g cells = by_test (ltb place g.place) refl
  where
    by_cell : (o : Option Coming) → slice_get cells g.place ≡ o → put_there g cells o ≡ None → g.place < length cells → ⊥
    by_cell None at e lt = absurd (cc (at, slice_get-get_or cells g.place Nothing lt))
    by_cell (Some cell) at e lt = absurd cc

    by_test : (b : Bool) → ltb place g.place ≡ b → (if b then put_there g cells (slice_get cells g.place) else None) ≡ None → place < g.place → g.place < length cells → ⊥
    by_test true is e later lt = by_cell (slice_get cells g.place) refl e lt
    by_test false is e later lt = absurd (omega (arith, ltb-false place g.place is))

abbrev pub Is : Goal → ℕ → Shape → Type 0
Is g q s = (q ≡ g.place) × (s ≡ g.shape)

put_meant : (C : ℕ → Shape → Type 0) (place : ℕ) (g : Goal) (cells after : List Coming) → AreMeant C cells → IsPut place g cells after → AreMeant (λ q s. C q s ⊎ Is g q s) after
put_meant C place g cells after h put = record { at = at }
  where
    within : g.place < length cells
    within = slice_get_within cells g.place put.cell put.there

    here : Means (λ s. C g.place s ⊎ (s ≡ g.shape)) (and_shape g.shape put.cell)
    here = means_and (C g.place) g.shape put.cell (h.at g.place put.cell put.there)

    by_place : (q : ℕ) (cell : Coming) → slice_get after q ≡ Some cell → (b : Bool) → nat_eq q g.place ≡ b → Means (λ s. C q s ⊎ Is g q s) cell
    by_place q cell e true is =
        let same : q ≡ g.place = grind arith in
        let got : slice_get after g.place ≡ Some (and_shape g.shape put.cell) = ap (λ l. slice_get l g.place) put.is ∙ slice_get_set_same cells g.place (and_shape g.shape put.cell) within in
        let this : and_shape g.shape put.cell ≡ cell = cc in
        let there : Means (λ s. C g.place s ⊎ (s ≡ g.shape)) cell = subst (Means (λ s. C g.place s ⊎ (s ≡ g.shape))) this here in
        let moved : Means (λ s. C q s ⊎ (s ≡ g.shape)) cell = subst (λ r. Means (λ s. C r s ⊎ (s ≡ g.shape)) cell) (sym same) there in
        means_same (λ s. C q s ⊎ (s ≡ g.shape)) (λ s. C q s ⊎ Is g q s) (λ s. either (λ c. inl c) (λ e. inr (same, e))) (λ s. either (λ c. inl c) (λ e. inr e.1)) cell moved
    by_place q cell e false is =
        let ne : q ≢ g.place = λ same. absurd (grind arith) in
        let got : slice_get cells q ≡ Some cell = sym (slice_get_set_other cells g.place q (and_shape g.shape put.cell) ne) ∙ ap (λ l. slice_get l q) (sym put.is) ∙ e in
        means_same (C q) (λ s. C q s ⊎ Is g q s) (λ s c. inl c) (λ s. either (λ c. c) (λ i. absurd (ne i.0))) cell (h.at q cell got)

    at : (q : ℕ) (cell : Coming) → slice_get after q ≡ Some cell → Means (λ s. C q s ⊎ Is g q s) cell
    at q cell e = by_place q cell e (nat_eq q g.place) refl

-- ---- all goals

abbrev pub IsAmong : List Goal → ℕ → Shape → Type 0
IsAmong [] q s = ⊥
IsAmong (g ∷ gs) q s = Is g q s ⊎ IsAmong gs q s

pub record IsAhead (place most : ℕ) (g : Goal) : Type 0 where
  pub later : place < g.place
  pub within : g.place < most

-- all goals are put
pub record ArePut (C : ℕ → Shape → Type 0) (place : ℕ) (goals : List Goal) (cells after : List Coming) : Type 0 where
  pub ahead : All (IsAhead place (length cells)) goals
  pub counted : length after ≡ length cells
  pub meant : AreMeant (λ q s. C q s ⊎ IsAmong goals q s) after

assoc_to : {A B C : Type 0} → (A ⊎ B) ⊎ C → A ⊎ (B ⊎ C)
assoc_to (inl (inl a)) = inl a
assoc_to (inl (inr b)) = inr (inl b)
assoc_to (inr c) = inr (inr c)

assoc_back : {A B C : Type 0} → A ⊎ (B ⊎ C) → (A ⊎ B) ⊎ C
assoc_back (inl a) = inl (inl a)
assoc_back (inr (inl b)) = inl (inr b)
assoc_back (inr (inr c)) = inr c

pub put_all_some : (C : ℕ → Shape → Type 0) (place : ℕ) (goals : List Goal) (cells after : List Coming) → AreMeant C cells → put_all place goals cells ≡ Some after → ArePut C place goals cells after
put_all_some C place [] cells after h e =
    let same : cells ≡ after = cc in
    record {
      ahead = All-nil (IsAhead place (length cells));
      counted = ap length (sym same);
      meant = subst (AreMeant (λ q s. C q s ⊎ ⊥)) same (meant_same C (λ q s. C q s ⊎ ⊥) (λ q s c. inl c) (λ q s. either (λ c. c) (λ n. absurd n)) cells h);
    }
put_all_some C place (g ∷ gs) cells after h e = by_put (put_all_some (λ q s. C q s ⊎ Is g q s) place gs) (put place g cells) refl e
  where
    by_put : ((next last : List Coming) → AreMeant (λ q s. C q s ⊎ Is g q s) next → put_all place gs next ≡ Some last → ArePut (λ q s. C q s ⊎ Is g q s) place gs next last) →
        (o : Option (List Coming)) → put place g cells ≡ o → option_and_then (λ next. put_all place gs next) o ≡ Some after → ArePut C place (g ∷ gs) cells after
    by_put more None is e = absurd cc
    by_put more (Some next) is e =
        let here = put_some place g cells next is in
        let within = slice_get_within cells g.place here.cell here.there in
        let same : length next ≡ length cells = ap length here.is ∙ length-set cells g.place (and_shape g.shape here.cell) in
        let rest = more next after (put_meant C place g cells next h here) e in
        record {
          ahead = All-cons (IsAhead place (length cells)) g gs (record { later = here.later; within = within }) (subst (λ m. All (IsAhead place m) gs) same rest.ahead);
          counted = rest.counted ∙ same;
          meant = meant_same (λ q s. (C q s ⊎ Is g q s) ⊎ IsAmong gs q s) (λ q s. C q s ⊎ IsAmong (g ∷ gs) q s) (λ q s. assoc_to) (λ q s. assoc_back) after rest.meant;
        }

pub put_all_none : (place : ℕ) (goals : List Goal) (cells : List Coming) → put_all place goals cells ≡ None → All (IsAhead place (length cells)) goals → ⊥
put_all_none place [] cells e h = absurd cc
put_all_none place (g ∷ gs) cells e h = by_put (put_all_none place gs) (put place g cells) refl e
  where
    first : IsAhead place (length cells) g
    first = All-head (IsAhead place (length cells)) g gs h

    by_put : ((next : List Coming) → put_all place gs next ≡ None → All (IsAhead place (length next)) gs → ⊥) → (o : Option (List Coming)) → put place g cells ≡ o → option_and_then (λ next. put_all place gs next) o ≡ None → ⊥
    by_put more None is e = put_none place g cells is first.later first.within
    by_put more (Some next) is e =
        let here = put_some place g cells next is in
        let same : length next ≡ length cells = ap length here.is ∙ length-set cells g.place (and_shape g.shape here.cell) in
        more next e (subst (λ m. All (IsAhead place m) gs) (sym same) (All-tail (IsAhead place (length cells)) g gs h))

-- ---- a goal among goals

pub record IsCut (goals : List Goal) (q : ℕ) (s : Shape) : Type 0 where
  pub before : List Goal
  pub into : Goal
  pub behind : List Goal
  pub is : goals ≡ before ++ into ∷ behind
  pub place : into.place ≡ q
  pub same : into.shape ≡ s

pub among_cut : (goals : List Goal) (q : ℕ) (s : Shape) → IsAmong goals q s → IsCut goals q s
among_cut [] q s h = absurd h
among_cut (g ∷ gs) q s (inl h) = record { before = []; into = g; behind = gs; is = refl; place = sym h.0; same = sym h.1 }
among_cut (g ∷ gs) q s (inr h) =
    let r = among_cut gs q s h in
    record { before = g ∷ r.before; into = r.into; behind = r.behind; is = ap (λ l. g ∷ l) r.is; place = r.place; same = r.same }

pub cut_among : (before : List Goal) (into : Goal) (behind : List Goal) → IsAmong (before ++ into ∷ behind) into.place into.shape
cut_among [] into behind = inl (refl, refl)
cut_among (g ∷ before) into behind = inr (cut_among before into behind)

pub all_among : (P : Goal → Type 0) (goals : List Goal) → ((g : Goal) → IsAmong goals g.place g.shape → P g) → All P goals
all_among P [] f = All-nil P
all_among P (g ∷ gs) f = All-cons P g gs (f g (inl (refl, refl))) (all_among P gs (λ r h. f r (inr h)))

pub among_later : (place most : ℕ) (goals : List Goal) (q : ℕ) (s : Shape) → All (IsAhead place most) goals → IsAmong goals q s → place < q
among_later place most [] q s h a = absurd a
among_later place most (g ∷ gs) q s h (inl a) = let here = All-head (IsAhead place most) g gs h in omega (arith, here.later, a.0)
among_later place most (g ∷ gs) q s h (inr a) = among_later place most gs q s (All-tail (IsAhead place most) g gs h) a

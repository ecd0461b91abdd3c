-- Lists of entries and of cells, as loops go over them.
use Rattle.std.proofs.Common.{◌≡◌, ℕ, zero, suc, ◌+◌, ◌<◌, List, [], ◌∷◌, ◌++◌, length, get_or, set, replicate, drop, map, reverse, Bool, true, false, ◌&&◌, refl, sym, ap, ◌∙◌, arith, ◌≤◌, Option, Some, None, ltb, if◌then◌else◌, drop-cons}
use Rattle.std.specs.Prelude.{slice_get}
use Rattle.std.specs.Option.{option_map}
use Rattle.std.proofs.lemmas.Option.{slice_get-map, slice_get_read, slice_get_past}
use Rattle.std.proofs.lemmas.Bool.{lt-ltb, le-ltb}
use Rattle.std.proofs.lemmas.List.{map-set, reverse-reverse, length-map, get_or-map}
use Rattle.yarn_code.specs.declared.program.Coded.{Coded}
use Rattle.yarn_code.specs.declared.program.Program.{Program}
use Rattle.yarn_check.proofs.Cells.{entries_decide}
use Rattle.std.specs.Cmp.Lexicographic.{pointwise}
use Rattle.yarn_check.specs.Shapes as spec
use Rattle.yarn_check.specs.Pass.{same_entry, Coming, Nothing, Alone, beginning, and_shape, put_there, put, Several, step, go_on, walk, Ended, Faulted, Moved, Stopped, sized, put_all}
use Rattle.yarn_check.specs.Faults.{NodeFault, Shapeless}
use Rattle.std.specs.Option.{option_and_then}

module _ {A B : Type 0} (f : A → B) (E : B → B → Bool) where
  pub rest_at : (a b : List A) (i : ℕ) (x y : A) → length a ≡ length b → i < length a → x ≡ get_or a i x → y ≡ get_or b i y →
      pointwise E (drop i (map f a)) (drop i (map f b)) ≡ (E (f x) (f y) && pointwise E (drop (suc i) (map f a)) (drop (suc i) (map f b)))
  rest_at [] b i x y e lt p q = absurd (omega (arith, lt))
  rest_at (z ∷ a) [] i x y e lt p q = absurd (omega (arith, e))
  rest_at (z ∷ a) (w ∷ b) zero x y e lt p q = rw (p, q) refl
  rest_at (z ∷ a) (w ∷ b) (suc i) x y e lt p q = rest_at a b i x y (omega (arith, e)) (omega (arith, lt)) p q

pub beginning_more : (n : ℕ) → 0 < n → beginning n ++ Nothing ∷ [] ≡ beginning (suc n)
beginning_more zero lt = absurd (omega (arith, lt))
beginning_more (suc n) lt = ap (λ l. Alone (spec.shape [] []) ∷ l) (more n)
  where
    more : (m : ℕ) → replicate m Nothing ++ Nothing ∷ [] ≡ replicate (suc m) Nothing
    more zero = refl
    more (suc m) = ap (λ l. Nothing ∷ l) (more m)

-- a test at a place
module _ {A B : Type 0} (f : A → B) (E : B → B → Bool) (a b : List A) (i : ℕ) (x y : A) (long : length a ≡ length b) (lt : i < length a) (p : x ≡ get_or a i x) (q : y ≡ get_or b i y) (all : Bool) (before : all ≡ pointwise E (drop i (map f a)) (drop i (map f b))) where
  pub fails_at : E (f x) (f y) ≡ false → false ≡ all
  fails_at no_same = sym (before ∙ rest_at f E a b i x y long lt p q ∙ ap (λ t. t && pointwise E (drop (suc i) (map f a)) (drop (suc i) (map f b))) no_same)

  pub goes_at : E (f x) (f y) ≡ true → all ≡ pointwise E (drop (i + 1) (map f a)) (drop (i + 1) (map f b))
  goes_at same =
      let next : suc i ≡ i + 1 = omega arith in
      before ∙ rest_at f E a b i x y long lt p q ∙ ap (λ t. t && pointwise E (drop (suc i) (map f a)) (drop (suc i) (map f b))) same ∙ ap (λ m. pointwise E (drop m (map f a)) (drop m (map f b))) next

-- ---- the top last

alike : (p q : Bool) → (p ≡ true → q ≡ true) → (q ≡ true → p ≡ true) → p ≡ q
alike true q to back = sym (to refl)
alike false true to back = back refl
alike false false to back = refl

pub both_reversed : (a b : List spec.ShapeEntry) → pointwise same_entry a b ≡ pointwise same_entry (reverse a) (reverse b)
both_reversed a b =
    alike (pointwise same_entry a b) (pointwise same_entry (reverse a) (reverse b))
    (λ e. (entries_decide (reverse a) (reverse b)).1 (ap reverse ((entries_decide a b).0 e)))
    (λ e. (entries_decide a b).1 (sym (reverse-reverse a) ∙ ap reverse ((entries_decide (reverse a) (reverse b)).0 e) ∙ reverse-reverse b))

-- ---- a goal that is put

set_again : {A : Type 0} (xs : List A) (i : ℕ) (a b : A) → set (set xs i a) i b ≡ set xs i b
set_again [] i a b = refl
set_again (x ∷ xs) zero a b = refl
set_again (x ∷ xs) (suc i) a b = ap (λ l. x ∷ l) (set_again xs i a b)

module _ {A : Type 0} (f : A → Coming) (cells : List A) (place to : ℕ) (s : spec.Shape) where
  pub put_is : (mid old after : A) → place < to → to < length cells → old ≡ get_or cells to old → f after ≡ and_shape s (f old) → Some (map f (set (set cells to mid) to after)) ≡ put place (spec.goal to s) (map f cells)
  put_is mid old after later within is met =
      let at : slice_get (map f cells) to ≡ Some (f old) = slice_get-map f cells to ∙ ap (option_map f) (slice_get_read cells (length cells) to old refl within is) in
      ap (λ l. Some (map f l)) (set_again cells to mid after)
      ∙ ap (λ l. Some l) (map-set f cells to after)
      ∙ ap (λ c. Some (set (map f cells) to c)) met
      ∙ sym (ap (λ b. if b then put_there (spec.goal to s) (map f cells) (slice_get (map f cells) to) else None) (lt-ltb place to later) ∙ ap (λ o. put_there (spec.goal to s) (map f cells) o) at)

  pub put_far : length cells ≤ to → None ≡ put place (spec.goal to s) (map f cells)
  put_far far = by_test (ltb place to)
    where
      past : slice_get (map f cells) to ≡ None
      past = slice_get-map f cells to ∙ ap (option_map f) (slice_get_past cells to far)

      by_test : (b : Bool) → None ≡ (if b then put_there (spec.goal to s) (map f cells) (slice_get (map f cells) to) else None)
      by_test true = sym (ap (λ o. put_there (spec.goal to s) (map f cells) o) past)
      by_test false = refl

  pub put_back : to ≤ place → None ≡ put place (spec.goal to s) (map f cells)
  put_back back = sym (ap (λ b. if b then put_there (spec.goal to s) (map f cells) (slice_get (map f cells) to) else None) (le-ltb place to back))

pub none_from : {A : Type 0} (o : Option A) → ((x : A) → o ≡ Some x → ⊥) → o ≡ None
none_from None h = refl
none_from (Some x) h = absurd (h x refl)

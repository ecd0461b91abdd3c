-- Numbers that are skipped, and a tag that is written piece by piece.
use Rattle.std.proofs.Common.{◌≡◌, ℕ, ◌+◌, ◌≤◌, ◌<◌, List, [], ◌∷◌, ◌++◌, length, take, drop, slice_range, Bool, true, false, ◌&&◌, nat_eq, if◌then◌else◌, codes, refl, sym, ap, ◌∙◌, subst, append_assoc, append-nil, ◌⊎◌, inl, inr, eq-or-lt_of_le, arith}
use Rattle.std.specs.Cmp.Lexicographic.{pointwise}
use Rattle.std.specs.List.{starts_with}
use Rattle.std.proofs.lemmas.Bool.{eqb-true, eq-eqb}
use Rattle.std.proofs.lemmas.List.{drop_all}
use Rattle.std.proofs.lemmas.List.Folds.{drop_split}
use Rattle.yarn_lines.specs.Lines.{begins_with}
use Rattle.yarn_tag.specs.Tagged.{id_of, tag_before}

module _ (taken : List ℕ → Bool) (start n : ℕ) (below : (m : ℕ) → start ≤ m → m < n → taken (id_of m) ≡ true) (at : taken (id_of n) ≡ true) where
  at-or-below : (m : ℕ) → start ≤ m → (m ≡ n) ⊎ (m < n) → taken (id_of m) ≡ true
  at-or-below m from (inl is) = subst (λ (k : ℕ). taken (id_of k) ≡ true) (sym is) at
  at-or-below m from (inr less) = below m from less

  -- what holds below a number and at it holds below the next one
  pub skipped-more : (m : ℕ) → start ≤ m → m < n + 1 → taken (id_of m) ≡ true
  skipped-more m from to = at-or-below m from (eq-or-lt_of_le (omega arith))

same-tests : (x y : Bool) → (x ≡ true → y ≡ true) → (y ≡ true → x ≡ true) → x ≡ y
same-tests true y there back = sym (there refl)
same-tests false true there back = back refl
same-tests false false there back = refl

nat_eq-flip : (a b : ℕ) → nat_eq a b ≡ nat_eq b a
nat_eq-flip a b = same-tests (nat_eq a b) (nat_eq b a) (λ is. eq-eqb b a (sym (eqb-true a b is))) (λ is. eq-eqb a b (sym (eqb-true b a is)))

pointwise-flip : (xs ys : List ℕ) → pointwise nat_eq xs ys ≡ pointwise nat_eq ys xs
pointwise-flip [] [] = refl
pointwise-flip [] (y ∷ ys) = refl
pointwise-flip (x ∷ xs) [] = refl
pointwise-flip (x ∷ xs) (y ∷ ys) =
    ap (λ (b : Bool). b && pointwise nat_eq xs ys) (nat_eq-flip x y) ∙ ap (λ (b : Bool). nat_eq y x && b) (pointwise-flip xs ys)

-- the front of some bytes, asked in two ways
pub begins-as : (front bytes : List ℕ) → begins_with front bytes ≡ starts_with nat_eq bytes front
begins-as front bytes = pointwise-flip (take (length front) bytes) front

-- what stands behind a place up to the end
pub range-to_end : (xs : List ℕ) (at : ℕ) → at ≤ length xs → slice_range xs at (length xs) ≡ drop at xs
range-to_end xs at within =
    sym (append-nil (slice_range xs at (length xs)))
    ∙ ap (λ (l : List ℕ). slice_range xs at (length xs) ++ l) (sym (drop_all (length xs) xs (omega arith)))
    ∙ sym (drop_split xs at (length xs) within)

abbrev pub space_for : Bool → List ℕ
space_for b = if b then 32 ∷ [] else []

-- a tag behind other bytes
pub tag-pushed : (out rest : List ℕ) (n : ℕ) (first second third : List ℕ) (b : Bool) → first ≡ out ++ codes " #" → second ≡ first ++ id_of n →
    begins_with (codes "//") rest ≡ b → third ≡ second ++ space_for b → third ≡ out ++ tag_before rest n
tag-pushed out rest n first second third b one two is three =
    three
    ∙ ap (λ (l : List ℕ). l ++ space_for b) (two ∙ ap (λ (l : List ℕ). l ++ id_of n) one)
    ∙ append_assoc (out ++ codes " #") (id_of n) (space_for b)
    ∙ append_assoc out (codes " #") (id_of n ++ space_for b)
    ∙ ap (λ (s : Bool). out ++ (codes " #" ++ (id_of n ++ space_for s))) (sym is)

-- the bytes before a tag, and the tag
pub tag-put : (out bytes text rest before mid new : List ℕ) (n at end behind to : ℕ) → behind ≡ to → before ≡ slice_range bytes at behind →
    mid ≡ out ++ before → rest ≡ drop end text → new ≡ mid ++ tag_before rest n → new ≡ out ++ (slice_range bytes at to ++ tag_before (drop end text) n)
tag-put out bytes text rest before mid new n at end behind to same front one left two =
    two
    ∙ ap (λ (l : List ℕ). l ++ tag_before rest n) (one ∙ ap (λ (l : List ℕ). out ++ l) (front ∙ ap (λ (k : ℕ). slice_range bytes at k) same))
    ∙ append_assoc out (slice_range bytes at to) (tag_before rest n)
    ∙ ap (λ (l : List ℕ). out ++ (slice_range bytes at to ++ tag_before l n)) left

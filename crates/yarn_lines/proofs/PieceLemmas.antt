-- The first piece of some bytes, and the blanks around a line.
use Rattle.std.proofs.Common.{◌≡◌, ℕ, zero, suc, ◌+◌, ◌-◌, ◌<◌, ◌≤◌, List, [], ◌∷◌, ◌++◌, length, take, drop, Bool, true, false, ◌&&◌, nat_eq, None, ◌⊎◌, inl, inr, refl, sym, ap, ◌∙◌, arith, add-one, get_or}
use Rattle.std.proofs.lemmas.Bool.{eqb-true, cases_lt}
use Rattle.std.proofs.lemmas.List.{take_all, drop_all, take_more, take_rest}
use Rattle.std.proofs.lemmas.List.Folds.{list_all-append}
use Rattle.std.specs.List.{list_all}
use Rattle.yarn_lines.specs.Lines.{pieces_of, first_from, is_blank, without_cr, without_trailing, leading, past_leading}
use Rattle.yarn_lines.specs.Piece.{length_to_lf}

pub pieces_of-cut : (bytes : List ℕ) → length_to_lf bytes < length bytes →
    pieces_of bytes ≡ take (length_to_lf bytes) bytes ∷ pieces_of (drop (length_to_lf bytes + 1) bytes)
pieces_of-cut [] lt = absurd (omega arith)
pieces_of-cut (b ∷ bytes) lt = by_test (pieces_of-cut bytes) (nat_eq b 10) refl
  where
    by_test : (length_to_lf bytes < length bytes → pieces_of bytes ≡ take (length_to_lf bytes) bytes ∷ pieces_of (drop (length_to_lf bytes + 1) bytes)) →
        (is : Bool) → nat_eq b 10 ≡ is →
        pieces_of (b ∷ bytes) ≡ take (length_to_lf (b ∷ bytes)) (b ∷ bytes) ∷ pieces_of (drop (length_to_lf (b ∷ bytes) + 1) (b ∷ bytes))
    by_test later true is = rw is refl
    by_test later false is =
        let shorter : length_to_lf bytes < length bytes = let h = rw is at lt in omega arith in
        rw (is, later shorter, add-one, add-one) refl

pub pieces_of-last : (bytes : List ℕ) → 0 < length bytes → length bytes ≤ length_to_lf bytes → pieces_of bytes ≡ bytes ∷ []
pieces_of-last [] lt le = absurd (omega arith)
pieces_of-last (b ∷ []) lt le = by_test (nat_eq b 10) refl
  where
    by_test : (is : Bool) → nat_eq b 10 ≡ is → pieces_of (b ∷ []) ≡ (b ∷ []) ∷ []
    by_test true is = let h = rw is at le in absurd (omega arith)
    by_test false is = rw is refl
pieces_of-last (b ∷ c ∷ bytes) lt le = by_test (pieces_of-last (c ∷ bytes) (omega arith)) (nat_eq b 10) refl
  where
    by_test : (length (c ∷ bytes) ≤ length_to_lf (c ∷ bytes) → pieces_of (c ∷ bytes) ≡ (c ∷ bytes) ∷ []) →
        (is : Bool) → nat_eq b 10 ≡ is → pieces_of (b ∷ c ∷ bytes) ≡ (b ∷ c ∷ bytes) ∷ []
    by_test later true is = let h = rw is at le in absurd (omega arith)
    by_test later false is = let h = rw is at le in rw (is, later (omega arith)) refl

pub length_to_lf-le : (bytes : List ℕ) → length_to_lf bytes ≤ length bytes
length_to_lf-le [] = omega arith
length_to_lf-le (b ∷ bytes) = by_test (length_to_lf-le bytes) (nat_eq b 10) refl
  where
    by_test : length_to_lf bytes ≤ length bytes → (is : Bool) → nat_eq b 10 ≡ is → length_to_lf (b ∷ bytes) ≤ length (b ∷ bytes)
    by_test later true is = rw is (omega arith)
    by_test later false is = rw is (omega arith)

pub pieces_of-first : (bytes : List ℕ) → 0 < length bytes → pieces_of bytes ≡ take (length_to_lf bytes) bytes ∷ pieces_of (drop (length_to_lf bytes + 1) bytes)
pieces_of-first bytes some = by_end (cases_lt (length_to_lf bytes) (length bytes))
  where
    by_end : (length_to_lf bytes < length bytes) ⊎ (length bytes ≤ length_to_lf bytes) →
        pieces_of bytes ≡ take (length_to_lf bytes) bytes ∷ pieces_of (drop (length_to_lf bytes + 1) bytes)
    by_end (inl lt) = pieces_of-cut bytes lt
    by_end (inr ge) = rw (take_all (length_to_lf bytes) bytes ge, drop_all (length_to_lf bytes + 1) bytes (omega arith)) (pieces_of-last bytes some ge)

-- where the test fails at every piece, it does at the first
pub first_from-none : (test : List ℕ → Bool) (n : ℕ) (piece : List ℕ) (pieces : List (List ℕ)) → first_from test n (piece ∷ pieces) ≡ None →
    (test piece ≡ false) × (first_from test (n + 1) pieces ≡ None)
first_from-none test n piece pieces none = by_test (test piece) refl
  where
    by_test : (is : Bool) → test piece ≡ is → (test piece ≡ false) × (first_from test (n + 1) pieces ≡ None)
    by_test true is = let h = rw is at none in absurd cc
    by_test false is = (is, rw is at none)

pub without_cr-cr : (bytes : List ℕ) (n : ℕ) → length bytes ≡ n + 1 → get_or bytes n 0 ≡ 13 → without_cr bytes ≡ take n bytes
without_cr-cr [] n e is = absurd (omega arith)
without_cr-cr (a ∷ []) n e is = let z : n ≡ 0 = omega arith in let h = rw z at is in rw (z, h) refl
without_cr-cr (a ∷ c ∷ bytes) zero e is = absurd (omega arith)
without_cr-cr (a ∷ c ∷ bytes) (suc n) e is = rw (without_cr-cr (c ∷ bytes) n (omega arith) is) refl

pub without_cr-other : (bytes : List ℕ) (n : ℕ) → length bytes ≡ n + 1 → (get_or bytes n 0 ≡ 13 → ⊥) → without_cr bytes ≡ bytes
without_cr-other [] n e is = refl
without_cr-other (a ∷ []) n e is = by_test (nat_eq a 13) refl
  where
    by_test : (t : Bool) → nat_eq a 13 ≡ t → without_cr (a ∷ []) ≡ a ∷ []
    by_test true t = let z : n ≡ 0 = omega arith in let h = rw z at is in absurd (h (eqb-true a 13 t))
    by_test false t = rw t refl
without_cr-other (a ∷ c ∷ bytes) zero e is = absurd (omega arith)
without_cr-other (a ∷ c ∷ bytes) (suc n) e is = rw (without_cr-other (c ∷ bytes) n (omega arith) is) refl

and_false : (a : Bool) → (a && false) ≡ false
and_false true = refl
and_false false = refl

trailing_blank : (xs : List ℕ) (b : ℕ) → is_blank b ≡ true → without_trailing (xs ++ b ∷ []) ≡ without_trailing xs
trailing_blank [] b e = rw e refl
trailing_blank (x ∷ xs) b e = by_test (trailing_blank xs b e) (list_all is_blank xs) refl
  where
    by_test : without_trailing (xs ++ b ∷ []) ≡ without_trailing xs → (t : Bool) → list_all is_blank xs ≡ t →
        without_trailing (x ∷ xs ++ b ∷ []) ≡ without_trailing (x ∷ xs)
    by_test later true t = rw (later, list_all-append is_blank xs (b ∷ []), t, e) refl
    by_test later false t = rw (later, list_all-append is_blank xs (b ∷ []), t) refl

trailing_other : (xs : List ℕ) (b : ℕ) → is_blank b ≡ false → without_trailing (xs ++ b ∷ []) ≡ xs ++ b ∷ []
trailing_other [] b e = rw e refl
trailing_other (x ∷ xs) b e =
    let none : list_all is_blank (xs ++ b ∷ []) ≡ false = rw (list_all-append is_blank xs (b ∷ []), e, and_false (list_all is_blank xs)) refl in
    rw (none, and_false (is_blank x), trailing_other xs b e) refl

pub without_trailing-blank : (bytes : List ℕ) (end n : ℕ) → end ≡ n + 1 → end ≤ length bytes → is_blank (get_or bytes n 0) ≡ true →
    without_trailing (take n bytes) ≡ without_trailing (take end bytes)
without_trailing-blank bytes end n e le is =
    let lt : n < length bytes = omega arith in
    sym (rw (e, take_more bytes n 0 lt) (trailing_blank (take n bytes) (get_or bytes n 0) is))

pub without_trailing-other : (bytes : List ℕ) (end n : ℕ) → end ≡ n + 1 → end ≤ length bytes → is_blank (get_or bytes n 0) ≡ false →
    take end bytes ≡ without_trailing (take end bytes)
without_trailing-other bytes end n e le is =
    let lt : n < length bytes = omega arith in
    sym (rw (e, take_more bytes n 0 lt) (trailing_other (take n bytes) (get_or bytes n 0) is))

pub past_leading-drop : (bytes : List ℕ) → past_leading bytes ≡ drop (length (leading bytes)) bytes
past_leading-drop [] = refl
past_leading-drop (b ∷ bytes) = by_test (past_leading-drop bytes) (is_blank b) refl
  where
    by_test : past_leading bytes ≡ drop (length (leading bytes)) bytes → (is : Bool) → is_blank b ≡ is →
        past_leading (b ∷ bytes) ≡ drop (length (leading (b ∷ bytes))) (b ∷ bytes)
    by_test later true is = rw (is, later) refl
    by_test later false is = rw is refl

pub past_leading-slice : (bytes : List ℕ) (n : ℕ) → n ≡ length (leading bytes) → take (length bytes - n) (drop n bytes) ≡ past_leading bytes
past_leading-slice bytes n at = take_rest bytes n ∙ ap (λ k. drop k bytes) at ∙ sym (past_leading-drop bytes)

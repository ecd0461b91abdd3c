-- The first line of some bytes, and a CR at the end of one.
use Rattle.std.proofs.Common.{◌≡◌, ℕ, zero, suc, ◌+◌, ◌<◌, ◌≤◌, List, [], ◌∷◌, length, take, drop, get_or, Bool, true, false, ◌&&◌, nat_eq, refl, sym, ap, arith, add-one}
use Rattle.std.proofs.lemmas.Bool.{eqb-true}
use Rattle.yarn_store.specs.Lines.{lines_of, begins_with_lf}
use Rattle.yarn_store.specs.Steps.{length_to_lf, without_cr}

pub without_cr-cr : (bytes : List ℕ) (n : ℕ) → length bytes ≡ n + 1 → get_or bytes n 0 ≡ 13 → without_cr bytes ≡ take n bytes
without_cr-cr [] n e is = absurd (omega arith)
without_cr-cr (a ∷ []) n e is = let z : n ≡ 0 = omega arith in let h = rw z at is in rw (z, h) refl
without_cr-cr (a ∷ c ∷ bytes) zero e is = absurd (omega arith)
without_cr-cr (a ∷ c ∷ bytes) (suc n) e is = rw (without_cr-cr (c ∷ bytes) n (omega arith) is) refl

pub without_cr-other : (bytes : List ℕ) (n : ℕ) → length bytes ≡ n + 1 → (get_or bytes n 0 ≡ 13 → ⊥) → without_cr bytes ≡ bytes
without_cr-other [] n e is = refl
without_cr-other (a ∷ []) n e is = by_test (nat_eq a 13) refl
  where
    by_test : (t : Bool) → nat_eq a 13 ≡ t → without_cr (a ∷ []) ≡ a ∷ []
    by_test true t = let z : n ≡ 0 = omega arith in let h = rw z at is in absurd (h (eqb-true a 13 t))
    by_test false t = rw t refl
without_cr-other (a ∷ c ∷ bytes) zero e is = absurd (omega arith)
without_cr-other (a ∷ c ∷ bytes) (suc n) e is = rw (without_cr-other (c ∷ bytes) n (omega arith) is) refl

-- a byte that isn't dropped stands before the rest of its line
before_rest : (b : ℕ) (bytes : List ℕ) → length_to_lf bytes < length bytes → (nat_eq b 13 && begins_with_lf bytes) ≡ false →
    without_cr (b ∷ take (length_to_lf bytes) bytes) ≡ b ∷ without_cr (take (length_to_lf bytes) bytes)
before_rest b [] lt stays = absurd (omega arith)
before_rest b (c ∷ bytes) lt stays = by_test (nat_eq c 10) refl
  where
    by_cr : (t : Bool) → nat_eq b 13 ≡ t → (t && true) ≡ false → without_cr (b ∷ []) ≡ b ∷ []
    by_cr true t h = absurd cc
    by_cr false t h = rw t refl

    by_test : (t : Bool) → nat_eq c 10 ≡ t → without_cr (b ∷ take (length_to_lf (c ∷ bytes)) (c ∷ bytes)) ≡ b ∷ without_cr (take (length_to_lf (c ∷ bytes)) (c ∷ bytes))
    by_test true t = rw t (by_cr (nat_eq b 13) refl (rw t at stays))
    by_test false t = rw (t, add-one) refl

abbrev Cut : List ℕ → Type 0
Cut bytes = lines_of bytes ≡ without_cr (take (length_to_lf bytes) bytes) ∷ lines_of (drop (length_to_lf bytes + 1) bytes)

pub lines_of-cut : (bytes : List ℕ) → length_to_lf bytes < length bytes → Cut bytes
lines_of-cut [] lt = absurd (omega arith)
lines_of-cut (b ∷ bytes) lt = by_test (lines_of-cut bytes) (nat_eq b 10) refl
  where
    crlf : (rest : List ℕ) → nat_eq b 10 ≡ false → nat_eq b 13 ≡ true → begins_with_lf rest ≡ true → Cut (b ∷ rest)
    crlf [] other cr lf = absurd cc
    crlf (c ∷ rest) other cr lf = rw (other, lf, cr) refl

    plain : (length_to_lf bytes < length bytes → Cut bytes) → nat_eq b 10 ≡ false → (nat_eq b 13 && begins_with_lf bytes) ≡ false → Cut (b ∷ bytes)
    plain later other stays =
        let shorter : length_to_lf bytes < length bytes = let h = rw other at lt in omega arith in
        rw (other, stays, later shorter, add-one, add-one) (ap (λ line. line ∷ lines_of (drop (suc (length_to_lf bytes)) bytes)) (sym (before_rest b bytes shorter stays)))

    by_cr : (length_to_lf bytes < length bytes → Cut bytes) → nat_eq b 10 ≡ false → (t u : Bool) → nat_eq b 13 ≡ t → begins_with_lf bytes ≡ u → Cut (b ∷ bytes)
    by_cr later other true true t u = crlf bytes other t u
    by_cr later other true false t u = plain later other (rw (t, u) refl)
    by_cr later other false u t is = plain later other (rw t refl)

    by_test : (length_to_lf bytes < length bytes → Cut bytes) → (is : Bool) → nat_eq b 10 ≡ is → Cut (b ∷ bytes)
    by_test later true is = rw is refl
    by_test later false is = by_cr later is (nat_eq b 13) (begins_with_lf bytes) refl refl

pub lines_of-last : (bytes : List ℕ) → 0 < length bytes → length bytes ≤ length_to_lf bytes → lines_of bytes ≡ bytes ∷ []
lines_of-last [] lt le = absurd (omega arith)
lines_of-last (b ∷ []) lt le = by_test (nat_eq b 10) refl
  where
    by_cr : (t : Bool) → nat_eq b 10 ≡ false → nat_eq b 13 ≡ t → lines_of (b ∷ []) ≡ (b ∷ []) ∷ []
    by_cr true other t = rw (other, t) refl
    by_cr false other t = rw (other, t) refl

    by_test : (is : Bool) → nat_eq b 10 ≡ is → lines_of (b ∷ []) ≡ (b ∷ []) ∷ []
    by_test true is = let h = rw is at le in absurd (omega arith)
    by_test false is = by_cr (nat_eq b 13) is refl
lines_of-last (b ∷ c ∷ bytes) lt le = by_test (lines_of-last (c ∷ bytes) (omega arith)) (nat_eq b 10) refl
  where
    no_lf : length (c ∷ bytes) ≤ length_to_lf (c ∷ bytes) → (t : Bool) → nat_eq c 10 ≡ t → nat_eq c 10 ≡ false
    no_lf h true t = let z = rw t at h in absurd (omega arith)
    no_lf h false t = t

    by_cr : lines_of (c ∷ bytes) ≡ (c ∷ bytes) ∷ [] → nat_eq b 10 ≡ false → nat_eq c 10 ≡ false → (t : Bool) → nat_eq b 13 ≡ t → lines_of (b ∷ c ∷ bytes) ≡ (b ∷ c ∷ bytes) ∷ []
    by_cr later other none true t = rw (other, t, none) (let l = rw none at later in rw l refl)
    by_cr later other none false t = rw (other, t, later) refl

    by_test : (length (c ∷ bytes) ≤ length_to_lf (c ∷ bytes) → lines_of (c ∷ bytes) ≡ (c ∷ bytes) ∷ []) →
        (is : Bool) → nat_eq b 10 ≡ is → lines_of (b ∷ c ∷ bytes) ≡ (b ∷ c ∷ bytes) ∷ []
    by_test later true is = let h = rw is at le in absurd (omega arith)
    by_test later false is =
        let h : length (c ∷ bytes) ≤ length_to_lf (c ∷ bytes) = let l = rw is at le in omega arith in
        by_cr (later h) is (no_lf h (nat_eq c 10) refl) (nat_eq b 13) refl

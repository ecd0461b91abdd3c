-- The place of the first LF.
use Rattle.std.proofs.Common.{◌≡◌, ℕ, zero, suc, ◌<◌, List, [], ◌∷◌, length, Bool, true, false, nat_eq, refl, arith}
use Rattle.memchr.specs.Find.{Passes, Nowhere, is_byte}
use Rattle.yarn_lines.specs.Piece.{length_to_lf}

by_first : (b k : ℕ) (bytes : List ℕ) → (nat_eq b 10 ≡ false → k ≡ length_to_lf bytes) → (nat_eq b 10 ≡ true → ⊥) →
    (t : Bool) → nat_eq b 10 ≡ t → suc k ≡ length_to_lf (b ∷ bytes)
by_first b k bytes later never true e = absurd (never e)
by_first b k bytes later never false e = let h = later e in rw e (omega (arith, h))

pub lf-at : (bytes : List ℕ) (k : ℕ) → k < length bytes → Passes (is_byte 10) bytes k → Nowhere (Passes (is_byte 10) bytes) 0 k →
    k ≡ length_to_lf bytes
lf-at [] k lt is before = absurd (omega arith)
lf-at (b ∷ bytes) zero lt is before = rw is refl
lf-at (b ∷ bytes) (suc k) lt is before =
    by_first b k bytes (λ e. lf-at bytes k (omega arith) is (λ j low high passes. before (suc j) (omega arith) (omega arith) passes))
    (λ e. before 0 (omega arith) (omega arith) e) (nat_eq b 10) refl

by_none : (b : ℕ) (bytes : List ℕ) → length bytes ≡ length_to_lf bytes → (nat_eq b 10 ≡ true → ⊥) → (t : Bool) → nat_eq b 10 ≡ t →
    length (b ∷ bytes) ≡ length_to_lf (b ∷ bytes)
by_none b bytes later never true e = absurd (never e)
by_none b bytes later never false e = rw e (omega (arith, later))

pub lf-nowhere : (bytes : List ℕ) → Nowhere (Passes (is_byte 10) bytes) 0 (length bytes) → length bytes ≡ length_to_lf bytes
lf-nowhere [] none = refl
lf-nowhere (b ∷ bytes) none =
    by_none b bytes (lf-nowhere bytes (λ j low high passes. none (suc j) (omega arith) (omega arith) passes)) (λ e. none 0 (omega arith) (omega arith) e)
    (nat_eq b 10) refl

pub ruleset lfs = (lf-at, lf-nowhere)

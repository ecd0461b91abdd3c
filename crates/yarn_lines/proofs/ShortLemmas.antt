-- Whether no piece of some bytes is long, where none is behind an LF of their first 65,537 bytes.
use Rattle.std.proofs.Common.{◌≡◌, ℕ, zero, suc, ◌+◌, ◌<◌, ◌≤◌, List, [], ◌∷◌, length, take, drop, Bool, true, false, nat_eq, None, refl, sym, ◌∙◌, arith, add-one, get_or}
use Rattle.std.specs.Prelude.{⊤}
use Rattle.std.proofs.lemmas.Bool.{eqb-true, le-ltb}
use Rattle.std.proofs.lemmas.List.{get_or-take}
use Rattle.memchr.specs.Find.{Passes, is_byte}
use Rattle.yarn_lines.specs.Lines.{onto, pieces_of, first_from, is_long}
use Rattle.yarn_lines.proofs.PieceLemmas.{first_from-none}

-- the first piece has at most that many bytes, and none behind it is long
abbrev Bounded : ℕ → List (List ℕ) → Type 0
Bounded most [] = ⊤
Bounded most (piece ∷ pieces) = (length piece ≤ most) × ((n : ℕ) → first_from is_long n pieces ≡ None)

none-past : (n : ℕ) (piece : List ℕ) (pieces : List (List ℕ)) → is_long piece ≡ false → first_from is_long (n + 1) pieces ≡ None →
    first_from is_long n (piece ∷ pieces) ≡ None
none-past n piece pieces short none = rw short none

-- the numbers of the pieces don't matter
none-any : (n m : ℕ) (pieces : List (List ℕ)) → first_from is_long n pieces ≡ None → first_from is_long m pieces ≡ None
none-any n m [] none = refl
none-any n m (piece ∷ pieces) none =
    let parts = first_from-none is_long n piece pieces none in
    none-past m piece pieces parts.0 (none-any (n + 1) (m + 1) pieces parts.1)

bounded-none : (most n : ℕ) (pieces : List (List ℕ)) → most ≤ 65536 → Bounded most pieces → first_from is_long n pieces ≡ None
bounded-none most n [] le bounded = refl
bounded-none most n (piece ∷ pieces) le bounded =
    none-past n piece pieces (le-ltb 65536 (length piece) (omega (arith, bounded.0))) (bounded.1 (n + 1))

bounded-onto : (most b : ℕ) (pieces : List (List ℕ)) → Bounded most pieces → Bounded (suc most) (onto b pieces)
bounded-onto most b [] bounded = (omega arith, λ n. refl)
bounded-onto most b (piece ∷ pieces) bounded = (omega (arith, bounded.0), bounded.1)

-- one more byte in front
bounded-more : (most b : ℕ) (bytes : List ℕ) → most ≤ 65536 → Bounded most (pieces_of bytes) → Bounded (suc most) (pieces_of (b ∷ bytes))
bounded-more most b bytes le bounded = by_test (nat_eq b 10) refl
  where
    by_test : (is : Bool) → nat_eq b 10 ≡ is → Bounded (suc most) (pieces_of (b ∷ bytes))
    by_test true is = rw is (omega arith, λ n. bounded-none most n (pieces_of bytes) le bounded)
    by_test false is = rw is (bounded-onto most b (pieces_of bytes) bounded)

bounded-all : (bytes : List ℕ) → length bytes ≤ 65536 → Bounded (length bytes) (pieces_of bytes)
bounded-all [] le = tt
bounded-all (b ∷ bytes) le = bounded-more (length bytes) b bytes (omega arith) (bounded-all bytes (omega arith))

bounded-to_lf : (bytes : List ℕ) (k : ℕ) → k < length bytes → k ≤ 65536 → get_or bytes k 0 ≡ 10 →
    first_from is_long 1 (pieces_of (drop (suc k) bytes)) ≡ None → Bounded k (pieces_of bytes)
bounded-to_lf [] k lt le is none = absurd (omega arith)
bounded-to_lf (b ∷ bytes) zero lt le is none = rw is (omega arith, λ n. none-any 1 n (pieces_of bytes) none)
bounded-to_lf (b ∷ bytes) (suc k) lt le is none =
    bounded-more k b bytes (omega arith) (bounded-to_lf bytes k (omega arith) (omega arith) is none)

-- no piece of bytes that are few is long
pub short-few : (bytes : List ℕ) → length bytes ≤ 65536 → first_from is_long 1 (pieces_of bytes) ≡ None
short-few bytes le = bounded-none (length bytes) 1 (pieces_of bytes) le (bounded-all bytes le)

-- none is long, where none is behind an LF of the first 65,537 bytes
pub short-to_lf : (bytes : List ℕ) (k : ℕ) → 65536 < length bytes → k < 65537 → Passes (is_byte 10) (take 65537 bytes) k →
    first_from is_long 1 (pieces_of (drop (k + 1) bytes)) ≡ None → first_from is_long 1 (pieces_of bytes) ≡ None
short-to_lf bytes k lt low is none =
    let lf = sym (get_or-take 65537 bytes k 0 low) ∙ eqb-true (get_or (take 65537 bytes) k 0) 10 is in
    bounded-none k 1 (pieces_of bytes) (omega arith) (bounded-to_lf bytes k (omega arith) (omega arith) lf (rw add-one at none))

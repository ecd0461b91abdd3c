-- The first line of some bytes, and what stands last.
use Rattle.std.proofs.Common.{◌≡◌, ℕ, zero, suc, ◌+◌, ◌<◌, ◌≤◌, List, [], ◌∷◌, length, take, drop, get_or, Bool, true, false, nat_eq, if◌then◌else◌, refl, sym, ap, arith, add-one, ◌∙◌}
use Rattle.std.proofs.lemmas.Bool.{eqb-true}
use Rattle.yarn_plural.specs.declared.token.Token.{Token}
use Rattle.yarn_plural.specs.Lines.{lines_of, onto, without_last, ends_with}
use Rattle.yarn_plural.specs.Steps.{length_to_lf, without_samples, is_samples}

abbrev Cut : List ℕ → Type 0
Cut bytes = lines_of bytes ≡ take (length_to_lf bytes + 1) bytes ∷ lines_of (drop (length_to_lf bytes + 1) bytes)

pub lines_of-cut : (bytes : List ℕ) → length_to_lf bytes < length bytes → Cut bytes
lines_of-cut [] lt = absurd (omega arith)
lines_of-cut (b ∷ bytes) lt = by_test (lines_of-cut bytes) (nat_eq b 10) refl
  where
    by_test : (length_to_lf bytes < length bytes → Cut bytes) → (t : Bool) → nat_eq b 10 ≡ t → Cut (b ∷ bytes)
    by_test later true t = rw t (ap (λ x. (x ∷ []) ∷ lines_of bytes) (sym (eqb-true b 10 t)))
    by_test later false t =
        let shorter : length_to_lf bytes < length bytes = let h = rw t at lt in omega arith in
        rw (t, later shorter, add-one, add-one) refl

pub lines_of-last : (bytes : List ℕ) → 0 < length bytes → length bytes ≤ length_to_lf bytes → lines_of bytes ≡ bytes ∷ []
lines_of-last [] lt le = absurd (omega arith)
lines_of-last (b ∷ []) lt le = by_test (nat_eq b 10) refl
  where
    by_test : (t : Bool) → nat_eq b 10 ≡ t → lines_of (b ∷ []) ≡ (b ∷ []) ∷ []
    by_test true t = let h = rw t at le in absurd (omega arith)
    by_test false t = rw t refl
lines_of-last (b ∷ c ∷ bytes) lt le = by_test (lines_of-last (c ∷ bytes) (omega arith)) (nat_eq b 10) refl
  where
    by_test : (length (c ∷ bytes) ≤ length_to_lf (c ∷ bytes) → lines_of (c ∷ bytes) ≡ (c ∷ bytes) ∷ []) →
        (t : Bool) → nat_eq b 10 ≡ t → lines_of (b ∷ c ∷ bytes) ≡ (b ∷ c ∷ bytes) ∷ []
    by_test later true t = let h = rw t at le in absurd (omega arith)
    by_test later false t =
        let h : length (c ∷ bytes) ≤ length_to_lf (c ∷ bytes) = let l = rw t at le in omega arith in
        rw t (ap (onto b) (later h))

pub ends_with-last : (x : ℕ) (bytes : List ℕ) (n : ℕ) → length bytes ≡ n + 1 → ends_with x bytes ≡ nat_eq (get_or bytes n 0) x
ends_with-last x [] n e = absurd (omega arith)
ends_with-last x (b ∷ []) n e = let z : n ≡ 0 = omega arith in rw z refl
ends_with-last x (b ∷ c ∷ bytes) zero e = absurd (omega arith)
ends_with-last x (b ∷ c ∷ bytes) (suc n) e = ends_with-last x (c ∷ bytes) n (omega arith)

pub without_last-take : (bytes : List ℕ) (n : ℕ) → length bytes ≡ n + 1 → without_last bytes ≡ take n bytes
without_last-take [] n e = absurd (omega arith)
without_last-take (b ∷ []) n e = let z : n ≡ 0 = omega arith in rw z refl
without_last-take (b ∷ c ∷ bytes) zero e = absurd (omega arith)
without_last-take (b ∷ c ∷ bytes) (suc n) e = ap (λ l. b ∷ l) (without_last-take (c ∷ bytes) n (omega arith))

pub without_samples-last : (ts : List Token) (d : Token) (n : ℕ) → length ts ≡ n + 1 → without_samples ts ≡ (if is_samples (get_or ts n d) then take n ts else ts)
without_samples-last [] d n e = absurd (omega arith)
without_samples-last (t ∷ []) d n e = let z : n ≡ 0 = omega arith in rw z refl
without_samples-last (t ∷ u ∷ ts) d zero e = absurd (omega arith)
without_samples-last (t ∷ u ∷ ts) d (suc n) e = ap (λ l. t ∷ l) (without_samples-last (u ∷ ts) d n (omega arith)) ∙ by_test (is_samples (get_or (u ∷ ts) n d))
  where
    by_test : (s : Bool) → t ∷ (if s then take n (u ∷ ts) else u ∷ ts) ≡ (if s then t ∷ take n (u ∷ ts) else t ∷ u ∷ ts)
    by_test true = refl
    by_test false = refl

pub samples-there : (ts : List Token) (d : Token) (n : ℕ) → length ts ≡ n + 1 → is_samples (get_or ts n d) ≡ true → without_samples ts ≡ take n ts
samples-there ts d n e is = without_samples-last ts d n e ∙ rw is refl

pub samples-not : (ts : List Token) (d : Token) (n : ℕ) → length ts ≡ n + 1 → is_samples (get_or ts n d) ≡ false → without_samples ts ≡ ts
samples-not ts d n e is = without_samples-last ts d n e ∙ rw is refl

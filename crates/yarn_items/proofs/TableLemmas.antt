-- A table of the bytes that no simple line has says what the definition says.
use Rattle.std.proofs.Common.{◌≡◌, ℕ, zero, suc, ◌+◌, ◌<◌, List, [], ◌∷◌, length, Bool, true, false, ◌&&◌, slice_index_or, refl, sym, ap, ◌∙◌, arith}
use Rattle.yarn_items.specs.Simple.{is_special}

abbrev pub same : Bool → Bool → Bool
same true b = b
same false true = false
same false false = true

same-is : (a b : Bool) → same a b ≡ true → a ≡ b
same-is true b e = sym e
same-is false true e = absurd cc
same-is false false e = refl

both : (a b : Bool) → (a && b) ≡ true → (a ≡ true) × (b ≡ true)
both true b e = (refl, e)
both false b e = absurd cc

-- from the byte n on
abbrev pub agrees : ℕ → List Bool → Bool
agrees n [] = true
agrees n (b ∷ table) = same b (is_special n) && agrees (n + 1) table

pub agrees-at : (table : List Bool) (n k : ℕ) → agrees n table ≡ true → k < length table → slice_index_or table k false ≡ is_special (n + k)
agrees-at [] n k e lt = absurd (omega arith)
agrees-at (b ∷ table) n zero e lt =
    let is = both (same b (is_special n)) (agrees (n + 1) table) e in
    let at : n ≡ n + 0 = omega arith in same-is b (is_special n) is.0 ∙ ap is_special at
agrees-at (b ∷ table) n (suc k) e lt =
    let is = both (same b (is_special n)) (agrees (n + 1) table) e in
    let at : n + 1 + k ≡ n + suc k = omega arith in agrees-at table (n + 1) k is.1 (omega arith) ∙ ap is_special at

-- What is written of a number is digits.
use Rattle.std.proofs.Common.{◌≡◌, ℕ, zero, suc, ◌+◌, ◌/◌, ◌%◌, ◌<◌, ◌≤◌, ◌==◌, List, [], ◌∷◌, Bool, true, false, nat_le, refl, arith}
use Rattle.std.specs.Fmt.{digits, digits_onto, digit_glyph}
use Rattle.std.specs.Fmt.{decimal}
use Rattle.std.specs.List.{list_all}
use Rattle.std.proofs.lemmas.Bool.{lt-ltb, le-leb, and_from, and_parts, leb-true}
use Rattle.yarn_expr.specs.Tokens.{is_digit}

glyph-digit : (d : ℕ) → d < 10 → is_digit (digit_glyph false d) ≡ true
glyph-digit d lt =
    let small = lt-ltb d 10 lt in
    rw small (and_from (nat_le 48 (48 + d)) (nat_le (48 + d) 57) (le-leb 48 (48 + d) (omega arith)) (le-leb (48 + d) 57 (omega arith)))

onto-digits : (k n : ℕ) (acc : List ℕ) → list_all is_digit acc ≡ true → list_all is_digit (digits_onto k 10 false n acc) ≡ true
onto-digits zero n acc all = all
onto-digits (suc k) n acc all = by_test (onto-digits k (n / 10) (digit_glyph false (n % 10) ∷ acc) more) (n / 10 == 0) refl
  where
    more : list_all is_digit (digit_glyph false (n % 10) ∷ acc) ≡ true
    more = and_from (is_digit (digit_glyph false (n % 10))) (list_all is_digit acc) (glyph-digit (n % 10) (omega arith)) all

    by_test : list_all is_digit (digits_onto k 10 false (n / 10) (digit_glyph false (n % 10) ∷ acc)) ≡ true → (t : Bool) → (n / 10 == 0) ≡ t → list_all is_digit (digits_onto (suc k) 10 false n acc) ≡ true
    by_test later true t = rw t more
    by_test later false t = rw t later

pub decimal-digits : (n : ℕ) → list_all is_digit (decimal n) ≡ true
unfolding digits
decimal-digits n = onto-digits 64 n [] refl

-- what holds of each digit
pub all-digits : (p : ℕ → Bool) (bytes : List ℕ) → ((b : ℕ) → 48 ≤ b → b ≤ 57 → p b ≡ true) → list_all is_digit bytes ≡ true → list_all p bytes ≡ true
all-digits p [] each all = refl
all-digits p (b ∷ bytes) each all =
    let parts = and_parts (is_digit b) (list_all is_digit bytes) all in
    let range = and_parts (nat_le 48 b) (nat_le b 57) parts.0 in
    and_from (p b) (list_all p bytes) (each b (leb-true 48 b range.0) (leb-true b 57 range.1)) (all-digits p bytes each parts.1)

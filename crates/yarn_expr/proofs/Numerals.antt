-- The digits of a number that is written, and their value.
use Rattle.std.proofs.Common.{◌≡◌, ℕ, ◌+◌, ◌-◌, ◌*◌, ◌%◌, ◌^◌, ◌<◌, List, [], ◌∷◌, ◌++◌, length, length-append, true, nat_le, refl, ◌∙◌, arith}
use Rattle.std.proofs.lemmas.Bool.{and_from}
use Rattle.std.proofs.lemmas.Bool.Decides.{nat_tests}
use Rattle.std.proofs.lemmas.Fmt.{decimal_by_steps}
use Rattle.std.specs.Fmt.{decimal}
use Rattle.yarn_expr.specs.Plain.{value_after}
use Rattle.yarn_expr.specs.Tokens.{is_digit}
use Rattle.yarn_expr.proofs.Runs.{AllOf, AllOf-append}

-- digits, at least one, that have this value
abbrev pub Writes : ℕ → List ℕ → Type 0
Writes n ds = AllOf is_digit ds × (value_after 0 ds ≡ n) × (0 < length ds)

is_digit-of : (d : ℕ) → d < 10 → is_digit (48 + d) ≡ true
is_digit-of d lt =
    let low : nat_le 48 (48 + d) ≡ true = grind (arith, nat_tests) in
    let high : nat_le (48 + d) 57 ≡ true = grind (arith, nat_tests) in
    and_from (nat_le 48 (48 + d)) (nat_le (48 + d) 57) low high

value_after-append : (n : ℕ) (ds : List ℕ) (c : ℕ) → value_after n (ds ++ c ∷ []) ≡ value_after n ds * 10 + (c - 48)
value_after-append n [] c = refl
value_after-append n (d ∷ ds) c = value_after-append (n * 10 + (d - 48)) ds c

pub decimal-facts : (n : ℕ) → n < 2 ^ 64 → Writes n (decimal n)
decimal-facts =
    decimal_by_steps Writes (λ n lt. ((is_digit-of n lt, tt), omega arith, omega arith))
    (λ n ds ten h.
    let last : n % 10 < 10 = omega arith in
    let value = h.1 in (
      AllOf-append is_digit ds ((48 + n % 10) ∷ []) h.0 (is_digit-of (n % 10) last, tt),
      value_after-append 0 ds (48 + n % 10) ∙ rw value (omega arith),
      omega (arith, length-append ds ((48 + n % 10) ∷ [])),
    ))

-- A number only grows by more digits.
use Rattle.std.proofs.Common.{◌≡◌, ℕ, ◌+◌, ◌-◌, ◌*◌, ◌≤◌, ◌<◌, List, [], ◌∷◌, length, drop, get_or, add-one, drop-cons, refl, arith}
use Rattle.yarn_cli.specs.Words.{number_behind}

pub number_behind-grows : (n : ℕ) (digits : List ℕ) → n ≤ number_behind n digits
number_behind-grows n [] = omega arith
number_behind-grows n (b ∷ digits) = let later = number_behind-grows (n * 10 + (b - 48)) digits in omega (arith, later)

-- a number that is too large after some of its digits is too large
pub too_large : (digits : List ℕ) (i number d n : ℕ) → i < length digits →
    number_behind number (drop i digits) ≡ number_behind 0 digits → d ≡ get_or digits i 0 - 48 → n < number * 10 + d → n < number_behind 0 digits
too_large digits i number d n lt so_far e more =
    let step : number_behind number (drop i digits) ≡ number_behind (number * 10 + (get_or digits i 0 - 48)) (drop (i + 1) digits)
    = rw (add-one, drop-cons digits i 0) refl in
    let bound = number_behind-grows (number * 10 + (get_or digits i 0 - 48)) (drop (i + 1) digits) in
    omega (arith, step, so_far, e, more, bound)

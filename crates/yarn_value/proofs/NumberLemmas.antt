-- More digits make no smaller number.
use Rattle.std.proofs.Common.{ℕ, suc, ◌<◌, length, get_or, drop, drop-cons, ◌+◌, ◌-◌, ◌*◌, ◌≤◌, List, [], ◌∷◌, arith}
use Rattle.yarn_value.specs.Numbers.{value_after}

pub value_after-least : (n : ℕ) (digits : List ℕ) → n ≤ value_after n digits
value_after-least n [] = omega arith
value_after-least n (c ∷ cs) = omega (arith, value_after-least (n * 10 + (c - 48)) cs)

-- a number that is too large stays so
pub value_after-large : (most value index : ℕ) (digits : List ℕ) → index < length digits → most ≤ value * 10 + (get_or digits index 0 - 48) →
    most ≤ value_after value (drop index digits)
value_after-large most value index digits lt le = rw (drop-cons digits index 0) (omega (arith, value_after-least (value * 10 + (get_or digits index 0 - 48)) (drop (suc index) digits)))

pub ruleset least = (value_after-least)

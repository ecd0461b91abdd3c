-- The calls that an object in memory counts, from 1, and those of them that are to fail.
use Rattle.std.specs.Prelude.{◌≡◌, ℕ, ◌+◌, ◌-◌, ◌^◌, min, List, Bool, true, nat_eq}
use Rattle.std.specs.List.{list_any}

-- one more; a count stays at the last value of a u64
abbrev pub one_more : ℕ → ℕ
one_more count = min (count + 1) (2 ^ 64 - 1)

-- after so many calls, the number of the next one stands in the list
abbrev pub is_to_fail : List ℕ → ℕ → Bool
is_to_fail failing made = list_any (λ nth. nat_eq nth (one_more made)) failing

abbrev pub IsToFail : List ℕ → ℕ → Type 0
IsToFail failing made = is_to_fail failing made ≡ true

-- The whole numbers of 64 bits, and how a text writes one.
use Rattle.std.specs.Prelude.{◌≤◌, ℕ, ◌+◌, ◌*◌, ◌-◌, ◌^◌, ℤ, pos, negsuc, neg_ℤ, nat_eq, nat_lt, nat_le, List, [], ◌∷◌, Bool, false, ◌&&◌, if◌then◌else◌, Option, Some, None, option_map, ⊤}
use Rattle.std.specs.List.{list_all}

-- from -2 ^ 63 to 2 ^ 63 - 1
abbrev pub fits : ℤ → Bool
fits (pos n) = nat_lt n (2 ^ 63)
fits (negsuc n) = nat_lt n (2 ^ 63)

abbrev pub is_digit : ℕ → Bool
is_digit c = nat_le 48 c && nat_le c 57

-- one decimal digit or more
abbrev pub are_digits : List ℕ → Bool
are_digits [] = false
are_digits (c ∷ cs) = list_all is_digit (c ∷ cs)

-- the number that the digits write behind a number
abbrev pub value_after : ℕ → List ℕ → ℕ
value_after n [] = n
value_after n (c ∷ cs) = value_after (n * 10 + (c - 48)) cs

abbrev pub digits_value : List ℕ → Option ℕ
digits_value cs = if are_digits cs then Some (value_after 0 cs) else None

abbrev pub negated : ℕ → ℤ
negated n = neg_ℤ (pos n)

-- an optional `-`, and one digit or more
abbrev pub signed_value : List ℕ → Option ℤ
signed_value [] = None
signed_value (c ∷ cs) = if nat_eq c 45 then option_map negated (digits_value cs) else option_map pos (digits_value (c ∷ cs))

abbrev pub fitting : Option ℤ → Option ℤ
fitting None = None
fitting (Some z) = if fits z then Some z else None

-- the number of 64 bits that the text writes
abbrev pub signed_number : List ℕ → Option ℤ
signed_number text = fitting (signed_value text)

-- no number of 64 bits without a sign
abbrev pub IsLarge : Option ℕ → Type 0
IsLarge None = ⊤
IsLarge (Some n) = 2 ^ 64 ≤ n

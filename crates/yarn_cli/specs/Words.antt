-- What single words of a command may stand for (docs/commands.md, Words).
use Rattle.std.specs.Prelude.{ℕ, ◌+◌, ◌-◌, ◌*◌, List, [], ◌∷◌, length, nat_eq, nat_lt, nat_le, Bool, false, ◌&&◌, if◌then◌else◌, Option, Some, None}
use Rattle.std.specs.List.{list_all}

-- a name: it isn't empty, doesn't begin with `-` and has at most 65,536 bytes
abbrev pub is_name_word : List ℕ → Bool
is_name_word [] = false
is_name_word (b ∷ bytes) = if nat_eq b 45 then false else nat_lt (length (b ∷ bytes)) 65537

abbrev pub is_digit : ℕ → Bool
is_digit b = nat_lt 47 b && nat_lt b 58

-- 1 to 20 decimal digits
abbrev pub is_number : List ℕ → Bool
is_number word = nat_lt 0 (length word) && (nat_lt (length word) 21 && list_all is_digit word)

-- the number of digits that stand behind those of a number
abbrev pub number_behind : ℕ → List ℕ → ℕ
number_behind n [] = n
number_behind n (b ∷ digits) = number_behind (n * 10 + (b - 48)) digits

-- the number that the word gives, where it is one from `least` to `most`
abbrev pub number_in : ℕ → ℕ → List ℕ → Option ℕ
number_in least most word =
    if is_number word && (nat_le least (number_behind 0 word) && nat_le (number_behind 0 word) most)
    then Some (number_behind 0 word) else None

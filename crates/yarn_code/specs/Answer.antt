-- An answer of the player, in the bytes of the input (docs/formats.md, Answers).
use Rattle.std.specs.Prelude.{ℕ, List, [], ◌∷◌, take, drop, length, Bool, nat_eq, nat_le, ◌&&◌, ◌||◌, if◌then◌else◌, Option, Some, None}
use Rattle.std.specs.List.{list_all}
use Rattle.yarn_value.specs.Numbers.{is_digit, value_after}

-- the bytes up to and with the first LF, or all where there is none
unfoldable pub to_lf : List ℕ → List ℕ
to_lf [] = []
to_lf (b ∷ bytes) = if nat_eq b 10 then b ∷ [] else b ∷ to_lf bytes

-- the bytes that an answer takes
unfoldable pub taken : List ℕ → List ℕ
taken bytes = to_lf (take 4096 bytes)

-- the bytes before the first LF, or all where there is none
unfoldable pub before_lf : List ℕ → List ℕ
before_lf [] = []
before_lf (b ∷ bytes) = if nat_eq b 10 then [] else b ∷ before_lf bytes

-- a space, a tab or a CR
unfoldable pub is_blank : ℕ → Bool
is_blank b = nat_eq b 32 || (nat_eq b 9 || nat_eq b 13)

-- without the blanks at the front
unfoldable pub behind_blanks : List ℕ → List ℕ
behind_blanks [] = []
behind_blanks (b ∷ bytes) = if is_blank b then behind_blanks bytes else b ∷ bytes

-- without the blanks at the end
unfoldable pub before_blanks : List ℕ → List ℕ
before_blanks [] = []
before_blanks (b ∷ bytes) = if list_all is_blank (b ∷ bytes) then [] else b ∷ before_blanks bytes

unfoldable pub trimmed : List ℕ → List ℕ
trimmed bytes = before_blanks (behind_blanks bytes)

-- one to nine decimal digits, and nothing else
unfoldable pub is_short : List ℕ → Bool
is_short bytes = list_all is_digit bytes && (nat_le 1 (length bytes) && nat_le (length bytes) 9)

-- the value of one to nine decimal digits, and else 0
unfoldable pub number_of : List ℕ → ℕ
number_of bytes = if is_short bytes then value_after 0 bytes else 0

-- the number of an answer, and the bytes left behind it
pub record Answered : Type 0 where
  pub number : ℕ
  pub rest : List ℕ

abbrev pub answered : List ℕ → Answered
answered bytes = record { number = number_of (trimmed (before_lf (taken bytes))); rest = drop (length (taken bytes)) bytes }

-- the next answer; none where no bytes are left
unfoldable pub answer_of : List ℕ → Option Answered
answer_of [] = None
answer_of (b ∷ bytes) = Some (answered (b ∷ bytes))

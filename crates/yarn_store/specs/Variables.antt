-- The pair for which a line of a variables file stands, and how a pair is written (docs/formats.md, Variables file).
use Rattle.std.specs.Prelude.{◌≡◌, ◌≤◌, ℕ, ℤ, List, [], ◌∷◌, ◌++◌, length, nat_eq, nat_lt, Bool, true, false, ◌&&◌, if◌then◌else◌, Some, IsUtf8, codes}
use Rattle.std.specs.Str.{chars}
use Rattle.std.specs.Fmt.{signed_decimal}
use Rattle.yarn_base.specs.Name.{is_variable_of}
use Rattle.yarn_value.specs.Numbers.{signed_number}
use Rattle.yarn_value.specs.Quoting.{quoted}
use Rattle.yarn_value.specs.declared.value.Value.{Value}
use Rattle.yarn_value.specs.declared.value.Value.TheVariants.{Number, Str, Truth}
use Rattle.yarn_value.specs.Pairs.{Pair}

abbrev pub behind_minus : List ℕ → List ℕ
behind_minus [] = []
behind_minus (c ∷ cs) = if nat_eq c 45 then cs else c ∷ cs

-- the first of two digits or more is a zero
abbrev pub has_spare_zero : List ℕ → Bool
has_spare_zero [] = false
has_spare_zero (c ∷ cs) = nat_eq c 48 && nat_lt 0 (length cs)

-- an optional `-` and digits, within 64 bits, without a spare leading zero and not `-0`
pub record SpellsNumber (text : List ℕ) (n : ℤ) : Type 0 where
  pub number : signed_number text ≡ Some n
  pub no_spare_zero : has_spare_zero (behind_minus text) ≡ false
  pub no_minus_zero : ¬ (text ≡ codes "-0")

-- a number, `true`, `false`, or the quoted string of a text of at most 65,536 bytes
abbrev pub Spells : List ℕ → Value → Type 0
Spells spelled (Number n) = SpellsNumber spelled n
Spells spelled (Truth true) = spelled ≡ codes "true"
Spells spelled (Truth false) = spelled ≡ codes "false"
Spells spelled (Str text) = (spelled ≡ quoted text) × (length text ≤ 65536)

-- a line is UTF-8: a variable, ` = ` and a value
pub record StandsFor (line : List ℕ) (p : Pair) : Type 0 where
  pub spelled : List ℕ
  pub parts : line ≡ p.0 ++ (codes " = " ++ spelled)
  pub utf8 : IsUtf8 line
  pub variable : is_variable_of (chars p.0) ≡ true
  pub value : Spells spelled p.1

-- the one way in which a value is written
abbrev pub spelling : Value → List ℕ
spelling (Number n) = signed_decimal n
spelling (Truth true) = codes "true"
spelling (Truth false) = codes "false"
spelling (Str text) = quoted text

abbrev pub pair_line : Pair → List ℕ
pair_line p = p.0 ++ (codes " = " ++ spelling p.1)

-- each pair on a line of its own, with an LF at its end
abbrev pub vars_text : List Pair → List ℕ
vars_text [] = []
vars_text (p ∷ ps) = pair_line p ++ 10 ∷ vars_text ps

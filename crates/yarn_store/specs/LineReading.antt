-- The pair that is read from a line of a variables file, as a function (docs/formats.md, Variables file).
use Rattle.std.specs.Prelude.{◌≡◌, ◌↔◌, ℕ, List, [], ◌∷◌, length, take, drop, nat_eq, nat_le, Bool, true, false, ◌&&◌, ◌||◌, if◌then◌else◌, Option, Some, None, option_map, codes}
use Rattle.std.specs.Option.{option_or}
use Rattle.std.specs.Str.{chars, is_utf8}
use Rattle.yarn_base.specs.Name.{is_variable_of}
use Rattle.yarn_value.specs.Numbers.{signed_number}
use Rattle.yarn_value.specs.declared.value.Value.{Value}
use Rattle.yarn_value.specs.declared.value.Value.TheVariants.{Number, Str, Truth}
use Rattle.yarn_value.specs.Pairs.{Pair, same_name as same_bytes}
use Rattle.yarn_store.specs.Variables.{StandsFor, behind_minus, has_spare_zero}

abbrev pub number_of : List ℕ → Option Value
number_of text = if has_spare_zero (behind_minus text) || same_bytes text (codes "-0") then None else option_map Number (signed_number text)

abbrev pub truth_of : List ℕ → Option Value
truth_of text = if same_bytes text (codes "true") then Some (Truth true) else if same_bytes text (codes "false") then Some (Truth false) else None

-- the byte for which a backslash and this letter stand
abbrev pub meant : ℕ → Option ℕ
meant l =
    if nat_eq l 92 then Some 92
    else if nat_eq l 34 then Some 34
    else if nat_eq l 110 then Some 10
    else if nat_eq l 114 then Some 13
    else None

-- a byte other than an LF and a CR stands for itself
abbrev pub itself : ℕ → Option ℕ
itself b = if nat_eq b 10 || nat_eq b 13 then None else Some b

abbrev pub with_byte : Option ℕ → Option (List ℕ) → Option (List ℕ)
with_byte None text = None
with_byte (Some b) text = option_map (λ bytes. b ∷ bytes) text

abbrev pub empty_text : List ℕ → Option (List ℕ)
empty_text [] = Some []
empty_text (b ∷ bytes) = None

-- the text behind the first quote, up to the quote that ends it; a backslash may have stood before the first byte
abbrev pub text_behind : List ℕ → Bool → Option (List ℕ)
text_behind [] escaped = None
text_behind (b ∷ bytes) true = with_byte (meant b) (text_behind bytes false)
text_behind (b ∷ bytes) false =
    if nat_eq b 34 then empty_text bytes
    else if nat_eq b 92 then text_behind bytes true
    else with_byte (itself b) (text_behind bytes false)

abbrev pub unquoted : List ℕ → Option (List ℕ)
unquoted [] = None
unquoted (b ∷ bytes) = if nat_eq b 34 then text_behind bytes false else None

abbrev pub short_text : Option (List ℕ) → Option Value
short_text None = None
short_text (Some text) = if nat_le (length text) 65536 then Some (Str text) else None

abbrev pub value_of : List ℕ → Option Value
value_of text = option_or (truth_of text) (option_or (number_of text) (short_text (unquoted text)))

-- what stands before the first space, and what stands from it on
abbrev pub before_space : List ℕ → List ℕ
before_space [] = []
before_space (b ∷ bytes) = if nat_eq b 32 then [] else b ∷ before_space bytes

abbrev pub from_space : List ℕ → List ℕ
from_space [] = []
from_space (b ∷ bytes) = if nat_eq b 32 then b ∷ bytes else from_space bytes

abbrev pub value_behind : List ℕ → Option Value
value_behind bytes = if same_bytes (take 3 bytes) (codes " = ") then value_of (drop 3 bytes) else None

-- the variable is what stands before the first space, which begins ` = `
abbrev pub pair_of : List ℕ → Option Pair
pair_of line =
    if is_utf8 line && is_variable_of (chars (before_space line))
    then option_map (λ value. (before_space line, value)) (value_behind (from_space line))
    else None

-- the function reads exactly the lines that stand for a pair, as that pair
abbrev pub LinesAreRead : Type 0
LinesAreRead = (line : List ℕ) (p : Pair) → (pair_of line ≡ Some p) ↔ StandsFor line p

-- The kind and the text of a value.
use Rattle.std.specs.Prelude.{◌≤◌, ℕ, List, length, codes, true, false, ⊤}
use Rattle.std.specs.Fmt.{signed_decimal}
use Rattle.yarn_value.specs.declared.value.Value.{Value}
use Rattle.yarn_value.specs.declared.value.Value.TheVariants.{Number, Str, Truth}
use Rattle.yarn_value.specs.declared.value.Kind.{Kind}
use Rattle.yarn_value.specs.declared.value.Kind.TheVariants as kind

abbrev pub kind_of : Value → Kind
kind_of (Number n) = kind.Number
kind_of (Str text) = kind.Str
kind_of (Truth b) = kind.Truth

-- decimal digits, with `-` before those of a negative number; the text; `True` or `False`
abbrev pub text_of_value : Value → List ℕ
text_of_value (Number n) = signed_decimal n
text_of_value (Str text) = text
text_of_value (Truth true) = codes "True"
text_of_value (Truth false) = codes "False"

-- a text of at most 65,536 bytes, a number or a truth
abbrev pub IsShort : Value → Type 0
IsShort (Number n) = ⊤
IsShort (Str text) = length text ≤ 65536
IsShort (Truth b) = ⊤

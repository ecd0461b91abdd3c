-- Words of private functions.
use Rattle.std.specs.Prelude.{◌≡◌, ◌<◌, ◌+◌, ◌≢◌, ◌⊎◌, ℕ, ℤ, List, [], ◌∷◌, ◌++◌, length, slice_index, nat_eq, nat_lt, not, ◌&&◌, if◌then◌else◌, Bool, true, false, Some, None, IsUtf8, ⊤}
use Rattle.yarn_value.specs.Numbers.{fits}
use Rattle.yarn_value.specs.declared.value.Value.{Value}
use Rattle.yarn_value.specs.declared.value.Value.TheVariants.{Number, Str, Truth}
use Rattle.yarn_value.specs.Pairs.{Pair}
use Rattle.yarn_store.specs.Variables.{StandsFor, Spells, SpellsNumber, pair_line}
use Rattle.yarn_store.specs.Reading.{after_line}

-- how many bytes stand before the first LF
abbrev pub length_to_lf : List ℕ → ℕ
length_to_lf [] = 0
length_to_lf (b ∷ bytes) = if nat_eq b 10 then 0 else length_to_lf bytes + 1

-- without one CR that is the last byte
abbrev pub without_cr : List ℕ → List ℕ
without_cr [] = []
without_cr (b ∷ []) = if nat_eq b 13 then [] else b ∷ []
without_cr (b ∷ c ∷ bytes) = b ∷ without_cr (c ∷ bytes)

-- a line that is UTF-8 is cut at its first space, which begins ` = `
pub record IsCut (line name spelled : List ℕ) : Type 0 where
  pub parts : line ≡ name ++ 32 ∷ 61 ∷ 32 ∷ spelled
  pub utf8 : IsUtf8 line
  pub no_space : (i : ℕ) → i < length name → slice_index name i ≢ 32

abbrev pub CanBeCut : List ℕ → Type 0
CanBeCut line = (name : List ℕ) × (spelled : List ℕ) × IsCut line name spelled

abbrev pub IsPairLine : List ℕ → Type 0
IsPairLine line = (p : Pair) × StandsFor line p

abbrev pub IsNumber : List ℕ → Type 0
IsNumber text = (n : ℤ) × SpellsNumber text n

abbrev pub begins_with_zero : List ℕ → Bool
begins_with_zero [] = false
begins_with_zero (b ∷ bytes) = nat_eq b 48

-- no `+`, no `-0` and no zero before a further byte stands at the front
abbrev pub begins_plainly : List ℕ → Bool
begins_plainly [] = true
begins_plainly (b ∷ bytes) = not (nat_eq b 43) && not (nat_eq b 45 && begins_with_zero bytes) && not (nat_eq b 48 && nat_lt 0 (length bytes))

-- a number or a truth
abbrev pub IsPlain : List ℕ → Type 0
IsPlain spelled = IsNumber spelled ⊎ ((b : Bool) × Spells spelled (Truth b))

abbrev pub IsShortQuoted : List ℕ → Type 0
IsShortQuoted spelled = (text : List ℕ) × Spells spelled (Str text)

abbrev pub IsValue : List ℕ → Type 0
IsValue spelled = (v : Value) × Spells spelled v

-- whether the line was added, or is bad
abbrev pub AddsOr : List Pair → List ℕ → List Pair → Bool → Type 0
AddsOr before line after true = after_line before line ≡ Some after
AddsOr before line after false = after_line before line ≡ None

-- a number of 64 bits
abbrev pub IsRanged : Value → Type 0
IsRanged (Number n) = fits n ≡ true
IsRanged (Str text) = ⊤
IsRanged (Truth b) = ⊤

-- the line of the pair may be read again
abbrev pub IsReadable : Pair → Type 0
IsReadable p = IsUtf8 (pair_line p) × IsRanged p.1

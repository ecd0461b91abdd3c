-- Templates: texts with holes, read from the left over their bytes.
use Rattle.std.specs.Prelude.{ℕ, ◌+◌, ◌*◌, ◌-◌, nat_eq, nat_lt, nat_le, List, [], ◌∷◌, ◌++◌, map, slice_get, Bool, not, ◌&&◌, ◌||◌, if◌then◌else◌, Option, Some, None}
use Rattle.yarn_value.specs.Values.{text_of_value}
use Rattle.yarn_value.specs.Numbers.{is_digit}
use Rattle.yarn_value.specs.declared.value.Value.{Value}

-- ---- reading

-- a byte that stands for itself; a brace behind a backslash; a placeholder
pub data Mark : Type 0 where
  Stands : ℕ → Mark
  Brace : ℕ → Mark
  Placeholder : ℕ → Mark

-- what stands right before: nothing of meaning, a backslash, `{`, or `{` and the digits of a number
pub data Place : Type 0 where
  Plain : Place
  Behind : Place
  Opened : Place
  Digits : ℕ → Place

abbrev pub before : Mark → Option (List Mark) → Option (List Mark)
before mark None = None
before mark (Some marks) = Some (mark ∷ marks)

-- `{` or `}`
abbrev pub is_brace : ℕ → Bool
is_brace b = nat_eq b 123 || nat_eq b 125

-- the marks of what follows; None where a `{` begins no placeholder below the number of holes.
-- A number has no leading zero, so no digit follows a 0. Behind a backslash a brace stands for
-- itself; before any other byte the backslash stays, and so does that byte.
abbrev pub marks : ℕ → Place → List ℕ → Option (List Mark)
marks holes Plain [] = Some []
marks holes Plain (b ∷ bs) =
    if nat_eq b 92 then marks holes Behind bs
    else if nat_eq b 123 then marks holes Opened bs
    else before (Stands b) (marks holes Plain bs)
marks holes Behind [] = Some (Stands 92 ∷ [])
marks holes Behind (b ∷ bs) =
    if is_brace b then before (Brace b) (marks holes Plain bs)
    else before (Stands 92) (before (Stands b) (marks holes Plain bs))
marks holes Opened [] = None
marks holes Opened (b ∷ bs) = if is_digit b then marks holes (Digits (b - 48)) bs else None
marks holes (Digits k) [] = None
marks holes (Digits k) (b ∷ bs) =
    if nat_eq b 125 then (if nat_lt k holes then before (Placeholder k) (marks holes Plain bs) else None)
    else if is_digit b && not (nat_eq k 0) then marks holes (Digits (k * 10 + (b - 48))) bs
    else None

-- ---- limits

abbrev pub placeholders : List Mark → ℕ
placeholders [] = 0
placeholders (Stands b ∷ marks) = placeholders marks
placeholders (Brace b ∷ marks) = placeholders marks
placeholders (Placeholder k ∷ marks) = 1 + placeholders marks

-- the bytes of the text, where each placeholder counts as three
abbrev pub size : List Mark → ℕ
size [] = 0
size (Stands b ∷ marks) = 1 + size marks
size (Brace b ∷ marks) = 2 + size marks
size (Placeholder k ∷ marks) = 3 + size marks

-- ---- what a template is

pub data Part : Type 0 where
  Byte : ℕ → Part
  Hole : ℕ → Part

abbrev pub part_of : Mark → Part
part_of (Stands b) = Byte b
part_of (Brace b) = Byte b
part_of (Placeholder k) = Hole k

abbrev pub limited : List Mark → Option (List Part)
limited marks = if nat_le (placeholders marks) 64 && nat_le (size marks) 65536 then Some (map part_of marks) else None

abbrev pub template_found : Option (List Mark) → Option (List Part)
template_found None = None
template_found (Some marks) = limited marks

-- the parts of the template that the text is, for so many holes; None where it is none
abbrev pub template_of : List ℕ → ℕ → Option (List Part)
template_of text holes = template_found (marks holes Plain text)

-- ---- expanding

abbrev pub text_at : Option Value → List ℕ
text_at None = []
text_at (Some value) = text_of_value value

-- the parts joined, with the text of its value in place of each hole
abbrev pub expanded : List Part → List Value → List ℕ
expanded [] values = []
expanded (Byte b ∷ parts) values = b ∷ expanded parts values
expanded (Hole k ∷ parts) values = text_at (slice_get values k) ++ expanded parts values

-- what contracts see of a template
pub record Form : Type 0 where
  pub parts : List Part
  pub holes : ℕ

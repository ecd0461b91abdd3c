-- How a template's text is written, piece by piece: what the reading from the left finds.
use Rattle.std.specs.Prelude.{◌≡◌, ◌≢◌, ◌<◌, ◌↔◌, ℕ, nat_eq, List, [], ◌∷◌, ◌++◌, Bool, true, not, if◌then◌else◌, Some, ⊤}
use Rattle.yarn_value.specs.Numbers.{are_digits, value_after}
use Rattle.yarn_value.specs.Templates.{Mark, Stands, Brace, Placeholder, Plain, marks, is_brace}

-- a byte for itself; a backslash and a byte; `{`, the digits of a number, and `}`
pub data Written : Type 0 where
  Itself : ℕ → Written
  Pair : ℕ → Written
  Numbered : List ℕ → Written

abbrev pub spelling : Written → List ℕ
spelling (Itself b) = b ∷ []
spelling (Pair b) = 92 ∷ b ∷ []
spelling (Numbered digits) = 123 ∷ (digits ++ 125 ∷ [])

abbrev pub marks_of : Written → List Mark
marks_of (Itself b) = Stands b ∷ []
marks_of (Pair b) = if is_brace b then Brace b ∷ [] else Stands 92 ∷ Stands b ∷ []
marks_of (Numbered digits) = Placeholder (value_after 0 digits) ∷ []

-- 0 stands first only where it stands alone
abbrev pub no_spare_zero : List ℕ → Bool
no_spare_zero [] = true
no_spare_zero (d ∷ []) = true
no_spare_zero (d ∷ e ∷ digits) = not (nat_eq d 48)

-- a backslash and a `{` don't stand for themselves; a number is below the number of holes
abbrev pub IsProper : ℕ → Written → Type 0
IsProper holes (Itself b) = (b ≢ 92) × (b ≢ 123)
IsProper holes (Pair b) = ⊤
IsProper holes (Numbered digits) = (are_digits digits ≡ true) × (no_spare_zero digits ≡ true) × (value_after 0 digits < holes)

abbrev pub AllProper : ℕ → List Written → Type 0
AllProper holes [] = ⊤
AllProper holes (piece ∷ pieces) = IsProper holes piece × AllProper holes pieces

-- the pieces joined, before an end
abbrev pub spelled : List Written → List ℕ → List ℕ
spelled [] end = end
spelled (piece ∷ pieces) end = spelling piece ++ spelled pieces end

abbrev pub all_marks : List Written → List Mark → List Mark
all_marks [] end = end
all_marks (piece ∷ pieces) end = marks_of piece ++ all_marks pieces end

-- a backslash with nothing behind it may stand at the end
abbrev pub end_text : Bool → List ℕ
end_text lone = if lone then 92 ∷ [] else []

abbrev pub end_marks : Bool → List Mark
end_marks lone = if lone then Stands 92 ∷ [] else []

-- the text is written by proper pieces whose marks these are
pub record IsSpelled (holes : ℕ) (text : List ℕ) (found : List Mark) : Type 0 where
  pub pieces : List Written
  pub lone : Bool
  pub proper : AllProper holes pieces
  pub text_is : text ≡ spelled pieces (end_text lone)
  pub marks_are : found ≡ all_marks pieces (end_marks lone)

-- a text is read exactly where it is written so, and as the marks of its pieces
abbrev pub MarksAreSpelled : Type 0
MarksAreSpelled = (holes : ℕ) (text : List ℕ) (found : List Mark) → (marks holes Plain text ≡ Some found) ↔ IsSpelled holes text found

-- What one step of reading a template finds.
use Rattle.std.specs.Prelude.{◌≡◌, ◌≤◌, ◌+◌, ℕ, List, [], ◌∷◌, ◌++◌, map, length, Bool, false, Option, Some, None, IsUtf8, encode_utf8}
use Rattle.yarn_value.specs.Numbers.{is_digit}
use Rattle.yarn_value.specs.Templates as templates
use Rattle.yarn_value.specs.Templates.{Place, marks, Stands, Brace, Placeholder, Byte, Part, placeholders, size}
use Rattle.yarn_value.specs.declared.mark.Mark.{Mark}
use Rattle.yarn_value.specs.declared.mark.Mark.TheVariants.{Char, Backslashes, OpenBrace, CloseBrace, Hole}
use Rattle.yarn_value.specs.declared.mark.Step.{Step}

abbrev pub marks_in : Mark → List templates.Mark
marks_in (Char c) = map Stands (encode_utf8 c)
marks_in Backslashes = Stands 92 ∷ Stands 92 ∷ []
marks_in OpenBrace = Brace 123 ∷ []
marks_in CloseBrace = Brace 125 ∷ []
marks_in (Hole k) = Placeholder k ∷ []

abbrev pub all_before : List templates.Mark → Option (List templates.Mark) → Option (List templates.Mark)
all_before front None = None
all_before front (Some marks) = Some (front ++ marks)

-- the text at that place begins with the mark
pub record IsStep (holes : ℕ) (place : Place) (text : List ℕ) (step : Step) : Type 0 where
  pub goes : marks holes place text ≡ all_before (marks_in step.mark) (marks holes templates.Plain step.rest.now)
  pub utf8 : IsUtf8 step.rest.now
  pub shorter : length step.rest.now ≤ length text

-- a digit stands at the front
abbrev pub digit_next : List ℕ → Bool
digit_next [] = false
digit_next (b ∷ bs) = is_digit b

pub record IsDigit (text : List ℕ) (digit : ℕ) (rest : List ℕ) : Type 0 where
  pub bytes : text ≡ (digit + 48) ∷ rest
  pub small : digit ≤ 9
  pub utf8 : IsUtf8 rest

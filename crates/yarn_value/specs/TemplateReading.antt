-- What reading a template answers, and what it holds on the way.
use Rattle.std.specs.Prelude.{◌≡◌, ◌<◌, ◌+◌, ℕ, List, ◌++◌, map, nat_eq, Bool, not, ◌||◌, Option, Some, None, Result, Ok, Err, ⊤, ◌⊎◌}
use Rattle.yarn_value.specs.Templates.{Mark, Part, Byte, Form, placeholders, size}
use Rattle.yarn_value.specs.Pieces.{parts_of}
use Rattle.yarn_value.specs.declared.template.Piece.{Piece}
use Rattle.yarn_value.specs.declared.reading.TemplateFault.{TemplateFault}
use Rattle.yarn_value.specs.declared.reading.TemplateFault.TheVariants.{NotTemplate, Memory}

-- the parts that are meant, none, or want of memory, which is free
abbrev pub Reads : Result Form TemplateFault → Option (List Part) → Type 0
Reads (Ok template) meant = meant ≡ Some template.parts
Reads (Err NotTemplate) meant = meant ≡ None
Reads (Err Memory) meant = ⊤

-- a limit is passed with these marks behind what was counted
abbrev pub IsTooMuch : ℕ → ℕ → List Mark → Type 0
IsTooMuch bytes holes marks = (65536 < bytes + size marks) ⊎ (64 < holes + placeholders marks)

-- the parts of the pieces, and a run of characters behind them
abbrev pub built : List Piece → List ℕ → List Part
built pieces run = parts_of pieces ++ map Byte run

-- the byte is neither a backslash nor `{`, so it stands for itself
abbrev pub is_plain : ℕ → Bool
is_plain b = not (nat_eq b 92 || nat_eq b 123)

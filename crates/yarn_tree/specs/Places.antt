-- The first of the files that has a place, and the earlier of two places (docs/language.md, Refusals of a project).
use Rattle.std.specs.Prelude.{ℕ, ◌+◌, List, [], ◌∷◌, nat_lt, nat_eq, Bool, ◌&&◌, ◌||◌, if◌then◌else◌, Option, Some, None}
use Rattle.yarn_base.specs.declared.Place.{Place}
use Rattle.yarn_base.specs.declared.SourceFile.{SourceFile}
use Rattle.yarn_nodes.specs.Places.{or_later}

-- a line of the file with that number
abbrev pub at_file : ℕ → Option ℕ → Option Place
at_file file None = None
at_file file (Some line) = Some (record { file = file; line = line })

abbrev pub first_place : {A : Type 0} → (A → Option Place) → List A → Option Place
first_place place_in [] = None
first_place place_in (x ∷ xs) = or_later (place_in x) (first_place place_in xs)

-- the same of files, the first of which has that number
abbrev pub first_line : (SourceFile → Option ℕ) → ℕ → List SourceFile → Option Place
first_line line_in file [] = None
first_line line_in file (source ∷ sources) = or_later (at_file file (line_in source)) (first_line line_in (file + 1) sources)

-- in order of files and lines
abbrev pub is_before : Place → Place → Bool
is_before a b = nat_lt a.file b.file || (nat_eq a.file b.file && nat_lt a.line b.line)

abbrev pub earliest : Option Place → Option Place → Option Place
earliest None b = b
earliest (Some a) None = Some a
earliest (Some a) (Some b) = if is_before b a then Some b else Some a

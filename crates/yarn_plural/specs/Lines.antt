-- The lines of a plural file, cut out of the whole list of its bytes (docs/formats.md, Plural rules).
use Rattle.std.specs.Prelude.{ℕ, List, [], ◌∷◌, nat_eq, Bool, false, if◌then◌else◌, Option, Some, None}

-- the byte stands at the front of the first line
abbrev pub onto : ℕ → List (List ℕ) → List (List ℕ)
onto b [] = (b ∷ []) ∷ []
onto b (line ∷ lines) = (b ∷ line) ∷ lines

-- what LFs end, each with its LF, and what stands behind the last LF where that isn't empty
abbrev pub lines_of : List ℕ → List (List ℕ)
lines_of [] = []
lines_of (b ∷ bytes) = if nat_eq b 10 then (10 ∷ []) ∷ lines_of bytes else onto b (lines_of bytes)

abbrev pub without_last : List ℕ → List ℕ
without_last [] = []
without_last (b ∷ []) = []
without_last (b ∷ c ∷ bytes) = b ∷ without_last (c ∷ bytes)

abbrev pub ends_with : ℕ → List ℕ → Bool
ends_with x [] = false
ends_with x (b ∷ []) = nat_eq b x
ends_with x (b ∷ c ∷ bytes) = ends_with x (c ∷ bytes)

abbrev pub without_cr : List ℕ → List ℕ
without_cr text = if ends_with 13 text then without_last text else text

-- a line without its LF and one CR before it; a CR that is the last byte is no end, and such a line has no text
abbrev pub without_end : List ℕ → Option (List ℕ)
without_end line = if ends_with 10 line then Some (without_cr (without_last line)) else if ends_with 13 line then None else Some line

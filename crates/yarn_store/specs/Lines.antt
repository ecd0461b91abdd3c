-- The lines of a variables file, cut out of the whole list of its bytes (docs/formats.md, Variables file).
use Rattle.std.specs.Prelude.{ℕ, List, [], ◌∷◌, nat_eq, Bool, false, ◌&&◌, if◌then◌else◌}

abbrev pub begins_with_lf : List ℕ → Bool
begins_with_lf [] = false
begins_with_lf (b ∷ bytes) = nat_eq b 10

-- the byte stands at the front of the first line
abbrev pub onto : ℕ → List (List ℕ) → List (List ℕ)
onto b [] = (b ∷ []) ∷ []
onto b (line ∷ lines) = (b ∷ line) ∷ lines

-- what LFs end, and what stands behind the last LF where that isn't empty; a CR right before an LF is dropped
abbrev pub lines_of : List ℕ → List (List ℕ)
lines_of [] = []
lines_of (b ∷ bytes) =
    if nat_eq b 10 then [] ∷ lines_of bytes
    else if nat_eq b 13 && begins_with_lf bytes then lines_of bytes
    else onto b (lines_of bytes)

-- What a variables file is read as: a store, or its first line that is refused (docs/formats.md, Variables file).
use Rattle.std.specs.Prelude.{◌≡◌, ◌+◌, ℕ, List, [], ◌∷◌, ◌++◌, if◌then◌else◌, is_some, Option, Some, None, Result, Ok, Err, ⊤}
use Rattle.yarn_value.specs.Pairs.{Pair, value_under}
use Rattle.yarn_store.specs.Lines.{lines_of}
use Rattle.yarn_store.specs.LineReading.{pair_of}
use Rattle.yarn_store.specs.declared.read.VarsFault.{VarsFault}
use Rattle.yarn_store.specs.declared.read.VarsFault.TheVariants.{BadVars, Memory}

-- the pairs of a store, or the number of a line
pub data VarsReading : Type 0 where
  Holds : List Pair → VarsReading
  BadAt : ℕ → VarsReading

-- the pair stands last, where its name didn't stand before
abbrev pub with_pair : List Pair → Option Pair → Option (List Pair)
with_pair before None = None
with_pair before (Some p) = if is_some (value_under before p.0) then None else Some (before ++ p ∷ [])

-- the store behind a line; an empty line is skipped
abbrev pub after_line : List Pair → List ℕ → Option (List Pair)
after_line before [] = Some before
after_line before (b ∷ bytes) = with_pair before (pair_of (b ∷ bytes))

-- a line that gives no store is bad; else the reading goes on with the store
abbrev pub go_on : ℕ → (List Pair → VarsReading) → Option (List Pair) → VarsReading
go_on number rest None = BadAt number
go_on number rest (Some after) = rest after

-- the lines, of which the first has that number, behind those pairs
abbrev pub reading_from : List Pair → ℕ → List (List ℕ) → VarsReading
reading_from before number [] = Holds before
reading_from before number (line ∷ lines) = go_on number (λ after. reading_from after (number + 1) lines) (after_line before line)

-- lines are counted from 1
abbrev pub vars_of : List ℕ → VarsReading
vars_of bytes = reading_from [] 1 (lines_of bytes)

abbrev pub ReadsVars : List ℕ → Result (List Pair) VarsFault → Type 0
ReadsVars bytes (Ok store) = vars_of bytes ≡ Holds store
ReadsVars bytes (Err (BadVars at)) = vars_of bytes ≡ BadAt at
ReadsVars bytes (Err Memory) = ⊤

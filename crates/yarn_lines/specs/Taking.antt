-- Taking the lines of a file one after the other.
use Rattle.std.specs.Prelude.{◌≡◌, ℕ, ◌+◌, ◌≤◌, List, [], ◌∷◌, length, drop, Option, Some, None, Result, Ok, Err, IsUtf8}
use Rattle.yarn_base.specs.declared.memory.Memory.{Memory}
use Rattle.yarn_lines.specs.Lines.{pieces_of, first_from, is_long}
use Rattle.yarn_lines.specs.declared.line.RawLine.{RawLine}

-- the lines behind a place of a text may be taken, the first of them having that number
pub record AreLeft (whole : List ℕ) (at number : ℕ) : Type 0 where
  pub utf8 : IsUtf8 (drop at whole)
  pub small : length whole ≤ 1073741824
  pub count : number ≤ at + 1
  pub short : first_from is_long number (pieces_of (drop at whole)) ≡ None

-- the first of the lines is taken, and those behind it are left; nothing, where there is none; an `Err` leaves all
abbrev pub Takes : List RawLine → Result (Option RawLine) Memory → List RawLine → Type 0
Takes before (Ok (Some line)) after = before ≡ line ∷ after
Takes before (Ok None) after = (before ≡ []) × (after ≡ [])
Takes before (Err _) after = after ≡ before

-- What cutting a file into lines answers.
use Rattle.std.specs.Str.{is_utf8}
use Rattle.std.specs.Prelude.{◌≡◌, ◌+◌, ℕ, List, length, Bool, if◌then◌else◌, true, false, Option, Some, None, Result, Ok, Err, ⊤}
use Rattle.yarn_lines.specs.Lines.{Lines, lines_of, lines_from, pieces_of, pieces_in, first_from, is_long}
use Rattle.yarn_lines.specs.declared.line.LineFault.{LineFault}
use Rattle.yarn_lines.specs.declared.line.LineFault.TheVariants.{BadUtf8, LineTooLong, Memory}

abbrev pub is_bad : List ℕ → Bool
is_bad piece = if is_utf8 piece then false else true

-- the first line that is no UTF-8
abbrev pub first_bad : List ℕ → Option ℕ
first_bad bytes = first_from is_bad 1 (pieces_in bytes)

-- the first line of more than 65,536 bytes
abbrev pub first_long : List ℕ → Option ℕ
first_long bytes = first_from is_long 1 (pieces_in bytes)

-- the lines where no line is bad and none is long; else the first bad one, else the first long one
abbrev pub Splits : List ℕ → Result Lines LineFault → Type 0
Splits bytes (Ok lines) = (first_bad bytes ≡ None) × (first_long bytes ≡ None) × (lines ≡ lines_of bytes)
Splits bytes (Err (BadUtf8 number)) = first_bad bytes ≡ Some number
Splits bytes (Err (LineTooLong number)) = (first_bad bytes ≡ None) × (first_long bytes ≡ Some number)
Splits bytes (Err Memory) = ⊤

-- the same of a text that stands at that place of its file
abbrev pub SplitsText : ℕ → List ℕ → Result Lines LineFault → Type 0
SplitsText at text (Ok lines) = (first_from is_long 1 (pieces_of text) ≡ None)
    × (lines ≡ record { lines = lines_from 1 at (pieces_of text); end = length (pieces_of text) + 1 })
SplitsText at text (Err (BadUtf8 number)) = ⊥
SplitsText at text (Err (LineTooLong number)) = first_from is_long 1 (pieces_of text) ≡ Some number
SplitsText at text (Err Memory) = ⊤

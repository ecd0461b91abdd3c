-- The lines of a file, cut out of the whole list of its bytes.
use Rattle.std.specs.Prelude.{ℕ, ◌+◌, List, [], ◌∷◌, length, drop, take, nat_eq, nat_lt, Bool, true, false, ◌||◌, if◌then◌else◌, Option, Some, None, codes}
use Rattle.std.specs.List.{list_all}
use Rattle.std.specs.Cmp.Lexicographic.{pointwise}
use Rattle.yarn_lines.specs.declared.line.RawLine.{RawLine}

-- the lines of a file that count and aren't taken yet, and the place of its end: the number of all its lines and one more
pub record Lines : Type 0 where
  pub lines : List RawLine
  pub end : ℕ

-- the byte stands at the front of the first piece
abbrev pub onto : ℕ → List (List ℕ) → List (List ℕ)
onto b [] = (b ∷ []) ∷ []
onto b (piece ∷ pieces) = (b ∷ piece) ∷ pieces

-- the pieces that LFs end; a last piece that is empty is none
abbrev pub pieces_of : List ℕ → List (List ℕ)
pieces_of [] = []
pieces_of (b ∷ bytes) = if nat_eq b 10 then [] ∷ pieces_of bytes else onto b (pieces_of bytes)

abbrev pub begins_with : List ℕ → List ℕ → Bool
begins_with front bytes = pointwise nat_eq (take (length front) bytes) front

-- how many bytes a leading byte order mark takes
abbrev pub mark_length : List ℕ → ℕ
mark_length bytes = if begins_with (239 ∷ 187 ∷ 191 ∷ []) bytes then 3 else 0

abbrev pub is_blank : ℕ → Bool
is_blank b = nat_eq b 32 || nat_eq b 9

-- without one CR that is the last byte
abbrev pub without_cr : List ℕ → List ℕ
without_cr [] = []
without_cr (b ∷ []) = if nat_eq b 13 then [] else b ∷ []
without_cr (b ∷ c ∷ bytes) = b ∷ without_cr (c ∷ bytes)

-- without the blanks at the end
abbrev pub without_trailing : List ℕ → List ℕ
without_trailing [] = []
without_trailing (b ∷ bytes) = if list_all is_blank (b ∷ bytes) then [] else b ∷ without_trailing bytes

-- the blanks at the front, and what follows them
abbrev pub leading : List ℕ → List ℕ
leading [] = []
leading (b ∷ bytes) = if is_blank b then b ∷ leading bytes else []

abbrev pub past_leading : List ℕ → List ℕ
past_leading [] = []
past_leading (b ∷ bytes) = if is_blank b then past_leading bytes else b ∷ bytes

-- a space counts 1 and a tab 8
abbrev pub width : List ℕ → ℕ
width [] = 0
width (b ∷ blanks) = (if nat_eq b 9 then 8 else 1) + width blanks

-- a line without its end
abbrev pub content : List ℕ → List ℕ
content piece = without_trailing (without_cr piece)

abbrev pub indent_of : List ℕ → ℕ
indent_of piece = width (leading (content piece))

abbrev pub text_of : List ℕ → List ℕ
text_of piece = past_leading (content piece)

-- a line counts where its text is neither empty nor a comment
abbrev pub counts : List ℕ → Bool
counts [] = false
counts (b ∷ text) = if begins_with (codes "//") (b ∷ text) then false else true

-- the line of a piece that stands at that place, where it counts, and the lines behind it
abbrev pub with_line : ℕ → ℕ → List ℕ → List RawLine → List RawLine
with_line number at piece lines =
    if counts (text_of piece)
    then record { number = number; indent = indent_of piece; at = at + length (leading (content piece)); text = text_of piece } ∷ lines
    else lines

-- the lines that count, the first piece having that number and standing at that place
abbrev pub lines_from : ℕ → ℕ → List (List ℕ) → List RawLine
lines_from number at [] = []
lines_from number at (piece ∷ pieces) = with_line number at piece (lines_from (number + 1) (at + length piece + 1) pieces)

-- the pieces of a file, a leading byte order mark skipped
abbrev pub pieces_in : List ℕ → List (List ℕ)
pieces_in bytes = pieces_of (drop (mark_length bytes) bytes)

abbrev pub lines_of : List ℕ → Lines
lines_of bytes = record {
  lines = lines_from 1 (mark_length bytes) (pieces_in bytes);
  end = length (pieces_in bytes) + 1;
}

-- the number of the first piece of which the test holds, the first piece having that number
abbrev pub first_from : (List ℕ → Bool) → ℕ → List (List ℕ) → Option ℕ
first_from test number [] = None
first_from test number (piece ∷ pieces) = if test piece then Some number else first_from test (number + 1) pieces

abbrev pub is_long : List ℕ → Bool
is_long piece = nat_lt 65536 (length piece)

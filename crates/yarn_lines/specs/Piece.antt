-- How far the first piece of some bytes reaches, and the line of one piece.
use Rattle.std.specs.Prelude.{ℕ, ◌+◌, List, [], ◌∷◌, length, nat_eq, if◌then◌else◌, Option, Some, None}
use Rattle.yarn_lines.specs.Lines.{leading, content, indent_of, text_of, counts}
use Rattle.yarn_lines.specs.declared.line.RawLine.{RawLine}

-- how many bytes stand before the first LF
abbrev pub length_to_lf : List ℕ → ℕ
length_to_lf [] = 0
length_to_lf (b ∷ bytes) = if nat_eq b 10 then 0 else length_to_lf bytes + 1

-- the line of a piece with that number and place, where it counts
abbrev pub line_of : ℕ → ℕ → List ℕ → Option RawLine
line_of number at piece =
    if counts (text_of piece)
    then Some (record { number = number; indent = indent_of piece; at = at + length (leading (content piece)); text = text_of piece })
    else None

-- What a line is among headers, as a function of its text (docs/language.md, Nodes).
use Rattle.std.specs.Prelude.{ℕ, ◌+◌, List, [], ◌∷◌, length, take, drop, nat_eq, nat_lt, Bool, not, ◌&&◌, if◌then◌else◌, Option, Some, None, codes}
use Rattle.std.specs.List.{list_all}
use Rattle.std.specs.Str.{bytes_eq}
use Rattle.yarn_lines.specs.Lines.{without_trailing}
use Rattle.yarn_items.specs.Text.{is_tag_byte, trimmed}
use Rattle.yarn_items.specs.Item.{is_name_text, literals_of}
use Rattle.yarn_items.specs.declared.item.Found.{Found}
use Rattle.yarn_items.specs.declared.item.Item.{Item}
use Rattle.yarn_items.specs.declared.item.Item.TheVariants as item

-- an item without expressions
abbrev pub bare : Item → Found
bare it = record { item = it; literals = literals_of [] }

-- how many bytes stand before the first `:`
abbrev pub length_to_colon : List ℕ → ℕ
length_to_colon [] = 0
length_to_colon (b ∷ bytes) = if nat_eq b 58 then 0 else length_to_colon bytes + 1

-- the header with that key, where this is a name
abbrev pub header_with : List ℕ → List ℕ → Option Found
header_with key value = if is_name_text key then Some (bare (item.Header (record { key = key; value = value }))) else None

-- the header, where the text has a `:`
abbrev pub header_found : List ℕ → Option Found
header_found text =
    if nat_lt (length_to_colon text) (length text)
    then header_with (without_trailing (take (length_to_colon text) text)) (trimmed (drop (length_to_colon text + 1) text))
    else None

-- the bytes behind the `#` are those of a file tag
abbrev pub is_file_tag : List ℕ → Bool
is_file_tag tag = not (bytes_eq tag []) && list_all is_tag_byte tag

abbrev pub file_tag_found : List ℕ → Option Found
file_tag_found tag = if is_file_tag tag then Some (bare (item.FileTag tag)) else None

abbrev pub tag_or_header : List ℕ → Option Found
tag_or_header [] = None
tag_or_header (b ∷ text) = if nat_eq b 35 then file_tag_found text else header_found (b ∷ text)

-- what a text without a carriage return is
abbrev pub heading_found : List ℕ → Option Found
heading_found text =
    if bytes_eq text (codes "---") then Some (bare item.BodyBegins)
    else if bytes_eq text (codes "===") then Some (bare item.NodeEnds)
    else tag_or_header text

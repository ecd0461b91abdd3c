-- How a line is gone over up to its comment, byte by byte (docs/language.md, Hashtags and comments).
use Rattle.std.specs.Prelude.{ℕ, List, [], ◌∷◌, length, Bool, true, false, not, ◌&&◌, if◌then◌else◌, nat_eq, codes, Option, Some, None}
use Rattle.yarn_lines.specs.Lines.{begins_with, without_trailing}
use Rattle.yarn_items.specs.Text.{begins_pair, is_tag_byte}
use Rattle.yarn_tree.specs.declared.end.Part.{Part}
use Rattle.yarn_tree.specs.declared.end.Part.TheVariants.{InText, InPair, InHole, SkippedInHole, Opens, InCondition, SkippedInCondition, Closes, InTag}

-- the part that begins at the front of a text that isn't over
abbrev pub within_text : List ℕ → Part
within_text bytes =
    if begins_with (codes "{") bytes then InHole false
    else if begins_with (codes "#") bytes then InTag
    else if begins_with (codes "<<") bytes then Opens
    else if begins_pair bytes then InPair
    else InText

-- none where a comment begins
abbrev pub text_step : List ℕ → Option Part
text_step bytes = if begins_with (codes "//") bytes then None else Some (within_text bytes)

abbrev pub hole_step : Bool → ℕ → Part
hole_step quoted b =
    if nat_eq b 34 then InHole (not quoted)
    else if quoted && nat_eq b 92 then SkippedInHole
    else if not quoted && nat_eq b 125 then InText
    else InHole quoted

abbrev pub condition_step : Bool → ℕ → List ℕ → Part
condition_step quoted b bytes =
    if nat_eq b 34 then InCondition (not quoted)
    else if nat_eq b 92 then SkippedInCondition quoted
    else if not quoted && begins_with (codes ">>") bytes then Closes
    else InCondition quoted

-- the part behind the first byte of these
abbrev pub part_step : Part → ℕ → List ℕ → Option Part
part_step InText b bytes = text_step bytes
part_step InPair b bytes = Some InText
part_step (InHole quoted) b bytes = Some (hole_step quoted b)
part_step SkippedInHole b bytes = Some (InHole true)
part_step Opens b bytes = Some (InCondition false)
part_step (InCondition quoted) b bytes = Some (condition_step quoted b bytes)
part_step (SkippedInCondition quoted) b bytes = Some (InCondition quoted)
part_step Closes b bytes = Some InText
part_step InTag b bytes = if is_tag_byte b then Some InTag else text_step bytes

-- what stands before the comment
abbrev pub and_front : Option Part → (Part → List ℕ) → ℕ → List ℕ
and_front None rest b = []
and_front (Some part) rest b = b ∷ rest part

abbrev pub front_of : Part → List ℕ → List ℕ
front_of part [] = []
front_of part (b ∷ bytes) = and_front (part_step part b (b ∷ bytes)) (λ next. front_of next bytes) b

-- the place behind the last byte before the comment that is no blank
abbrev pub end_of : List ℕ → ℕ
end_of bytes = length (without_trailing (front_of InText bytes))

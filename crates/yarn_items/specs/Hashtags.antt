-- The hashtags at the end of a line, as a function of the bytes there (docs/language.md, Hashtags and comments).
use Rattle.std.specs.Prelude.{ℕ, ◌+◌, List, [], ◌∷◌, Bool, true, false, if◌then◌else◌, nat_eq, Option, Some, None, codes}
use Rattle.yarn_lines.specs.Lines.{is_blank, begins_with}
use Rattle.yarn_items.specs.Text.{is_tag_byte}

-- how many bytes of a hashtag stand at the front
abbrev pub tag_length : List ℕ → ℕ
tag_length [] = 0
tag_length (b ∷ bytes) = if is_tag_byte b then tag_length bytes + 1 else 0

-- the byte belongs to the first of the hashtags
abbrev pub onto_first : ℕ → Option (List (List ℕ)) → Option (List (List ℕ))
onto_first b (Some (own ∷ tags)) = Some ((b ∷ own) ∷ tags)
onto_first b _ = None

-- the hashtag before the others
abbrev pub with_tag : List ℕ → Option (List (List ℕ)) → Option (List (List ℕ))
with_tag own (Some tags) = Some (own ∷ tags)
with_tag own None = None

-- the first of the hashtags isn't empty
abbrev pub unless_empty : Option (List (List ℕ)) → Option (List (List ℕ))
unless_empty (Some ((c ∷ own) ∷ tags)) = Some ((c ∷ own) ∷ tags)
unless_empty _ = None

-- the hashtags where the bytes are these, with blanks and a comment; where one is open, the first of them is its rest
abbrev pub tags_from : Bool → List ℕ → Option (List (List ℕ))
tags_from false [] = Some []
tags_from true [] = Some ([] ∷ [])
tags_from false (b ∷ bytes) =
    if is_blank b then tags_from false bytes
    else if nat_eq b 35 then unless_empty (tags_from true bytes)
    else if begins_with (codes "//") (b ∷ bytes) then Some []
    else None
tags_from true (b ∷ bytes) =
    if is_tag_byte b then onto_first b (tags_from true bytes)
    else if is_blank b then with_tag [] (tags_from false bytes)
    else with_tag [] (unless_empty (tags_from true bytes))

-- the hashtags of the bytes behind a text or a command, where these are hashtags, blanks and a comment
abbrev pub tags_of : List ℕ → Option (List (List ℕ))
tags_of bytes = tags_from false bytes

-- What one look for a hashtag answers.
use Rattle.std.specs.Prelude.{◌≡◌, ◌<◌, ℕ, List, [], length, Bool, ◌||◌, Some, None, codes, IsUtf8}
use Rattle.std.specs.Str.{bytes_eq}
use Rattle.yarn_lines.specs.Lines.{begins_with}
use Rattle.yarn_items.specs.Hashtags.{tags_of, with_tag}
use Rattle.yarn_items.specs.declared.hashtags.Step.{Step}
use Rattle.yarn_items.specs.declared.hashtags.Step.TheVariants.{Tag, End, Other}

-- the end of a line, or a comment
abbrev pub ends_line : List ℕ → Bool
ends_line bytes = bytes_eq bytes [] || begins_with (codes "//") bytes

-- the hashtags of the bytes are that one and those of a shorter rest; or they are none; or the bytes have other things
abbrev pub IsStep : List ℕ → Step → Type 0
IsStep bytes (Tag own rest) =
    (tags_of bytes ≡ with_tag own.now (tags_of rest.now)) × (length rest.now < length bytes) × IsUtf8 own.now × IsUtf8 rest.now
IsStep bytes End = tags_of bytes ≡ Some []
IsStep bytes Other = tags_of bytes ≡ None

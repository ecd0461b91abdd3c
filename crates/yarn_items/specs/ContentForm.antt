-- The content of a command and what follows it, as functions of the bytes behind its `<<` (docs/language.md, Texts and commands).
use Rattle.std.specs.Prelude.{◌≡◌, ℕ, ◌+◌, List, [], ◌∷◌, take, drop, Bool, true, false, not, ◌&&◌, if◌then◌else◌, nat_eq, Option, Some, None, is_none, codes, IsUtf8}
use Rattle.yarn_lines.specs.Lines.{begins_with}
use Rattle.yarn_items.specs.declared.content.Place.{Place}
use Rattle.yarn_items.specs.declared.content.ContentRead.{ContentRead}
use Rattle.yarn_items.specs.Text.{trimmed}

-- outside a substitution; in a quoted string or not
abbrev pub in_content : Bool → Place
in_content quoted = record { quoted = quoted; hole = None; skipped = false }

-- in a substitution, which has a quoted string of its own or not
abbrev pub in_hole : Bool → Bool → Place
in_hole quoted own = record { quoted = quoted; hole = Some own; skipped = false }

-- the next byte is skipped
abbrev pub skipping : Place → Place
skipping place = record { quoted = place.quoted; hole = place.hole; skipped = true }

-- the place behind a byte outside a substitution
abbrev pub past_content : Bool → Bool → ℕ → Place
past_content games quoted c =
    if nat_eq c 34 then in_content (not quoted)
    else if nat_eq c 92 then skipping (in_content quoted)
    else if games && nat_eq c 123 then in_hole quoted false
    else in_content quoted

-- the place behind a byte of a substitution
abbrev pub past_hole : Bool → Bool → ℕ → Place
past_hole quoted own c =
    if nat_eq c 34 then in_hole quoted (not own)
    else if own && nat_eq c 92 then skipping (in_hole quoted own)
    else if not own && nat_eq c 125 then in_content quoted
    else in_hole quoted own

-- the place behind a byte that isn't skipped
abbrev pub past_read : Bool → Bool → Option Bool → ℕ → Place
past_read games quoted None c = past_content games quoted c
past_read games quoted (Some own) c = past_hole quoted own c

-- the place behind a byte
abbrev pub past_byte : Bool → Place → ℕ → Place
past_byte games place c =
    if place.skipped then record { quoted = place.quoted; hole = place.hole; skipped = false }
    else past_read games place.quoted place.hole c

-- a `>>` there would end the content
abbrev pub can_end : Place → Bool
can_end place = is_none place.hole && not place.skipped && not place.quoted

-- how many bytes stand before the `>>` that ends the content, the first of them in that place; all of them where it doesn't end
abbrev pub content_length : Bool → Place → List ℕ → ℕ
content_length games place [] = 0
content_length games place (c ∷ bytes) =
    if can_end place && begins_with (codes ">>") (c ∷ bytes) then 0
    else content_length games (past_byte games place c) bytes + 1

-- a content between blanks, and what follows its `>>`
pub record Content : Type 0 where
  pub own : List ℕ
  pub rest : List ℕ

-- the content that these bytes are, where a `>>` follows
abbrev pub content_before : List ℕ → List ℕ → Option Content
content_before inside behind = if begins_with (codes ">>") behind then Some (record { own = trimmed inside; rest = drop 2 behind }) else None

abbrev pub content_to : ℕ → List ℕ → Option Content
content_to n bytes = content_before (take n bytes) (drop n bytes)

-- the content behind a `<<`
abbrev pub content_found : Bool → List ℕ → Option Content
content_found games bytes = content_to (content_length games (in_content false) bytes) bytes

-- the code has what is found
pub record IsContentRead (c : Content) (read : ContentRead) : Type 0 where
  pub own : read.own.now ≡ c.own
  pub rest : read.rest.now ≡ c.rest
  pub own_utf8 : IsUtf8 c.own
  pub rest_utf8 : IsUtf8 c.rest

abbrev pub IsContentAnswer : Option Content → Option ContentRead → Type 0
IsContentAnswer None None = Unit {0}
IsContentAnswer (Some c) (Some read) = IsContentRead c read
IsContentAnswer _ _ = ⊥

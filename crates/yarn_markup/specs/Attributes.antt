-- The plain text and the attributes of the pieces of a text, and the first fault among them (docs/language.md, Markup).
use Rattle.std.specs.Prelude.{ℕ, ◌+◌, ◌-◌, nat_eq, List, [], ◌∷◌, ◌++◌, length, take, drop, Bool, true, false, not, ◌&&◌, ◌||◌, if◌then◌else◌, Option, Some, None, codes, encode_utf8, encode_utf8_all}
use Rattle.std.specs.Str.{chars}
use Rattle.yarn_value.specs.Operations.{same_text}
use Rattle.yarn_markup.specs.declared.marked.Attribute.{Attribute}
use Rattle.yarn_markup.specs.declared.fault.MarkupFault.{MarkupFault}
use Rattle.yarn_markup.specs.declared.fault.MarkupFault.TheVariants.{BadMarkup, NoChoice}
use Rattle.yarn_markup.specs.declared.piece.Piece.{Piece}
use Rattle.yarn_markup.specs.declared.piece.Piece.TheVariants.{Stands, Opens, Lone, Closes, ClosesAll, Verbatim, Given, Lacks}
use Rattle.yarn_markup.specs.Characters.{is_blank, run_length}
use Rattle.yarn_markup.specs.Pieces.{Item, At, Broken}

-- ---- the plain text

-- the bytes that a piece shows
abbrev pub shown : Piece → List ℕ
shown (Stands c) = encode_utf8 c
shown (Verbatim text) = text
shown (Given text) = text
shown (Opens tag) = []
shown (Lone tag) = []
shown (Closes name) = []
shown ClosesAll = []
shown Lacks = []

-- how many Unicode scalar values these are
abbrev pub size : Piece → ℕ
size (Stands c) = 1
size (Verbatim text) = length (chars text)
size (Given text) = length (chars text)
size (Opens tag) = 0
size (Lone tag) = 0
size (Closes name) = 0
size ClosesAll = 0
size Lacks = 0

abbrev pub plain_text : List Item → List ℕ
plain_text [] = []
plain_text (At at piece ∷ items) = shown piece ++ plain_text items
plain_text (Broken at ∷ items) = plain_text items

-- ---- attributes

-- the place in the plain text where an open attribute of that name is closed, so many others of its name opened behind it
-- and still open. The items follow the place `now`.
abbrev pub closing_place : List ℕ → ℕ → ℕ → List Item → ℕ
closing_place name inner now [] = now
closing_place name inner now (Broken at ∷ items) = now
closing_place name inner now (At at ClosesAll ∷ items) = now
closing_place name inner now (At at (Closes other) ∷ items) =
    if same_text other name then (if nat_eq inner 0 then now else closing_place name (inner - 1) now items)
    else closing_place name inner now items
closing_place name inner now (At at (Opens tag) ∷ items) = closing_place name (if same_text name tag.name then inner + 1 else inner) now items
closing_place name inner now (At at (Lone tag) ∷ items) = closing_place name inner now items
closing_place name inner now (At at Lacks ∷ items) = closing_place name inner now items
closing_place name inner now (At at (Stands c) ∷ items) = closing_place name inner (now + 1) items
closing_place name inner now (At at (Verbatim text) ∷ items) = closing_place name inner (now + length (chars text)) items
closing_place name inner now (At at (Given text) ∷ items) = closing_place name inner (now + length (chars text)) items

-- the attributes that the items open, the first of them at the place `now` of the plain text
abbrev pub attributes : ℕ → List Item → List Attribute
attributes now [] = []
attributes now (Broken at ∷ items) = []
attributes now (At at (Opens tag) ∷ items) =
    record { name = tag.name; start = now; length = closing_place tag.name 0 now items - now; properties = tag.properties } ∷ attributes now items
attributes now (At at (Lone tag) ∷ items) =
    record { name = tag.name; start = now; length = 0; properties = tag.properties } ∷ attributes now items
attributes now (At at (Verbatim text) ∷ items) =
    record { name = codes "nomarkup"; start = now; length = length (chars text); properties = [] } ∷ attributes (now + length (chars text)) items
attributes now (At at (Stands c) ∷ items) = attributes (now + 1) items
attributes now (At at (Given text) ∷ items) = attributes (now + length (chars text)) items
attributes now (At at (Closes name) ∷ items) = attributes now items
attributes now (At at ClosesAll ∷ items) = attributes now items
attributes now (At at Lacks ∷ items) = attributes now items

-- ---- the attribute `character`

-- a character of a speaker's name: none of `:`, `[`, `]`, `\`
abbrev pub is_speaker : ℕ → Bool
is_speaker c = not (nat_eq c 58 || (nat_eq c 91 || (nat_eq c 93 || nat_eq c 92)))

abbrev pub begins_blank : List ℕ → Bool
begins_blank [] = false
begins_blank (c ∷ cs) = is_blank c

-- what follows the colon at the front, where that is a blank
abbrev pub past_colon : List ℕ → Option (List ℕ)
past_colon [] = None
past_colon (c ∷ cs) = if nat_eq c 58 && begins_blank cs then Some cs else None

abbrev pub character_with : List ℕ → Option (List ℕ) → List Attribute
character_with name None = []
character_with name (Some behind) =
    record {
      name = codes "character";
      start = 0;
      length = length name + 1 + run_length is_blank behind;
      properties = record { name = codes "name"; value = encode_utf8_all name } ∷ [];
    } ∷ []

abbrev pub character_of : ℕ → List ℕ → List Attribute
character_of n text = if nat_eq n 0 then [] else character_with (take n text) (past_colon (drop n text))

-- the attribute over the name, the colon and the blanks at the front of the text, where these stand there
abbrev pub character_at : List ℕ → List Attribute
character_at text = character_of (run_length is_speaker text) text

-- ---- faults

-- an open attribute and the place of its tag in the text
pub record Opened : Type 0 where
  pub name : List ℕ
  pub at : ℕ

-- one of that name is open
abbrev pub is_open : List ℕ → List Opened → Bool
is_open name [] = false
is_open name (o ∷ os) = is_open name os || same_text name o.name

-- without the latest of that name
abbrev pub closed : List ℕ → List Opened → List Opened
closed name [] = []
closed name (o ∷ os) = if is_open name os then o ∷ closed name os else if same_text name o.name then os else o ∷ os

-- the first that is left open
abbrev pub left_open : List Opened → Option MarkupFault
left_open [] = None
left_open (o ∷ os) = Some (BadMarkup o.at)

abbrev pub is_some_open : List Opened → Bool
is_some_open [] = false
is_some_open (o ∷ os) = true

-- the first fault of the items behind those that left these attributes open, in the order of their opening
abbrev pub fault : List Opened → List Item → Option MarkupFault
fault os [] = left_open os
fault os (Broken at ∷ items) = Some (BadMarkup at)
fault os (At at (Opens tag) ∷ items) = fault (os ++ (record { name = tag.name; at = at } ∷ [])) items
fault os (At at (Closes name) ∷ items) = if is_open name os then fault (closed name os) items else Some (BadMarkup at)
fault os (At at ClosesAll ∷ items) = if is_some_open os then fault [] items else Some (BadMarkup at)
fault os (At at Lacks ∷ items) = Some (NoChoice at)
fault os (At at (Stands c) ∷ items) = fault os items
fault os (At at (Lone tag) ∷ items) = fault os items
fault os (At at (Verbatim text) ∷ items) = fault os items
fault os (At at (Given text) ∷ items) = fault os items

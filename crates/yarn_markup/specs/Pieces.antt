-- The pieces of a text from the left, one at a time: characters, tags, and what tags stand for (docs/language.md, Markup).
use Rattle.std.specs.Prelude.{◌≡◌, ◌<◌, ℕ, ℤ, ◌+◌, ◌-◌, nat_eq, List, [], ◌∷◌, length, drop, Bool, false, not, if◌then◌else◌, Option, Some, None, codes, encode_utf8}
use Rattle.std.specs.List.{starts_with}
use Rattle.yarn_value.specs.Operations.{same_text}
use Rattle.yarn_value.specs.Numbers.{signed_number}
use Rattle.yarn_plural.specs.declared.table.Form.{Form}
use Rattle.yarn_plural.specs.declared.table.Form.TheVariants.{Cardinal, Ordinal}
use Rattle.yarn_plural.specs.declared.table.PluralTable.{PluralTable}
use Rattle.yarn_markup.specs.declared.marked.Property.{Property}
use Rattle.yarn_markup.specs.declared.tag.Tag.{Tag}
use Rattle.yarn_markup.specs.declared.kind.Kind.{Kind}
use Rattle.yarn_markup.specs.declared.kind.Kind.TheVariants.{NoMarkup, Select, Counted, Other}
use Rattle.yarn_markup.specs.declared.piece.Piece.{Piece}
use Rattle.yarn_markup.specs.declared.piece.Piece.TheVariants.{Stands, Opens, Lone, Closes, ClosesAll, Verbatim, Given, Lacks}
use Rattle.yarn_markup.specs.Characters.{is_escaped}
use Rattle.yarn_markup.specs.Tags.{Cut, before, Close, close_at, IsTag}
use Rattle.yarn_markup.specs.Choice.{Choice, choice_of, selected, counted}

-- ---- the front of a text

-- nothing, a character that stands for itself, or a `[`; and what follows
pub data Front : Type 0 where
  Nothing : Front
  Character : ℕ → List ℕ → Front
  Bracket : List ℕ → Front

-- a backslash is left out before `\`, `[` and `]`, and stands for itself before any other character
abbrev pub behind_backslash : List ℕ → Front
behind_backslash [] = Character 92 []
behind_backslash (c ∷ cs) = if is_escaped c then Character c cs else Character 92 (c ∷ cs)

abbrev pub front : List ℕ → Front
front [] = Nothing
front (c ∷ cs) = if nat_eq c 92 then behind_backslash cs else if nat_eq c 91 then Bracket cs else Character c cs

-- ---- what tags are

unfoldable pub kind_of : List ℕ → Kind
kind_of name =
    if same_text name (codes "nomarkup") then NoMarkup
    else if same_text name (codes "select") then Select
    else if same_text name (codes "plural") then Counted Cardinal
    else if same_text name (codes "ordinal") then Counted Ordinal
    else Other

-- a piece, and what follows it
pub record Step : Type 0 where
  pub piece : Piece
  pub rest : List ℕ

abbrev pub step_to : List ℕ → Option Piece → Option Step
step_to rest None = None
step_to rest (Some piece) = Some (record { piece = piece; rest = rest })

-- what follows the `[/nomarkup]` at the front
abbrev pub past_end : List ℕ → Option (List ℕ)
past_end text = if starts_with nat_eq text (codes "[/nomarkup]") then Some (drop 11 text) else None

abbrev pub ended : Option (List ℕ) → Option Cut → Option Cut
ended None further = further
ended (Some rest) further = Some (record { own = []; rest = rest })

-- the text up to the first `[/nomarkup]`, and what follows that
abbrev pub verbatim : List ℕ → Option Cut
verbatim [] = None
verbatim (c ∷ cs) = ended (past_end (c ∷ cs)) (before (encode_utf8 c) (verbatim cs))

abbrev pub verbatim_step : Option Cut → Option Step
verbatim_step None = None
verbatim_step (Some cut) = Some (record { piece = Verbatim cut.own; rest = cut.rest })

abbrev pub is_bare : List Property → Bool → Bool
is_bare [] lone = not lone
is_bare (p ∷ ps) lone = false

-- a text, or the want of one
abbrev pub given : Option (List ℕ) → Piece
given None = Lacks
given (Some text) = Given text

abbrev pub counted_piece : PluralTable → Form → Choice → Option ℤ → Option Piece
counted_piece plural form choice None = None
counted_piece plural form choice (Some n) = Some (given (counted plural form choice n))

abbrev pub selected_piece : Option Choice → Option Piece
selected_piece None = None
selected_piece (Some choice) = Some (given (selected choice))

abbrev pub plural_piece : PluralTable → Form → Option Choice → Option Piece
plural_piece plural form None = None
plural_piece plural form (Some choice) = counted_piece plural form choice (signed_number choice.value)

abbrev pub attribute_piece : Tag → Bool → Piece
attribute_piece tag lone = if lone then Lone tag else Opens tag

-- what a tag is, by its kind, whether it ends with a `/`, and what follows it; None where it is no tag of its kind.
-- `[nomarkup]` has no property and no `/`; a tag that gives a text ends with a `/`.
abbrev pub meaning : PluralTable → Kind → Tag → Bool → List ℕ → Option Step
meaning plural NoMarkup tag lone behind = if is_bare tag.properties lone then verbatim_step (verbatim behind) else None
meaning plural Select tag lone behind = if lone then step_to behind (selected_piece (choice_of tag)) else None
meaning plural (Counted form) tag lone behind = if lone then step_to behind (plural_piece plural form (choice_of tag)) else None
meaning plural Other tag lone behind = Some (record { piece = attribute_piece tag lone; rest = behind })

abbrev pub closing : Option (List ℕ) → Piece
closing None = ClosesAll
closing (Some name) = Closes name

-- the characters behind a `[` are a tag, which is that piece, and the rest
pub data IsBracketed (plural : PluralTable) (inside : List ℕ) : Piece → List ℕ → Type 0 where
  closes : (close : Close) → close_at inside ≡ Some close → IsBracketed plural inside (closing close.name) close.rest
  tag : (own : Tag) (lone : Bool) (behind : List ℕ) (step : Step) → close_at inside ≡ None → IsTag inside own lone behind →
      meaning plural (kind_of own.name) own lone behind ≡ Some step → IsBracketed plural inside step.piece step.rest

-- the text is that piece and the rest
pub data IsPiece (plural : PluralTable) (text : List ℕ) : Piece → List ℕ → Type 0 where
  character : (c : ℕ) (rest : List ℕ) → front text ≡ Character c rest → IsPiece plural text (Stands c) rest
  bracket : (inside : List ℕ) (piece : Piece) (rest : List ℕ) → front text ≡ Bracket inside → IsBracketed plural inside piece rest → IsPiece plural text piece rest

-- ---- all pieces

-- a piece with its place in the text; the place of a `[` that begins no tag
pub data Item : Type 0 where
  At : ℕ → Piece → Item
  Broken : ℕ → Item

-- The pieces of the text, up to its end or to a `[` that begins no tag. Places count the characters before.
pub data Reads (plural : PluralTable) : ℕ → List ℕ → List Item → Type 0 where
  ends : {at : ℕ} {text : List ℕ} → text ≡ [] → Reads plural at text []
  broken : {at : ℕ} {text : List ℕ} → 0 < length text → ((piece : Piece) (rest : List ℕ) → IsPiece plural text piece rest → ⊥) →
      Reads plural at text (Broken at ∷ [])
  goes : {at : ℕ} {text : List ℕ} {items : List Item} (piece : Piece) (rest : List ℕ) → IsPiece plural text piece rest →
      Reads plural (at + (length text - length rest)) rest items → Reads plural at text (At at piece ∷ items)

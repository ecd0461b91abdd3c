-- What private functions answer.
use Rattle.std.specs.Prelude.{◌≡◌, ℕ, ◌++◌, List, ◌∷◌, Bool, Option, Some, None, false, true, length, ◌<◌, MatchOption, codes}
use Rattle.yarn_plural.specs.declared.table.PluralTable.{PluralTable}
use Rattle.yarn_markup.specs.declared.choice.ChoiceRead.{ChoiceRead}
use Rattle.yarn_markup.specs.declared.front.Front.{Front}
use Rattle.yarn_markup.specs.declared.front.Front.TheVariants.{Nothing, Character, Bracket}
use Rattle.yarn_markup.specs.declared.piece.Piece.{Piece}
use Rattle.yarn_markup.specs.declared.piece.PieceRead.{PieceRead}
use Rattle.yarn_markup.specs.Choice.{Choice, without}
use Rattle.yarn_markup.specs.Pieces as pieces
use Rattle.yarn_markup.specs.Pieces.{Step, IsPiece, IsBracketed, kind_of, meaning}
use Rattle.yarn_markup.specs.declared.marked.Property.{Property}
use Rattle.yarn_markup.specs.declared.value.ValueRead.{ValueRead}
use Rattle.yarn_markup.specs.declared.property.PropertyRead.{PropertyRead}
use Rattle.yarn_markup.specs.declared.tag.Tag.{Tag}
use Rattle.yarn_markup.specs.declared.tag.HeadRead.{HeadRead}
use Rattle.yarn_markup.specs.declared.tag.TagRead.{TagRead}
use Rattle.yarn_markup.specs.declared.close.CloseRead.{CloseRead}
use Rattle.yarn_markup.specs.Tags as tags
use Rattle.yarn_markup.specs.Tags.{Cut, Found, Close, Properties, IsTag, end_at}

abbrev pub IsValueAnswer : Option Cut → Option ValueRead → Type 0
IsValueAnswer meant found =
    MatchOption found (meant ≡ None) (λ read. meant ≡ Some (record { own = read.value; rest = read.rest.now }))

abbrev pub IsPropertyAnswer : Option Found → Option PropertyRead → Type 0
IsPropertyAnswer meant found =
    MatchOption found (meant ≡ None) (λ read. meant ≡ Some (record { property = read.property; rest = read.rest.now }))

abbrev pub IsHead : tags.Head → HeadRead → Type 0
IsHead meant head = meant ≡ record { name = head.name; properties = head.properties; shorthand = head.shorthand; rest = head.rest.now }

abbrev pub IsHeadAnswer : Option tags.Head → Option HeadRead → Type 0
IsHeadAnswer meant found =
    MatchOption found (meant ≡ None)
    (λ head. meant ≡ Some (record { name = head.name; properties = head.properties; shorthand = head.shorthand; rest = head.rest.now }))

-- the list has the properties at the front behind its own
pub record AddsProperties (text : List ℕ) (old new : List Property) (rest : List ℕ) : Type 0 where
  pub further : List Property
  pub goes : Properties text further rest
  pub grown : new ≡ old ++ further

abbrev pub IsTagAnswer : List ℕ → Option TagRead → Type 0
IsTagAnswer text found =
    MatchOption found ((tag : Tag) (lone : Bool) (rest : List ℕ) → IsTag text tag lone rest → ⊥)
    (λ read. IsTag text read.tag read.lone read.rest.now)

-- the same of a tag whose name was read
pub record IsFurther (head : HeadRead) (tag : Tag) (lone : Bool) (rest : List ℕ) : Type 0 where
  pub further : List Property
  pub behind : List ℕ
  pub goes : Properties head.rest.now further behind
  pub ends : end_at behind ≡ Some (record { lone = lone; rest = rest })
  pub own : tag ≡ record { name = head.name; properties = head.properties ++ further; shorthand = head.shorthand }

abbrev pub IsFurtherAnswer : HeadRead → Option TagRead → Type 0
IsFurtherAnswer head found =
    MatchOption found ((tag : Tag) (lone : Bool) (rest : List ℕ) → IsFurther head tag lone rest → ⊥)
    (λ read. IsFurther head read.tag read.lone read.rest.now)

abbrev pub IsCloseAnswer : Option Close → Option CloseRead → Type 0
IsCloseAnswer meant found =
    MatchOption found (meant ≡ None) (λ read. meant ≡ Some (record { name = read.name; rest = read.rest.now }))

-- what stands at the front
abbrev pub front_seen : Front → pieces.Front
front_seen Nothing = pieces.Nothing
front_seen (Character c rest) = pieces.Character c rest.now
front_seen (Bracket inside) = pieces.Bracket inside.now

-- the properties but the first `value`, or all of them
abbrev pub options_of : Bool → List Property → List Property
options_of false properties = properties
options_of true properties = without (codes "value") properties

abbrev pub choice_seen : ChoiceRead → Choice
choice_seen choice = record { value = choice.value.now; options = options_of choice.by_value choice.options.now }

abbrev pub IsChoiceAnswer : Option Choice → Option ChoiceRead → Type 0
IsChoiceAnswer meant found = MatchOption found (meant ≡ None) (λ choice. meant ≡ Some (choice_seen choice))

abbrev pub IsStepAnswer : Option Step → Option PieceRead → Type 0
IsStepAnswer meant found =
    MatchOption found (meant ≡ None) (λ read. meant ≡ Some (record { piece = read.piece; rest = read.rest.now }))

abbrev pub IsMeaningAnswer : PluralTable → TagRead → Option PieceRead → Type 0
IsMeaningAnswer plural read found = IsStepAnswer (meaning plural (kind_of read.tag.name) read.tag read.lone read.rest.now) found

abbrev pub IsBracketAnswer : PluralTable → List ℕ → Option PieceRead → Type 0
IsBracketAnswer plural inside found =
    MatchOption found ((piece : Piece) (rest : List ℕ) → IsBracketed plural inside piece rest → ⊥)
    (λ read. IsBracketed plural inside read.piece read.rest.now)

abbrev pub IsPieceAnswer : PluralTable → List ℕ → Option PieceRead → Type 0
IsPieceAnswer plural text found =
    MatchOption found ((piece : Piece) (rest : List ℕ) → IsPiece plural text piece rest → ⊥)
    (λ read. IsPiece plural text read.piece read.rest.now)

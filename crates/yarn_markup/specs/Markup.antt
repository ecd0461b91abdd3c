-- What a text with markup is read as, or why it is refused, and the laws on that (docs/language.md, Markup).
use Rattle.std.specs.Prelude.{◌≡◌, ℕ, List, [], ◌++◌, Option, Some, None, Result, Ok, Err, ⊤}
use Rattle.yarn_plural.specs.declared.table.PluralTable.{PluralTable}
use Rattle.yarn_markup.specs.declared.marked.Marked.{Marked}
use Rattle.yarn_markup.specs.declared.fault.MarkupFault.{MarkupFault}
use Rattle.yarn_markup.specs.declared.fault.MarkupFault.TheVariants.{BadMarkup, NoChoice, Memory}
use Rattle.yarn_markup.specs.Pieces.{Item, Reads}
use Rattle.yarn_markup.specs.Attributes.{plain_text, attributes, character_at, fault}

-- the text, by its characters, has this plain text and these attributes
pub record IsMarkup (plural : PluralTable) (text : List ℕ) (marked : Marked) : Type 0 where
  pub items : List Item
  pub read : Reads plural 0 text items
  pub sound : fault [] items ≡ None
  pub plain : marked.plain ≡ plain_text items
  pub listed : marked.attributes ≡ character_at text ++ attributes 0 items

-- the text has no reading, and that is the first fault from the left
pub record IsRefused (plural : PluralTable) (text : List ℕ) (first : MarkupFault) : Type 0 where
  pub items : List Item
  pub read : Reads plural 0 text items
  pub found : fault [] items ≡ Some first

-- the reading, the first fault, or want of memory, which is free
abbrev pub ReadsMarkup : PluralTable → List ℕ → Result Marked MarkupFault → Type 0
ReadsMarkup plural text (Ok marked) = IsMarkup plural text marked
ReadsMarkup plural text (Err (BadMarkup at)) = IsRefused plural text (BadMarkup at)
ReadsMarkup plural text (Err (NoChoice at)) = IsRefused plural text (NoChoice at)
ReadsMarkup plural text (Err Memory) = ⊤

-- a text has a reading or is refused
pub data Answered (plural : PluralTable) (text : List ℕ) : Type 0 where
  marked : (own : Marked) → IsMarkup plural text own → Answered plural text
  refused : (first : MarkupFault) → IsRefused plural text first → Answered plural text

abbrev pub EachAnswered : Type 0
EachAnswered = (plural : PluralTable) (text : List ℕ) → Answered plural text

-- a text has at most one reading
abbrev pub OneReading : Type 0
OneReading = (plural : PluralTable) (text : List ℕ) (a b : Marked) → IsMarkup plural text a → IsMarkup plural text b → a ≡ b

-- a text is refused for one fault at most, and one with a reading for none
abbrev pub OneFault : Type 0
OneFault = (plural : PluralTable) (text : List ℕ) (a b : MarkupFault) → IsRefused plural text a → IsRefused plural text b → a ≡ b

abbrev pub NoneRefused : Type 0
NoneRefused = (plural : PluralTable) (text : List ℕ) (marked : Marked) (first : MarkupFault) →
    IsMarkup plural text marked → IsRefused plural text first → ⊥

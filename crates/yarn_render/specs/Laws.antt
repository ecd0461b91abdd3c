-- Each event is written as one text (docs/language.md, The transcript).
use Rattle.std.specs.Prelude.{◌≡◌, ℕ, List, Bool, All}
use Rattle.yarn_code.specs.declared.event.Event.{Event}
use Rattle.yarn_table.specs.Tables.{Table}
use Rattle.yarn_plural.specs.declared.table.PluralTable.{PluralTable}
use Rattle.yarn_render.specs.Renders.{HasTexts, IsTranscript, Renders}

-- some text is written of the event
pub record HasRendering (table : Table) (plural : PluralTable) (marks : Bool) (event : Event) : Type 0 where
  pub text : List ℕ
  pub renders : Renders table plural marks event text

-- some text is the transcript of the events
pub record HasTranscript (table : Table) (plural : PluralTable) (marks : Bool) (events : List Event) : Type 0 where
  pub text : List ℕ
  pub renders : IsTranscript table plural marks events text

abbrev pub OneRendering : Type 0
OneRendering = (table : Table) (plural : PluralTable) (marks : Bool) (event : Event) (a b : List ℕ) →
    Renders table plural marks event a → Renders table plural marks event b → a ≡ b

abbrev pub EachRendered : Type 0
EachRendered = (table : Table) (plural : PluralTable) (marks : Bool) (event : Event) → HasTexts table event → HasRendering table plural marks event

abbrev pub OneTranscript : Type 0
OneTranscript = (table : Table) (plural : PluralTable) (marks : Bool) (events : List Event) (a b : List ℕ) →
    IsTranscript table plural marks events a → IsTranscript table plural marks events b → a ≡ b

abbrev pub EachTranscript : Type 0
EachTranscript = (table : Table) (plural : PluralTable) (marks : Bool) (events : List Event) → All (HasTexts table) events →
    HasTranscript table plural marks events

-- What is written of an event (docs/language.md, The transcript).
use Rattle.std.specs.Prelude.{◌≡◌, ℕ, suc, List, [], ◌∷◌, ◌++◌, length, codes, Bool, if◌then◌else◌, option_map, Some, All, ⊤}
use Rattle.std.specs.Fmt.{decimal}
use Rattle.std.specs.Str.{chars}
use Rattle.yarn_value.specs.Templates.{Form, expanded}
use Rattle.yarn_value.specs.declared.value.Value.{Value}
use Rattle.yarn_code.specs.declared.event.Choice.{Choice}
use Rattle.yarn_code.specs.declared.event.Event.{Event}
use Rattle.yarn_code.specs.declared.event.Event.TheVariants.{NodeStart, Line, Options, Rejected, Command, NodeEnd, End}
use Rattle.yarn_table.specs.Tables.{Table, template_under}
use Rattle.yarn_plural.specs.declared.table.PluralTable.{PluralTable}
use Rattle.yarn_markup.specs.declared.fault.MarkupFault.{MarkupFault}
use Rattle.yarn_markup.specs.declared.marked.Attribute.{Attribute}
use Rattle.yarn_markup.specs.declared.marked.Marked.{Marked}
use Rattle.yarn_markup.specs.Markup.{IsMarkup, IsRefused}
use Rattle.yarn_render.specs.Marks.{attribute_lines, ended}

-- ---- the text of a line or an option

-- the lines of the attributes, where marks are asked for
abbrev pub marks_text : Bool → List Attribute → List ℕ
marks_text marks attributes = if marks then attribute_lines attributes else []

-- What a text with its values put in is written as: its plain text, with the lines of its attributes behind it; where its
-- markup is refused, itself behind `[?] `.
pub data Shows (plural : PluralTable) (marks : Bool) (text : List ℕ) : List ℕ → Type 0 where
  marked : (own : Marked) → IsMarkup plural (chars text) own → Shows plural marks text (ended own.plain ++ marks_text marks own.attributes)
  refused : (first : MarkupFault) → IsRefused plural (chars text) first → Shows plural marks text (ended (codes "[?] " ++ text))

-- what the template of an id is written as with these values
pub record ShowsUnder (table : Table) (plural : PluralTable) (marks : Bool) (id : List ℕ) (values : List Value) (shown : List ℕ) : Type 0 where
  pub form : Form
  pub found : template_under table id ≡ Some form
  pub shows : Shows plural marks (expanded form.parts values) shown

-- ---- options

abbrev pub closed : Bool → List ℕ
closed available = if available then [] else codes "[closed] "

-- `N) `, and `[closed] ` before the text of an option that can't be chosen
abbrev pub option_start : ℕ → Bool → List ℕ
option_start number available = decimal number ++ (codes ") " ++ closed available)

-- the options one after the other, of which the first has that number
pub data ShowsOptions (table : Table) (plural : PluralTable) (marks : Bool) : ℕ → List Choice → List ℕ → Type 0 where
  none : {number : ℕ} → ShowsOptions table plural marks number [] []
  more : {number : ℕ} {choice : Choice} {choices : List Choice} (shown rest : List ℕ) →
      ShowsUnder table plural marks choice.id choice.values shown →
      ShowsOptions table plural marks (suc number) choices rest →
      ShowsOptions table plural marks number (choice ∷ choices) (option_start number choice.available ++ (shown ++ rest))

-- ---- events

-- the text is what is written of the event; nothing is written where a node begins or ends and at the end
abbrev pub Renders : Table → PluralTable → Bool → Event → List ℕ → Type 0
Renders table plural marks (Line id values) text = ShowsUnder table plural marks id values text
Renders table plural marks (Options choices) text = ShowsOptions table plural marks 1 choices text
Renders table plural marks Rejected text = text ≡ ended (codes "(no such choice)")
Renders table plural marks (Command command) text = text ≡ ended (codes "<<" ++ (command ++ codes ">>"))
Renders table plural marks (NodeStart title) text = text ≡ []
Renders table plural marks (NodeEnd title) text = text ≡ []
Renders table plural marks End text = text ≡ []

-- ---- what a table must have

-- the id, with as many holes as there are values
abbrev pub HasText : Table → List ℕ → List Value → Type 0
HasText table id values = option_map (λ form. form.holes) (template_under table id) ≡ Some (length values)

-- each id of the event
abbrev pub HasTexts : Table → Event → Type 0
HasTexts table (Line id values) = HasText table id values
HasTexts table (Options choices) = All (λ choice. HasText table choice.id choice.values) choices
HasTexts table Rejected = ⊤
HasTexts table (Command command) = ⊤
HasTexts table (NodeStart title) = ⊤
HasTexts table (NodeEnd title) = ⊤
HasTexts table End = ⊤

-- ---- transcripts

-- the texts of the events joined
pub data IsTranscript (table : Table) (plural : PluralTable) (marks : Bool) : List Event → List ℕ → Type 0 where
  nothing : IsTranscript table plural marks [] []
  further : {event : Event} {events : List Event} (text rest : List ℕ) →
      Renders table plural marks event text →
      IsTranscript table plural marks events rest →
      IsTranscript table plural marks (event ∷ events) (text ++ rest)

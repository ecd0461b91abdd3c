-- Each event is written as one text.
use Rattle.std.proofs.Common.{◌≡◌, ℕ, suc, List, [], ◌∷◌, ◌++◌, length, Bool, Option, Some, None, option_map, All, refl, sym, ap, ◌∙◌, subst, codes}
use Rattle.std.proofs.lemmas.List.Elements.{All-head, All-tail}
use Rattle.std.specs.Str.{chars}
use Rattle.yarn_value.specs.Templates.{Form, expanded}
use Rattle.yarn_value.specs.declared.value.Value.{Value}
use Rattle.yarn_code.specs.declared.event.Choice.{Choice}
use Rattle.yarn_code.specs.declared.event.Event.TheVariants.{NodeStart, Line, Options, Rejected, Command, NodeEnd, End}
use Rattle.yarn_table.specs.Tables.{Table, template_under}
use Rattle.yarn_plural.specs.declared.table.PluralTable.{PluralTable}
use Rattle.yarn_markup.specs.declared.marked.Marked.{Marked}
use Rattle.yarn_markup.specs.Markup.{Answered}
use Rattle.yarn_markup.specs.Markup as answer
use Rattle.yarn_markup.proofs.MarkupLemmas.{one_reading, none_refused, each_answered}
use Rattle.yarn_render.specs.Marks.{ended}
use Rattle.yarn_render.specs.Renders.{marks_text, Shows, marked, refused, ShowsUnder, ShowsOptions, none, more, option_start, HasText, HasTexts, nothing, further}
use Rattle.yarn_render.specs.Laws.{OneRendering, EachRendered, OneTranscript, EachTranscript}

-- ---- one text at most

shown_once : (plural : PluralTable) (marks : Bool) (text a b : List ℕ) → Shows plural marks text a → Shows plural marks text b → a ≡ b
shown_once plural marks text a b (marked own is) (marked other so) =
    ap (λ (m : Marked). ended m.plain ++ marks_text marks m.attributes) (one_reading plural (chars text) own other is so)
shown_once plural marks text a b (marked own is) (refused first so) = absurd (none_refused plural (chars text) own first is so)
shown_once plural marks text a b (refused first is) (marked own so) = absurd (none_refused plural (chars text) own first so is)
shown_once plural marks text a b (refused first is) (refused other so) = refl

same_form : (o : Option Form) (a b : Form) → o ≡ Some a → o ≡ Some b → a ≡ b
same_form o a b e f =
    let both : Some a ≡ Some b = sym e ∙ f in
    cc

under_once : (table : Table) (plural : PluralTable) (marks : Bool) (id : List ℕ) (values : List Value) (a b : List ℕ) →
    ShowsUnder table plural marks id values a → ShowsUnder table plural marks id values b → a ≡ b
under_once table plural marks id values a b is so =
    let same = same_form (template_under table id) is.form so.form is.found so.found in
    shown_once plural marks (expanded so.form.parts values) a b
    (subst (λ (form : Form). Shows plural marks (expanded form.parts values) a) same is.shows) so.shows

joined : {a b c d : List ℕ} (start : List ℕ) → a ≡ b → c ≡ d → start ++ (a ++ c) ≡ start ++ (b ++ d)
joined {a = a} {b = b} {c = c} {d = d} start e f = ap (λ (l : List ℕ). start ++ (l ++ c)) e ∙ ap (λ (l : List ℕ). start ++ (b ++ l)) f

options_once : (table : Table) (plural : PluralTable) (marks : Bool) (number : ℕ) (choices : List Choice) (a b : List ℕ) →
    ShowsOptions table plural marks number choices a → ShowsOptions table plural marks number choices b → a ≡ b
options_once table plural marks number [] a b none none = refl
options_once table plural marks number (choice ∷ choices) a b (more shown rest is are) (more other others so do_so) =
    joined (option_start number choice.available) (under_once table plural marks choice.id choice.values shown other is so)
    (options_once table plural marks (suc number) choices rest others are do_so)

pub one_rendering : OneRendering
one_rendering table plural marks (Line id values) a b is so = under_once table plural marks id values a b is so
one_rendering table plural marks (Options choices) a b is so = options_once table plural marks 1 choices a b is so
one_rendering table plural marks Rejected a b is so = is ∙ sym so
one_rendering table plural marks (Command command) a b is so = is ∙ sym so
one_rendering table plural marks (NodeStart title) a b is so = is ∙ sym so
one_rendering table plural marks (NodeEnd title) a b is so = is ∙ sym so
one_rendering table plural marks End a b is so = is ∙ sym so

pub one_transcript : OneTranscript
one_transcript table plural marks [] a b nothing nothing = refl
one_transcript table plural marks (event ∷ events) a b (further text rest is are) (further other others so do_so) =
    joined [] (one_rendering table plural marks event text other is so) (one_transcript table plural marks events rest others are do_so)

-- ---- some text

record SomeText (Allows : List ℕ → Type 0) : Type 0 where
  pub text : List ℕ
  pub allowed : Allows text

shown_by : (plural : PluralTable) (marks : Bool) (text : List ℕ) → Answered plural (chars text) → SomeText (Shows plural marks text)
shown_by plural marks text (answer.marked own is) = record { text = ended own.plain ++ marks_text marks own.attributes; allowed = marked own is }
shown_by plural marks text (answer.refused first is) = record { text = ended (codes "[?] " ++ text); allowed = refused first is }

under_by : (table : Table) (plural : PluralTable) (marks : Bool) (id : List ℕ) (values : List Value) (o : Option Form) → template_under table id ≡ o →
    option_map (λ (form : Form). form.holes) o ≡ Some (length values) → SomeText (ShowsUnder table plural marks id values)
under_by table plural marks id values None e has = absurd cc
under_by table plural marks id values (Some form) e has =
    let shown = shown_by plural marks (expanded form.parts values) (each_answered plural (chars (expanded form.parts values))) in
    record { text = shown.text; allowed = record { form = form; found = e; shows = shown.allowed } }

under_some : (table : Table) (plural : PluralTable) (marks : Bool) (id : List ℕ) (values : List Value) → HasText table id values →
    SomeText (ShowsUnder table plural marks id values)
under_some table plural marks id values has = under_by table plural marks id values (template_under table id) refl has

options_some : (table : Table) (plural : PluralTable) (marks : Bool) (number : ℕ) (choices : List Choice) →
    All (λ (choice : Choice). HasText table choice.id choice.values) choices → SomeText (ShowsOptions table plural marks number choices)
options_some table plural marks number [] have = record { text = []; allowed = none }
options_some table plural marks number (choice ∷ choices) have =
    let own = under_some table plural marks choice.id choice.values (All-head (λ (c : Choice). HasText table c.id c.values) choice choices have) in
    let rest = options_some table plural marks (suc number) choices (All-tail (λ (c : Choice). HasText table c.id c.values) choice choices have) in
    record { text = option_start number choice.available ++ (own.text ++ rest.text); allowed = more own.text rest.text own.allowed rest.allowed }

pub each_rendered : EachRendered
each_rendered table plural marks (Line id values) has =
    let own = under_some table plural marks id values has in
    record { text = own.text; renders = own.allowed }
each_rendered table plural marks (Options choices) has =
    let own = options_some table plural marks 1 choices has in
    record { text = own.text; renders = own.allowed }
each_rendered table plural marks Rejected has = record { text = ended (codes "(no such choice)"); renders = refl }
each_rendered table plural marks (Command command) has = record { text = ended (codes "<<" ++ (command ++ codes ">>")); renders = refl }
each_rendered table plural marks (NodeStart title) has = record { text = []; renders = refl }
each_rendered table plural marks (NodeEnd title) has = record { text = []; renders = refl }
each_rendered table plural marks End has = record { text = []; renders = refl }

pub each_transcript : EachTranscript
each_transcript table plural marks [] have = record { text = []; renders = nothing }
each_transcript table plural marks (event ∷ events) have =
    let own = each_rendered table plural marks event (All-head (HasTexts table) event events have) in
    let rest = each_transcript table plural marks events (All-tail (HasTexts table) event events have) in
    record { text = own.text ++ rest.text; renders = further own.text rest.text own.renders rest.renders }

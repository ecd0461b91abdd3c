-- The lines of a body that are printed: they are entries of the same statements, but for numbers of lines and indents.
use Rattle.std.proofs.Common.{◌≡◌, ℕ, ◌+◌, List, [], ◌∷◌, ◌++◌, Option, Some, None, refl, sym, ap, subst, ◌∙◌}
use Rattle.std.specs.Prelude.{map}
use mathlib.Core.Path.{ap₂}
use Rattle.yarn_commands.specs.declared.command.Command.{Command}
use Rattle.yarn_commands.specs.declared.command.Command.TheVariants as command
use Rattle.yarn_items.specs.declared.item.Mode.TheVariants.{InBody}
use Rattle.yarn_items.specs.declared.item.Item.{Item}
use Rattle.yarn_items.specs.declared.item.Item.TheVariants as item
use Rattle.yarn_blocks.specs.declared.tree.LineText.{LineText}
use Rattle.yarn_blocks.specs.declared.entry.Entry.{Entry}
use Rattle.yarn_blocks.specs.declared.entry.What.{What}
use Rattle.yarn_blocks.specs.declared.entry.What.TheVariants as what
use Rattle.yarn_blocks.specs.declared.entry.Simple.{Simple}
use Rattle.yarn_blocks.specs.declared.entry.Simple.TheVariants as simple
use Rattle.yarn_blocks.specs.Layout.{simple_without_line, what_without_line, entry_without_line}
use Rattle.yarn_blocks.specs.LayoutLaws.{what_in}
use Rattle.yarn_nodes.specs.Entries.{ItemAt, command_at, what_at, said_by, id_in, AreEntries}
use Rattle.yarn_nodes.specs.Finds.{next_mode}
use Rattle.yarn_nodes.specs.Ids.{HasNoIds}
use Rattle.yarn_print.specs.Print.{what_text, entry_text, entries_text}
use Rattle.yarn_print.specs.PrintLaws.{LinesPrinted, PrintedAlone}
use Rattle.yarn_print.proofs.PrintCut.{HaveTexts, Line, text_in, Fine, no_line, one_line, numbered}

-- ---- what stands on another line

abbrev simple_on : ℕ → Simple → Simple
simple_on number (simple.Line text) = simple.Line (record text { line = number })
simple_on number (simple.Set head name op e) = simple.Set (record head { line = number }) name op e
simple_on number (simple.Declare head name value kind) = simple.Declare (record head { line = number }) name value kind
simple_on number (simple.Jump head title) = simple.Jump (record head { line = number }) title
simple_on number (simple.JumpTo head e) = simple.JumpTo (record head { line = number }) e
simple_on number (simple.Stop head) = simple.Stop (record head { line = number })
simple_on number (simple.Call head e) = simple.Call (record head { line = number }) e
simple_on number (simple.Command text) = simple.Command (record text { line = number })

abbrev pub what_on : ℕ → What → What
what_on number (what.Statement s) = what.Statement (simple_on number s)
what_on number (what.Offer text asked) = what.Offer (record text { line = number }) asked
what_on number (what.If head e) = what.If (record head { line = number }) e
what_on number (what.ElseIf head e) = what.ElseIf (record head { line = number }) e
what_on number (what.Else head) = what.Else (record head { line = number })
what_on number (what.EndIf head) = what.EndIf (record head { line = number })

abbrev found_on : ℕ → Option What → Option What
found_on number None = None
found_on number (Some w) = Some (what_on number w)

command-on : (line number : ℕ) (tags : List (List ℕ)) (own : Command) → command_at number tags own ≡ found_on number (command_at line tags own)
command-on line number tags (command.If e) = refl
command-on line number tags (command.ElseIf e) = refl
command-on line number tags command.Else = refl
command-on line number tags command.EndIf = refl
command-on line number tags (command.Set name op e) = refl
command-on line number tags (command.Declare name value kind) = refl
command-on line number tags (command.Jump title) = refl
command-on line number tags (command.JumpTo e) = refl
command-on line number tags command.Stop = refl
command-on line number tags (command.Call e) = refl
command-on line number tags command.Game = refl

what-on : (line number : ℕ) (id : List ℕ) (own : Item) → what_at number id own ≡ found_on number (what_at line id own)
what-on line number id (item.Line said) = refl
what-on line number id (item.Offer said asked) = refl
what-on line number id (item.Command own tags) = command-on line number tags own
what-on line number id (item.Game said) = refl
what-on line number id (item.FileTag tag) = refl
what-on line number id (item.Header header) = refl
what-on line number id item.BodyBegins = refl
what-on line number id item.NodeEnds = refl

simple-same : (number : ℕ) (s : Simple) → simple_without_line (simple_on number s) ≡ simple_without_line s
simple-same number (simple.Line text) = refl
simple-same number (simple.Set head name op e) = refl
simple-same number (simple.Declare head name value kind) = refl
simple-same number (simple.Jump head title) = refl
simple-same number (simple.JumpTo head e) = refl
simple-same number (simple.Stop head) = refl
simple-same number (simple.Call head e) = refl
simple-same number (simple.Command text) = refl

what-same : (number : ℕ) (w : What) → what_without_line (what_on number w) ≡ what_without_line w
what-same number (what.Statement s) = ap what.Statement (simple-same number s)
what-same number (what.Offer text asked) = refl
what-same number (what.If head e) = refl
what-same number (what.ElseIf head e) = refl
what-same number (what.Else head) = refl
what-same number (what.EndIf head) = refl

id-on-simple : (number : ℕ) (s : Simple) → id_in (said_by (what.Statement (simple_on number s))) ≡ id_in (said_by (what.Statement s))
id-on-simple number (simple.Line text) = refl
id-on-simple number (simple.Set head name op e) = refl
id-on-simple number (simple.Declare head name value kind) = refl
id-on-simple number (simple.Jump head title) = refl
id-on-simple number (simple.JumpTo head e) = refl
id-on-simple number (simple.Stop head) = refl
id-on-simple number (simple.Call head e) = refl
id-on-simple number (simple.Command text) = refl

id-on : (number : ℕ) (w : What) → id_in (said_by (what_on number w)) ≡ id_in (said_by w)
id-on number (what.Statement s) = id-on-simple number s
id-on number (what.Offer text asked) = refl
id-on number (what.If head e) = refl
id-on number (what.ElseIf head e) = refl
id-on number (what.Else head) = refl
id-on number (what.EndIf head) = refl

-- ---- the contents of the lines of a body

-- the item on that line is those contents, without an id
pub record IsWhat (line : ℕ) (own : Item) (w : What) : Type 0 where
  pub is : what_at line [] own ≡ Some w
  pub no_id : id_in (said_by w) ≡ []

abbrev pub AreWhats : List ItemAt → List What → Type 0
AreWhats [] [] = Unit {0}
AreWhats [] (w ∷ ws) = ⊥
AreWhats (x ∷ items) [] = ⊥
AreWhats (x ∷ items) (w ∷ ws) = IsWhat x.line x.item w × AreWhats items ws

no-id : (o : Option LineText) → ((text : LineText) → o ≡ Some text → text.id ≡ []) → id_in o ≡ []
no-id None has = refl
no-id (Some text) has = has text refl

pub are-whats : (title : List ℕ) (items : List ItemAt) (entries : List Entry) → AreEntries items entries → HasNoIds title entries → AreWhats items (map what_in entries)
are-whats title [] [] are ids = tt
are-whats title [] (entry ∷ entries) are ids = absurd are
are-whats title (x ∷ items) [] are ids = absurd are
are-whats title (x ∷ items) (entry ∷ entries) are ids =
    let none = no-id (said_by entry.what) (λ text is. ids [] entries entry text refl is) in (
      record { is = subst (λ id. what_at x.line id x.item ≡ Some entry.what) none are.0.is; no_id = none },
      are-whats title items entries are.1 (λ before behind e text cut. ids (entry ∷ before) behind e text (ap (λ l. entry ∷ l) cut)),
    )

-- the lines on the lines from that number on
abbrev pub placed : ℕ → List Entry → List Entry
placed number [] = []
placed number (e ∷ entries) = record { line = number; indent = e.indent; what = what_on number e.what } ∷ placed (number + 1) entries

pub placed-same : (number : ℕ) (entries : List Entry) → map entry_without_line entries ≡ map entry_without_line (placed number entries)
placed-same number [] = refl
placed-same number (e ∷ entries) =
    ap₂ (λ (w : What) l. record { line = 0; indent = e.indent; what = w } ∷ l) (sym (what-same number e.what)) (placed-same (number + 1) entries)

-- they are printed with the items that they are
abbrev pub body_lines : List Entry → List ItemAt → List Line
body_lines [] items = []
body_lines (e ∷ entries) [] = []
body_lines (e ∷ entries) (x ∷ items) = record { indent = e.indent; text = what_text e.what; item = x.item } ∷ body_lines entries items

pub body-text : (entries : List Entry) (items : List ItemAt) → AreWhats items (map what_in entries) → text_in (body_lines entries items) ≡ entries_text entries
body-text [] items are = refl
body-text (e ∷ entries) [] are = absurd are
body-text (e ∷ entries) (x ∷ items) are = ap (λ l. entry_text e ++ l) (body-text entries items are.1)

pub entries-on : (number : ℕ) (entries : List Entry) (items : List ItemAt) → AreWhats items (map what_in entries) →
    AreEntries (numbered number (body_lines entries items)) (placed number entries)
entries-on number [] items are = tt
entries-on number (e ∷ entries) [] are = absurd are
entries-on number (e ∷ entries) (x ∷ items) are = (
  record {
    line = refl;
    indent = refl;
    is =
        ap (λ id. what_at number id x.item) (id-on number e.what ∙ are.0.no_id) ∙ what-on x.line number [] x.item ∙ ap (found_on number) are.0.is;
  },
  entries-on (number + 1) entries items are.1,
)

-- none of them has an id
abbrev NoIds : List Entry → Type 0
NoIds [] = Unit {0}
NoIds (e ∷ entries) = (id_in (said_by e.what) ≡ []) × NoIds entries

none-placed : (number : ℕ) (entries : List Entry) (items : List ItemAt) → AreWhats items (map what_in entries) → NoIds (placed number entries)
none-placed number [] items are = tt
none-placed number (e ∷ entries) [] are = absurd are
none-placed number (e ∷ entries) (x ∷ items) are = (id-on number e.what ∙ are.0.no_id, none-placed (number + 1) entries items are.1)

none-within : (before behind : List Entry) (e : Entry) → NoIds (before ++ e ∷ behind) → id_in (said_by e.what) ≡ []
none-within [] behind e none = none.0
none-within (b ∷ before) behind e none = none-within before behind e none.1

pub no-ids : (title : List ℕ) (number : ℕ) (entries : List Entry) (items : List ItemAt) → AreWhats items (map what_in entries) → HasNoIds title (placed number entries)
no-ids title number entries items are before behind e text cut is =
    sym (ap id_in is) ∙ none-within before behind e (subst NoIds cut (none-placed number entries items are))

-- ---- the texts of a body

-- a line of a body leaves the mode
stays : (line : ℕ) (own : Item) (w : What) → what_at line [] own ≡ Some w → next_mode InBody own ≡ InBody
stays line (item.Line said) w is = refl
stays line (item.Offer said asked) w is = refl
stays line (item.Command own tags) w is = refl
stays line (item.Game said) w is = refl
stays line (item.FileTag tag) w is = absurd (cc)
stays line (item.Header header) w is = absurd (cc)
stays line item.BodyBegins w is = absurd (cc)
stays line item.NodeEnds w is = absurd (cc)

pub body-texts : (items rest : List ItemAt) (ws : List What) → AreWhats items ws → HaveTexts InBody (items ++ rest) → HaveTexts InBody items × HaveTexts InBody rest
body-texts [] rest [] are have = (tt, have)
body-texts [] rest (w ∷ ws) are have = absurd are
body-texts (x ∷ items) rest [] are have = absurd are
body-texts (x ∷ items) rest (w ∷ ws) are have =
    let same = stays x.line x.item w are.0.is in
    let more = body-texts items rest ws are.1 (subst (λ m. HaveTexts m (items ++ rest)) same have.1) in
    ((have.0, subst (λ m. HaveTexts m items) (sym same) more.0), more.1)

pub body-fine : LinesPrinted → PrintedAlone → (entries : List Entry) (items : List ItemAt) → AreWhats items (map what_in entries) → HaveTexts InBody items →
    Fine InBody (body_lines entries items) InBody
body-fine lines alone [] items are have = no_line
body-fine lines alone (e ∷ entries) [] are have = absurd are
body-fine lines alone (e ∷ entries) (x ∷ items) are have =
    let own = have.0 in
    let same = stays x.line x.item e.what are.0.is in
    one_line
    (record {
      alone = alone own.text x.line [] x.item e.what own.printed.alone own.printed.has are.0.is;
      has = lines own.text x.line [] x.item e.what own.printed.alone.utf8 own.printed.has are.0.is;
    })
    (subst (λ m. Fine m (body_lines entries items) InBody) (sym same) (body-fine lines alone entries items are.1 (subst (λ m. HaveTexts m items) same have.1)))

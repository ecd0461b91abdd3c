-- Entries of items, and one entry more: the ids of a body, and its marks.
use Rattle.std.proofs.Common.{◌≡◌, ℕ, ◌+◌, List, [], ◌∷◌, ◌++◌, Bool, Option, Some, None, refl, sym, ap, ◌∙◌, subst, ◌⊎◌, inl, inr}
use Rattle.yarn_commands.specs.declared.command.Command.{Command}
use Rattle.yarn_commands.specs.declared.command.Command.TheVariants as command
use Rattle.yarn_items.specs.declared.item.Said.{Said}
use Rattle.yarn_items.specs.declared.item.Item.{Item}
use Rattle.yarn_items.specs.declared.item.Item.TheVariants as item
use Rattle.yarn_blocks.specs.declared.entry.Entry.{Entry}
use Rattle.yarn_blocks.specs.declared.entry.What.{What}
use Rattle.yarn_blocks.specs.declared.entry.What.TheVariants as what
use Rattle.yarn_blocks.specs.declared.entry.Simple.TheVariants as simple
use Rattle.yarn_blocks.specs.declared.mark.Mark.{Mark}
use Rattle.yarn_blocks.specs.declared.tree.LineText.{LineText}
use Rattle.yarn_blocks.specs.Entries.{mark_of, marks_of, line_in, HaveLines}
use Rattle.yarn_nodes.specs.Entries.{ItemAt, text_at, command_at, what_at, said_by, id_in, IsEntry, AreEntries}
use Rattle.yarn_nodes.specs.Ids.{Naming, and_said, said_in}
use Rattle.yarn_nodes.specs.Nodes.{id_given}
use Rattle.yarn_nodes.specs.Structure.{mark_on, and_mark, marks_past}

pub entries-more : (xs : List ItemAt) (b : List Entry) (x : ItemAt) (e : Entry) → AreEntries xs b → IsEntry x e → AreEntries (xs ++ x ∷ []) (b ++ e ∷ [])
entries-more [] [] x e are is = (is, tt)
entries-more [] (f ∷ b) x e are is = absurd are
entries-more (y ∷ xs) [] x e are is = absurd are
entries-more (y ∷ xs) (f ∷ b) x e are is = (are.0, entries-more xs b x e are.1 is)

-- each line has the id that the reading gives it: `HasIds` and `HasNoIds` at once
abbrev pub HasGiven : Bool → Naming
HasGiven ids title body = (before behind : List Entry) (entry : Entry) (text : LineText) → body ≡ before ++ entry ∷ behind → said_by entry.what ≡ Some text →
    text.id ≡ id_given ids text.tags title (said_in before)

-- the id of an entry that has that many lines before it, where it has one
abbrev pub HasId : Bool → List ℕ → ℕ → Entry → Type 0
HasId ids title before entry = (text : LineText) → said_by entry.what ≡ Some text → text.id ≡ id_given ids text.tags title before

-- where a cut of one entry more falls
cut-more : {A : Type 0} (b before behind : List A) (s y : A) → b ++ s ∷ [] ≡ before ++ y ∷ behind →
    ((rest : List A) × (b ≡ before ++ y ∷ rest)) ⊎ ((b ≡ before) × (s ≡ y))
cut-more [] [] behind s y e = inr (refl, cc)
cut-more [] (z ∷ []) behind s y e = absurd cc
cut-more [] (z ∷ w ∷ before) behind s y e = absurd cc
cut-more (x ∷ b) [] behind s y e = inl (b, cc)
cut-more {A = A} (x ∷ b) (z ∷ before) behind s y e = by_cut (cut-more b before behind s y cc) cc
  where
    by_cut : ((rest : List A) × (b ≡ before ++ y ∷ rest)) ⊎ ((b ≡ before) × (s ≡ y)) → x ≡ z →
        ((rest : List A) × (x ∷ b ≡ (z ∷ before) ++ y ∷ rest)) ⊎ ((x ∷ b ≡ z ∷ before) × (s ≡ y))
    by_cut (inl found) same = inl (found.0, let e = found.1 in cc)
    by_cut (inr found) same = inr (let e = found.0 in cc, found.1)

pub ids-more : (ids : Bool) (title : List ℕ) (b : List Entry) (s : Entry) → HasGiven ids title b → HasId ids title (said_in b) s → HasGiven ids title (b ++ s ∷ [])
ids-more ids title b s given id before behind entry text e said = by_cut (cut-more b before behind s entry e)
  where
    by_cut : ((rest : List Entry) × (b ≡ before ++ entry ∷ rest)) ⊎ ((b ≡ before) × (s ≡ entry)) → text.id ≡ id_given ids text.tags title (said_in before)
    by_cut (inl found) = given before found.0 entry text found.1 said
    by_cut (inr found) =
        subst (HasId ids title (said_in b)) found.1 id text said ∙ ap (λ (l : List Entry). id_given ids text.tags title (said_in l)) found.0

pub no_ids : (ids : Bool) (title : List ℕ) → HasGiven ids title []
no_ids ids title [] behind entry text e said = absurd cc
no_ids ids title (s ∷ before) behind entry text e said = absurd cc

-- the id of an entry within a body
pub id-within : (ids : Bool) (title : List ℕ) (done b : List Entry) (s : Entry) → HasGiven ids title (done ++ s ∷ b) → HasId ids title (said_in done) s
id-within ids title done b s given text said = given done b s text refl said

and_said-one : (o : Option LineText) (n : ℕ) → and_said o (n + 1) ≡ and_said o n + 1
and_said-one (Some text) n = refl
and_said-one None n = refl

pub said_in-said : (b : List Entry) (e : Entry) (text : LineText) → said_by e.what ≡ Some text → said_in (b ++ e ∷ []) ≡ said_in b + 1
said_in-said [] e text is = ap (λ (o : Option LineText). and_said o 0) is
said_in-said (first ∷ b) e text is =
    ap (and_said (said_by first.what)) (said_in-said b e text is) ∙ and_said-one (said_by first.what) (said_in b)

pub said_in-other : (b : List Entry) (e : Entry) → said_by e.what ≡ None → said_in (b ++ e ∷ []) ≡ said_in b
said_in-other [] e is = ap (λ (o : Option LineText). and_said o 0) is
said_in-other (first ∷ b) e is = ap (and_said (said_by first.what)) (said_in-other b e is)

-- Commands.

abbrev pub said_or : Option What → Option LineText
said_or (Some w) = said_by w
said_or None = None

command-silent : (line : ℕ) (tags : List (List ℕ)) (own : Command) → said_or (command_at line tags own) ≡ None
command-silent line tags (command.If e) = refl
command-silent line tags (command.ElseIf e) = refl
command-silent line tags command.Else = refl
command-silent line tags command.EndIf = refl
command-silent line tags (command.Set name op e) = refl
command-silent line tags (command.Declare name value kind) = refl
command-silent line tags (command.Jump title) = refl
command-silent line tags (command.JumpTo e) = refl
command-silent line tags command.Stop = refl
command-silent line tags (command.Call e) = refl
command-silent line tags command.Game = refl

-- nothing is said by a command
pub command-says : (line : ℕ) (tags : List (List ℕ)) (own : Command) (w : What) → command_at line tags own ≡ Some w → said_by w ≡ None
command-says line tags own w is = sym (ap said_or is) ∙ command-silent line tags own

pub command-some : (line : ℕ) (tags : List (List ℕ)) (own : Command) → (own ≡ command.Game → ⊥) → (w : What) × (command_at line tags own ≡ Some w)
command-some line tags (command.If e) other = (_, refl)
command-some line tags (command.ElseIf e) other = (_, refl)
command-some line tags command.Else other = (_, refl)
command-some line tags command.EndIf other = (_, refl)
command-some line tags (command.Set name op e) other = (_, refl)
command-some line tags (command.Declare name value kind) other = (_, refl)
command-some line tags (command.Jump title) other = (_, refl)
command-some line tags (command.JumpTo e) other = (_, refl)
command-some line tags command.Stop other = (_, refl)
command-some line tags (command.Call e) other = (_, refl)
command-some line tags command.Game other = absurd (other refl)

-- Marks.

abbrev line_or : ℕ → Option What → ℕ
line_or line (Some w) = line_in w
line_or line None = line

command-line : (line : ℕ) (tags : List (List ℕ)) (own : Command) → line_or line (command_at line tags own) ≡ line
command-line line tags (command.If e) = refl
command-line line tags (command.ElseIf e) = refl
command-line line tags command.Else = refl
command-line line tags command.EndIf = refl
command-line line tags (command.Set name op e) = refl
command-line line tags (command.Declare name value kind) = refl
command-line line tags (command.Jump title) = refl
command-line line tags (command.JumpTo e) = refl
command-line line tags command.Stop = refl
command-line line tags (command.Call e) = refl
command-line line tags command.Game = refl

what-line : (line : ℕ) (id : List ℕ) (i : Item) → line_or line (what_at line id i) ≡ line
what-line line id (item.Line said) = refl
what-line line id (item.Offer said asked) = refl
what-line line id (item.Command own tags) = command-line line tags own
what-line line id (item.Game said) = refl
what-line line id (item.FileTag tag) = refl
what-line line id (item.Header header) = refl
what-line line id item.BodyBegins = refl
what-line line id item.NodeEnds = refl

-- the contents of an entry bear its line
pub entry-line : (x : ItemAt) (e : Entry) → IsEntry x e → e.line ≡ line_in e.what
entry-line x e is = is.line ∙ sym (what-line x.line (id_in (said_by e.what)) x.item) ∙ ap (line_or x.line) is.is

pub entries-lines : (xs : List ItemAt) (b : List Entry) → AreEntries xs b → HaveLines b
entries-lines [] [] are = tt
entries-lines [] (e ∷ b) are = absurd are
entries-lines (x ∷ xs) [] are = absurd are
entries-lines (x ∷ xs) (e ∷ b) are = (entry-line x e are.0, entries-lines xs b are.1)

-- the id tells nothing of the mark
mark-any : (marks : List Mark) (line indent : ℕ) (id other : List ℕ) (i : Item) → and_mark marks line indent (what_at line id i) ≡ and_mark marks line indent (what_at line other i)
mark-any marks line indent id other (item.Line said) = refl
mark-any marks line indent id other (item.Offer said asked) = refl
mark-any marks line indent id other (item.Command own tags) = refl
mark-any marks line indent id other (item.Game said) = refl
mark-any marks line indent id other (item.FileTag tag) = refl
mark-any marks line indent id other (item.Header header) = refl
mark-any marks line indent id other item.BodyBegins = refl
mark-any marks line indent id other item.NodeEnds = refl

-- an item that is a line of a body
abbrev pub IsBodyItem : Item → Type 0
IsBodyItem (item.Line said) = Unit {0}
IsBodyItem (item.Offer said asked) = Unit {0}
IsBodyItem (item.Command own tags) = own ≡ command.Game → ⊥
IsBodyItem (item.Game said) = Unit {0}
IsBodyItem (item.FileTag tag) = ⊥
IsBodyItem (item.Header header) = ⊥
IsBodyItem item.BodyBegins = ⊥
IsBodyItem item.NodeEnds = ⊥

entry-item : (line : ℕ) (id : List ℕ) (i : Item) (w : What) → what_at line id i ≡ Some w → IsBodyItem i
entry-item line id (item.Line said) w is = tt
entry-item line id (item.Offer said asked) w is = tt
entry-item line id (item.Command own tags) w is = λ e. let h : None ≡ Some w = sym (ap (command_at line tags) e) ∙ is in absurd cc
entry-item line id (item.Game said) w is = tt
entry-item line id (item.FileTag tag) w is = absurd cc
entry-item line id (item.Header header) w is = absurd cc
entry-item line id item.BodyBegins w is = absurd cc
entry-item line id item.NodeEnds w is = absurd cc

pub is_body_item : (x : ItemAt) (e : Entry) → IsEntry x e → IsBodyItem x.item
is_body_item x e is = entry-item x.line (id_in (said_by e.what)) x.item e.what is.is

marks-and : (marks : List Mark) (line indent : ℕ) (i : Item) → IsBodyItem i → marks_past marks line indent i ≡ and_mark marks line indent (what_at line [] i)
marks-and marks line indent (item.Line said) is = refl
marks-and marks line indent (item.Offer said asked) is = refl
marks-and marks line indent (item.Command own tags) is = refl
marks-and marks line indent (item.Game said) is = refl
marks-and marks line indent (item.FileTag tag) is = absurd is
marks-and marks line indent (item.Header header) is = absurd is
marks-and marks line indent item.BodyBegins is = absurd is
marks-and marks line indent item.NodeEnds is = absurd is

-- the mark of an item is that of its entry
pub entry-mark : (marks : List Mark) (x : ItemAt) (e : Entry) → IsEntry x e → marks_past marks x.line x.indent x.item ≡ marks ++ mark_of e ∷ []
entry-mark marks x e is =
    marks-and marks x.line x.indent x.item (is_body_item x e is)
    ∙ mark-any marks x.line x.indent [] (id_in (said_by e.what)) x.item
    ∙ ap (and_mark marks x.line x.indent) is.is
    ∙ ap (λ (n : ℕ). marks ++ mark_on n x.indent e.what ∷ []) (sym is.line)
    ∙ ap (λ (n : ℕ). marks ++ mark_on e.line n e.what ∷ []) (sym is.indent)

pub marks-append : (a b : List Entry) → marks_of (a ++ b) ≡ marks_of a ++ marks_of b
marks-append [] b = refl
marks-append (e ∷ a) b = ap (λ (l : List Mark). mark_of e ∷ l) (marks-append a b)

-- the entry of an item under an id
abbrev pub entry_at : ItemAt → What → Entry
entry_at x w = record { line = x.line; indent = x.indent; what = w }

-- an entry of an item of a body, with the id that the reading gives it
pub record HasEntry (ids : Bool) (title : List ℕ) (before : ℕ) (x : ItemAt) : Type 0 where
  pub entry : Entry
  pub is : IsEntry x entry
  pub id : HasId ids title before entry

module _ (ids : Bool) (title : List ℕ) (before : ℕ) (x : ItemAt) where
  spoken-id : (said : Said) (w : What) → said_by w ≡ Some (text_at x.line (id_given ids said.tags title before) said) → HasId ids title before (entry_at x w)
  spoken-id said w is text e =
      let same : Some (text_at x.line (id_given ids said.tags title before) said) ≡ Some text = sym is ∙ e in
      let own : text_at x.line (id_given ids said.tags title before) said ≡ text = cc in
      subst (λ (t : LineText). t.id ≡ id_given ids t.tags title before) own refl

  silent-id : (w : What) → said_by w ≡ None → HasId ids title before (entry_at x w)
  silent-id w is text e = let h : None ≡ Some text = sym is ∙ e in absurd cc

  entry-by : (i : Item) → x.item ≡ i → IsBodyItem i → HasEntry ids title before x
  entry-by (item.Line said) same body =
      let own = text_at x.line (id_given ids said.tags title before) said in
      record {
        entry = entry_at x (what.Statement (simple.Line own));
        is = record { line = refl; indent = refl; is = ap (what_at x.line own.id) same };
        id = spoken-id said (what.Statement (simple.Line own)) refl;
      }
  entry-by (item.Offer said asked) same body =
      let own = text_at x.line (id_given ids said.tags title before) said in
      record {
        entry = entry_at x (what.Offer own asked);
        is = record { line = refl; indent = refl; is = ap (what_at x.line own.id) same };
        id = spoken-id said (what.Offer own asked) refl;
      }
  entry-by (item.Command own tags) same body =
      let w = command-some x.line tags own body in
      let silent = command-says x.line tags own w.0 w.1 in
      record {
        entry = entry_at x w.0;
        is = record { line = refl; indent = refl; is = ap (what_at x.line (id_in (said_by w.0))) same ∙ w.1 };
        id = silent-id w.0 silent;
      }
  entry-by (item.Game said) same body = record {
    entry = entry_at x (what.Statement (simple.Command (text_at x.line [] said)));
    is = record { line = refl; indent = refl; is = ap (what_at x.line []) same };
    id = silent-id (what.Statement (simple.Command (text_at x.line [] said))) refl;
  }
  entry-by (item.FileTag tag) same body = absurd body
  entry-by (item.Header header) same body = absurd body
  entry-by item.BodyBegins same body = absurd body
  entry-by item.NodeEnds same body = absurd body

  pub body-entry : IsBodyItem x.item → HasEntry ids title before x
  body-entry body = entry-by x.item refl body

-- Where nothing is misplaced and nothing too deep is shown, the bodies that are read are blocks that are nowhere too deep.
use Rattle.std.proofs.Common.{◌≡◌, ℕ, List, [], ◌∷◌, ◌++◌, Bool, Option, Some, None, All, refl, sym, ap, ◌∙◌, subst}
use Rattle.std.proofs.lemmas.List.Elements.{All-nil, All-cons}
use Rattle.yarn_commands.specs.declared.command.Command.{Command}
use Rattle.yarn_commands.specs.declared.command.Command.TheVariants as command
use Rattle.yarn_items.specs.declared.item.Header.{Header}
use Rattle.yarn_items.specs.declared.item.Mode.TheVariants.{InHeaders}
use Rattle.yarn_items.specs.declared.item.Item.{Item}
use Rattle.yarn_items.specs.declared.item.Item.TheVariants as item
use Rattle.yarn_blocks.specs.declared.entry.Entry.{Entry}
use Rattle.yarn_blocks.specs.declared.entry.What.{What}
use Rattle.yarn_blocks.specs.declared.mark.Mark.{Mark}
use Rattle.yarn_blocks.specs.declared.verdict.Verdict.{Verdict}
use Rattle.yarn_blocks.specs.declared.verdict.Verdict.TheVariants as verdict
use Rattle.yarn_blocks.specs.Entries.{shape_of, line_in, mark_of, marks_of, HaveLines}
use Rattle.yarn_blocks.specs.Outline.{verdict_in}
use Rattle.yarn_blocks.specs.Verdict.{IsVerdict, IsShallow}
use Rattle.yarn_blocks.proofs.FrameLemmas.{block-shallow}
use Rattle.yarn_blocks.proofs.Outlines.{marks_tell}
use Rattle.yarn_nodes.specs.declared.draft.Draft.{Draft}
use Rattle.yarn_nodes.specs.declared.node.NodeLines.{NodeLines}
use Rattle.yarn_nodes.specs.declared.structure.Stand.{Stand}
use Rattle.yarn_nodes.specs.declared.structure.Stand.TheVariants.{Front, Between, Headed, Inside}
use Rattle.yarn_nodes.specs.Places.{or_later}
use Rattle.yarn_nodes.specs.Entries.{ItemAt, what_at, command_at}
use Rattle.yarn_nodes.specs.Finds.{items_from}
use Rattle.yarn_nodes.specs.Nodes.{no_draft, header_taken, and_what, counted, draft_behind, nodes_from, node_of, and_node, next_id}
use Rattle.yarn_nodes.specs.Reader.{file_of}
use Rattle.yarn_nodes.specs.Structure.{header_behind, stand_behind, and_mark, marks_behind, body_fault, end_fault, misplaced_at, first_misplaced, deep_in, shown_at, first_shown}
use Rattle.yarn_lines.specs.Lines.{Lines}

abbrev HasShallowBody : NodeLines → Type 0
HasShallowBody node = IsShallow node.body

or-none : {A : Type 0} (a b : Option A) → or_later a b ≡ None → (a ≡ None) × (b ≡ None)
or-none None b is = (refl, is)
or-none (Some x) b is = absurd cc

-- the marks are those of the body that is open
abbrev Open : Stand → List Mark → Draft → Type 0
Open Front marks draft = Unit {0}
Open Between marks draft = Unit {0}
Open Headed marks draft = Unit {0}
Open Inside marks draft = (marks ≡ marks_of draft.body) × HaveLines draft.body

header-open : (stand : Stand) (marks : List Mark) (draft : Draft) (line : ℕ) (h : Header) → Open stand marks draft → Open (header_behind stand) marks (header_taken draft line h)
header-open Front marks draft line h is = tt
header-open Between marks draft line h is = tt
header-open Headed marks draft line h is = tt
header-open Inside marks draft line h is = is

marks-append : (a b : List Entry) → marks_of (a ++ b) ≡ marks_of a ++ marks_of b
marks-append [] b = refl
marks-append (x ∷ a) b = ap (λ (l : List Mark). mark_of x ∷ l) (marks-append a b)

lines-append : (a b : List Entry) → HaveLines a → HaveLines b → HaveLines (a ++ b)
lines-append [] b ha hb = hb
lines-append (x ∷ a) b ha hb = (ha.0, lines-append a b ha.1 hb)

-- one more line in the body
entry-open : (marks : List Mark) (body : List Entry) (entry : Entry) → (marks ≡ marks_of body) × HaveLines body → entry.line ≡ line_in entry.what →
    (marks ++ mark_of entry ∷ [] ≡ marks_of (body ++ entry ∷ [])) × HaveLines (body ++ entry ∷ [])
entry-open marks body entry is line = (
  ap (λ (l : List Mark). l ++ mark_of entry ∷ []) is.0 ∙ sym (marks-append body (entry ∷ [])),
  lines-append body (entry ∷ []) is.1 (line, tt),
)

-- a line with another id
abbrev SameLine : ℕ → Option What → Option What → Type 0
SameLine line None None = Unit {0}
SameLine line None (Some y) = ⊥
SameLine line (Some x) None = ⊥
SameLine line (Some x) (Some y) = (shape_of x ≡ shape_of y) × (line ≡ line_in y)

-- a line with its contents leaves the mark that it has without its id
what-open : (stand : Stand) (marks : List Mark) (draft : Draft) (line indent : ℕ) (w v : Option What) → SameLine line w v → Open stand marks draft →
    Open stand (and_mark marks line indent w) (and_what draft line indent v)
what-open Front marks draft line indent w v same is = tt
what-open Between marks draft line indent w v same is = tt
what-open Headed marks draft line indent w v same is = tt
what-open Inside marks draft line indent None None same is = is
what-open Inside marks draft line indent None (Some y) same is = absurd same
what-open Inside marks draft line indent (Some x) None same is = absurd same
what-open Inside marks draft line indent (Some x) (Some y) same is =
    let entry : Entry = record { line = line; indent = indent; what = y } in
    let one = entry-open marks draft.body entry is same.1 in
    (ap (λ s. marks ++ record { line = line; indent = indent; shape = s } ∷ []) same.0 ∙ one.0, one.1)

counted-open : (stand : Stand) (marks : List Mark) (draft : Draft) → Open stand marks draft → Open stand marks (counted draft)
counted-open Front marks draft is = tt
counted-open Between marks draft is = tt
counted-open Headed marks draft is = tt
counted-open Inside marks draft is = is

same-command : (line : ℕ) (tags : List (List ℕ)) (own : Command) → SameLine line (command_at line tags own) (command_at line tags own)
same-command line tags (command.If e) = (refl, refl)
same-command line tags (command.ElseIf e) = (refl, refl)
same-command line tags command.Else = (refl, refl)
same-command line tags command.EndIf = (refl, refl)
same-command line tags (command.Set name op e) = (refl, refl)
same-command line tags (command.Declare name value kind) = (refl, refl)
same-command line tags (command.Jump title) = (refl, refl)
same-command line tags (command.JumpTo e) = (refl, refl)
same-command line tags command.Stop = (refl, refl)
same-command line tags (command.Call e) = (refl, refl)
same-command line tags command.Game = tt

-- the marks stay those of the open body
open-behind : (ids : Bool) (stand : Stand) (marks : List Mark) (draft : Draft) (line indent : ℕ) (i : Item) → Open stand marks draft →
    Open (stand_behind stand i) (marks_behind marks (record { line = line; indent = indent; item = i }))
    (draft_behind ids draft (record { line = line; indent = indent; item = i }))
open-behind ids stand marks draft line indent (item.FileTag tag) is = is
open-behind ids stand marks draft line indent (item.Header h) is = header-open stand marks draft line h is
open-behind ids stand marks draft line indent item.BodyBegins is = (refl, tt)
open-behind ids stand marks draft line indent item.NodeEnds is = tt
open-behind ids stand marks draft line indent (item.Line said) is =
    let id = next_id ids draft said.tags in
    counted-open stand _ (and_what draft line indent (what_at line id (item.Line said)))
    (what-open stand marks draft line indent (what_at line [] (item.Line said)) (what_at line id (item.Line said)) (refl, refl) is)
open-behind ids stand marks draft line indent (item.Offer said asked) is =
    let id = next_id ids draft said.tags in
    counted-open stand _ (and_what draft line indent (what_at line id (item.Offer said asked)))
    (what-open stand marks draft line indent (what_at line [] (item.Offer said asked)) (what_at line id (item.Offer said asked)) (refl, refl) is)
open-behind ids stand marks draft line indent (item.Command own tags) is =
    what-open stand marks draft line indent (command_at line tags own) (command_at line tags own) (same-command line tags own) is
open-behind ids stand marks draft line indent (item.Game said) is =
    what-open stand marks draft line indent (what_at line [] (item.Game said)) (what_at line [] (item.Game said)) (refl, refl) is

-- a body that ends where it may, and shows nothing
verdict-shallow : (line : ℕ) (body : List Entry) (v : Verdict) → IsVerdict body v → body_fault line v ≡ None → deep_in v ≡ None → IsShallow body
verdict-shallow line body (verdict.Block excess) is placed shown = block-shallow body excess is shown
verdict-shallow line body (verdict.Bad at l) is placed shown = absurd cc
verdict-shallow line body verdict.Unfinished is placed shown = absurd cc

ended-shallow : (stand : Stand) (marks : List Mark) (draft : Draft) (line : ℕ) → end_fault stand marks line ≡ None → deep_in (verdict_in marks) ≡ None →
    Open stand marks draft → IsShallow draft.body
ended-shallow Front marks draft line placed shown opened = absurd cc
ended-shallow Between marks draft line placed shown opened = absurd cc
ended-shallow Headed marks draft line placed shown opened = absurd cc
ended-shallow Inside marks draft line placed shown opened =
    verdict-shallow line draft.body (verdict_in marks) (subst (IsVerdict draft.body) (sym (ap verdict_in opened.0)) (marks_tell draft.body opened.1)) placed shown

and-shallow : (stand : Stand) (marks : List Mark) (draft : Draft) (line : ℕ) (i : Item) (nodes : List NodeLines) → misplaced_at stand marks line i ≡ None →
    shown_at deep_in marks i ≡ None → Open stand marks draft → All HasShallowBody nodes → All HasShallowBody (and_node draft line i nodes)
and-shallow stand marks draft line (item.FileTag tag) nodes placed shown opened rest = rest
and-shallow stand marks draft line (item.Header h) nodes placed shown opened rest = rest
and-shallow stand marks draft line item.BodyBegins nodes placed shown opened rest = rest
and-shallow stand marks draft line item.NodeEnds nodes placed shown opened rest =
    All-cons HasShallowBody (node_of draft line) nodes (ended-shallow stand marks draft line placed shown opened) rest
and-shallow stand marks draft line (item.Line said) nodes placed shown opened rest = rest
and-shallow stand marks draft line (item.Offer said asked) nodes placed shown opened rest = rest
and-shallow stand marks draft line (item.Command own tags) nodes placed shown opened rest = rest
and-shallow stand marks draft line (item.Game said) nodes placed shown opened rest = rest

nodes-shallow : (ids : Bool) (stand : Stand) (marks : List Mark) (draft : Draft) (end : ℕ) (items : List ItemAt) → first_misplaced stand marks end items ≡ None →
    first_shown deep_in marks items ≡ None → Open stand marks draft → All HasShallowBody (nodes_from ids draft items)
nodes-shallow ids stand marks draft end [] placed shown opened = All-nil HasShallowBody
nodes-shallow ids stand marks draft end (x ∷ xs) placed shown opened =
    let a = or-none (misplaced_at stand marks x.line x.item) (first_misplaced (stand_behind stand x.item) (marks_behind marks x) end xs) placed in
    let b = or-none (shown_at deep_in marks x.item) (first_shown deep_in (marks_behind marks x) xs) shown in
    and-shallow stand marks draft x.line x.item (nodes_from ids (draft_behind ids draft x) xs) a.0 b.0 opened
    (nodes-shallow ids (stand_behind stand x.item) (marks_behind marks x) (draft_behind ids draft x) end xs a.1 b.1
    (open-behind ids stand marks draft x.line x.indent x.item opened))

pub file-shallow : (ids : Bool) (number : ℕ) (name : List ℕ) (lines : Lines) → (file_of ids number name lines).notes.misplaced ≡ None →
    (file_of ids number name lines).notes.too_deep ≡ None → All (λ node. IsShallow node.body) (file_of ids number name lines).file.nodes
unfolding file_of
file-shallow ids number name lines placed shallow = nodes-shallow ids Front [] no_draft lines.end (items_from InHeaders lines.lines) placed shallow tt

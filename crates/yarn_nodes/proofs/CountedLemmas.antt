-- Where nothing is misplaced and each node is titled well, each line that is said has an id of its own, or that of its place.
use Rattle.std.proofs.Common.{◌≡◌, ℕ, ◌+◌, List, [], ◌∷◌, ◌++◌, Bool, true, false, not, cond, Option, Some, None, is_some, refl, sym, ap, ◌∙◌, subst, arith}
use Rattle.yarn_commands.specs.declared.command.Command.{Command}
use Rattle.yarn_commands.specs.declared.command.Command.TheVariants as command
use Rattle.yarn_lines.specs.Lines.{Lines}
use Rattle.yarn_items.specs.declared.item.Header.{Header}
use Rattle.yarn_items.specs.declared.item.Mode.TheVariants.{InHeaders}
use Rattle.yarn_items.specs.declared.item.Item.{Item}
use Rattle.yarn_items.specs.declared.item.Item.TheVariants as item
use Rattle.yarn_blocks.specs.declared.entry.Entry.{Entry}
use Rattle.yarn_blocks.specs.declared.entry.What.{What}
use Rattle.yarn_blocks.specs.declared.tree.LineText.{LineText}
use Rattle.yarn_nodes.specs.declared.draft.Draft.{Draft}
use Rattle.yarn_nodes.specs.declared.node.NodeLines.{NodeLines}
use Rattle.yarn_nodes.specs.declared.node.Titled.{Titled}
use Rattle.yarn_nodes.specs.declared.structure.Stand.{Stand}
use Rattle.yarn_nodes.specs.declared.structure.Stand.TheVariants.{Front, Between, Headed, Inside}
use Rattle.yarn_blocks.specs.declared.mark.Mark.{Mark}
use Rattle.yarn_nodes.specs.Places.{or_later}
use Rattle.yarn_nodes.specs.Entries.{ItemAt, command_at, text_at, said_by}
use Rattle.yarn_nodes.specs.Finds.{items_from}
use Rattle.yarn_blocks.specs.LineIds.{line_id}
use Rattle.yarn_nodes.specs.Ids.{and_said, said_in, id_among}
use Rattle.yarn_nodes.specs.Nodes.{no_draft, titled_of, header_taken, and_what, counted, next_id, draft_behind, and_node, nodes_from, and_titled, titles_from}
use Rattle.yarn_nodes.specs.Reader.{file_of}
use Rattle.yarn_nodes.specs.Structure.{header_behind, stand_behind, marks_behind, end_fault, misplaced_at, first_misplaced}
use Rattle.yarn_nodes.specs.Titles.{is_title, is_mistitled, titled_behind, first_mistitled}

-- the id of what is said behind that many others
abbrev pub HasCount : List ℕ → ℕ → Option LineText → Type 0
HasCount title k None = Unit {0}
HasCount title k (Some text) = text.id ≡ id_among text.tags (line_id title k)

abbrev pub Counted : List ℕ → ℕ → List Entry → Type 0
Counted title k [] = Unit {0}
Counted title k (entry ∷ body) = HasCount title k (said_by entry.what) × Counted title (and_said (said_by entry.what) k) body

abbrev pub AllCounted : List NodeLines → Type 0
AllCounted [] = Unit {0}
AllCounted (node ∷ nodes) = Counted node.title 0 node.body × AllCounted nodes

-- the titles of nodes
abbrev pub AreTitlesOf : List Titled → List NodeLines → Type 0
AreTitlesOf [] [] = Unit {0}
AreTitlesOf [] (node ∷ nodes) = ⊥
AreTitlesOf (titled ∷ titles) [] = ⊥
AreTitlesOf (titled ∷ titles) (node ∷ nodes) = (titled.title ≡ node.title) × AreTitlesOf titles nodes

said-plus : (o : Option LineText) (k n : ℕ) → k + and_said o n ≡ and_said o k + n
said-plus None k n = refl
said-plus (Some text) k n = omega arith

counted-more : (title : List ℕ) (k : ℕ) (body : List Entry) (entry : Entry) → Counted title k body → HasCount title (k + said_in body) (said_by entry.what) →
    Counted title k (body ++ entry ∷ [])
counted-more title k [] entry all here =
    let e : k + 0 ≡ k = omega arith in
    (subst (λ (n : ℕ). HasCount title n (said_by entry.what)) e here, tt)
counted-more title k (first ∷ body) entry all here = (
  all.0,
  counted-more title (and_said (said_by first.what) k) body entry all.1
      (subst (λ (n : ℕ). HasCount title n (said_by entry.what)) (said-plus (said_by first.what) k (said_in body)) here),
)

said-more : (body : List Entry) (entry : Entry) → said_in (body ++ entry ∷ []) ≡ and_said (said_by entry.what) (said_in body)
said-more [] entry = refl
said-more (first ∷ body) entry =
    ap (and_said (said_by first.what)) (said-more body entry) ∙ swapped (said_by first.what) (said_by entry.what) (said_in body)
  where
    swapped : (a b : Option LineText) (n : ℕ) → and_said a (and_said b n) ≡ and_said b (and_said a n)
    swapped None b n = refl
    swapped (Some text) None n = refl
    swapped (Some text) (Some other) n = refl

-- a node that is titled, with a body whose lines are counted
record IsOpen (draft : Draft) : Type 0 where
  pub title : Titled
  pub titled : draft.title ≡ Some title
  pub all : Counted title.title 0 draft.body
  pub said : draft.said ≡ said_in draft.body

abbrev Ready : Stand → Draft → Type 0
Ready Front draft = Unit {0}
Ready Between draft = Unit {0}
Ready Headed draft = Unit {0}
Ready Inside draft = IsOpen draft

title-of : (draft : Draft) (is : IsOpen draft) → (titled_of draft.title).title ≡ is.title.title
title-of draft is = ap (λ (o : Option Titled). (titled_of o).title) is.titled

header-keeps : (draft : Draft) (line : ℕ) (h : Header) (title : Titled) → draft.title ≡ Some title → (header_taken draft line h).title ≡ Some title
header-keeps draft line h title is = by_test (is_title h) refl
  where
    by_test : (t : Bool) → is_title h ≡ t → (header_taken draft line h).title ≡ Some title
    by_test true test = rw (is, test) refl
    by_test false test = rw (is, test) refl

header-ready : (stand : Stand) (draft : Draft) (line : ℕ) (h : Header) → Ready stand draft → Ready (header_behind stand) (header_taken draft line h)
header-ready Front draft line h ready = tt
header-ready Between draft line h ready = tt
header-ready Headed draft line h ready = tt
header-ready Inside draft line h ready =
    record { title = ready.title; titled = header-keeps draft line h ready.title ready.titled; all = ready.all; said = ready.said }

begun-ready : (o : Option Titled) (headers : List Header) (line : ℕ) → is_some o ≡ true →
    IsOpen (record { title = o; headers = headers; line = line; body = []; said = 0 })
begun-ready None headers line is = absurd cc
begun-ready (Some title) headers line is = record { title = title; titled = refl; all = tt; said = refl }

-- what is said, with the id of its place
said-ready : (stand : Stand) (draft : Draft) (line indent : ℕ) (w : What) (text : LineText) → said_by w ≡ Some text →
    text.id ≡ id_among text.tags (line_id (titled_of draft.title).title draft.said) → Ready stand draft → Ready stand (counted (and_what draft line indent (Some w)))
said-ready Front draft line indent w text is id ready = tt
said-ready Between draft line indent w text is id ready = tt
said-ready Headed draft line indent w text is id ready = tt
said-ready Inside draft line indent w text is id ready =
    let entry : Entry = record { line = line; indent = indent; what = w } in
    let here : HasCount ready.title.title (0 + said_in draft.body) (Some text) =
    id ∙ ap (λ (t : List ℕ). id_among text.tags (line_id t draft.said)) (title-of draft ready)
    ∙ ap (λ (n : ℕ). id_among text.tags (line_id ready.title.title n)) (ready.said ∙ plus-none (said_in draft.body)) in
    record {
      title = ready.title;
      titled = ready.titled;
      all = counted-more ready.title.title 0 draft.body entry ready.all (subst (HasCount ready.title.title (0 + said_in draft.body)) (sym is) here);
      said = ap (λ (n : ℕ). n + 1) ready.said ∙ sym (said-more draft.body entry ∙ ap (λ (o : Option LineText). and_said o (said_in draft.body)) is);
    }
  where
    plus-none : (n : ℕ) → n ≡ 0 + n
    plus-none n = omega arith

-- a line without an id
other-ready : (stand : Stand) (draft : Draft) (line indent : ℕ) (w : What) → said_by w ≡ None → Ready stand draft → Ready stand (and_what draft line indent (Some w))
other-ready Front draft line indent w is ready = tt
other-ready Between draft line indent w is ready = tt
other-ready Headed draft line indent w is ready = tt
other-ready Inside draft line indent w is ready =
    let entry : Entry = record { line = line; indent = indent; what = w } in
    record {
      title = ready.title;
      titled = ready.titled;
      all = counted-more ready.title.title 0 draft.body entry ready.all (subst (HasCount ready.title.title (0 + said_in draft.body)) (sym is) tt);
      said = ready.said ∙ sym (said-more draft.body entry ∙ ap (λ (o : Option LineText). and_said o (said_in draft.body)) is);
    }

command-ready : (stand : Stand) (draft : Draft) (line indent : ℕ) (tags : List (List ℕ)) (own : Command) → Ready stand draft →
    Ready stand (and_what draft line indent (command_at line tags own))
command-ready stand draft line indent tags (command.If e) ready = other-ready stand draft line indent _ refl ready
command-ready stand draft line indent tags (command.ElseIf e) ready = other-ready stand draft line indent _ refl ready
command-ready stand draft line indent tags command.Else ready = other-ready stand draft line indent _ refl ready
command-ready stand draft line indent tags command.EndIf ready = other-ready stand draft line indent _ refl ready
command-ready stand draft line indent tags (command.Set name op e) ready = other-ready stand draft line indent _ refl ready
command-ready stand draft line indent tags (command.Declare name value kind) ready = other-ready stand draft line indent _ refl ready
command-ready stand draft line indent tags (command.Jump title) ready = other-ready stand draft line indent _ refl ready
command-ready stand draft line indent tags (command.JumpTo e) ready = other-ready stand draft line indent _ refl ready
command-ready stand draft line indent tags command.Stop ready = other-ready stand draft line indent _ refl ready
command-ready stand draft line indent tags (command.Call e) ready = other-ready stand draft line indent _ refl ready
command-ready stand draft line indent tags command.Game ready = ready

not-not : (b : Bool) → not b ≡ false → b ≡ true
not-not true is = refl
not-not false is = absurd cc

ready-behind : (stand : Stand) (draft : Draft) (line indent : ℕ) (i : Item) → is_mistitled (is_some draft.title) i ≡ false → Ready stand draft →
    Ready (stand_behind stand i) (draft_behind true draft (record { line = line; indent = indent; item = i }))
ready-behind stand draft line indent (item.FileTag tag) fine ready = ready
ready-behind stand draft line indent (item.Header h) fine ready = header-ready stand draft line h ready
ready-behind stand draft line indent item.BodyBegins fine ready = begun-ready draft.title draft.headers line (not-not (is_some draft.title) fine)
ready-behind stand draft line indent item.NodeEnds fine ready = tt
ready-behind stand draft line indent (item.Line said) fine ready =
    said-ready stand draft line indent _ (text_at line (next_id true draft said.tags) said) refl refl ready
ready-behind stand draft line indent (item.Offer said asked) fine ready =
    said-ready stand draft line indent _ (text_at line (next_id true draft said.tags) said) refl refl ready
ready-behind stand draft line indent (item.Command own tags) fine ready = command-ready stand draft line indent tags own ready
ready-behind stand draft line indent (item.Game said) fine ready = other-ready stand draft line indent _ refl ready

-- whether the draft has a title
titled-header : (draft : Draft) (line : ℕ) (h : Header) → is_some (header_taken draft line h).title ≡ titled_behind (is_some draft.title) (item.Header h)
titled-header draft line h = by_title draft.title (is_title h) refl refl
  where
    by_title : (o : Option Titled) (t : Bool) → draft.title ≡ o → is_title h ≡ t →
        is_some (header_taken draft line h).title ≡ titled_behind (is_some draft.title) (item.Header h)
    by_title None true is test = rw (is, test) refl
    by_title None false is test = rw (is, test) refl
    by_title (Some titled) true is test = rw (is, test) refl
    by_title (Some titled) false is test = rw (is, test) refl

what-title : (draft : Draft) (line indent : ℕ) (o : Option What) → (and_what draft line indent o).title ≡ draft.title
what-title draft line indent None = refl
what-title draft line indent (Some w) = refl

titled-draft : (draft : Draft) (line indent : ℕ) (i : Item) →
    is_some (draft_behind true draft (record { line = line; indent = indent; item = i })).title ≡ titled_behind (is_some draft.title) i
titled-draft draft line indent (item.FileTag tag) = refl
titled-draft draft line indent (item.Header h) = titled-header draft line h
titled-draft draft line indent item.BodyBegins = refl
titled-draft draft line indent item.NodeEnds = refl
titled-draft draft line indent (item.Line said) = refl
titled-draft draft line indent (item.Offer said asked) = refl
titled-draft draft line indent (item.Command own tags) = ap (λ (o : Option Titled). is_some o) (what-title draft line indent (command_at line tags own))
titled-draft draft line indent (item.Game said) = refl

or-none : {A : Type 0} (a b : Option A) → or_later a b ≡ None → (a ≡ None) × (b ≡ None)
or-none None b is = (refl, is)
or-none (Some x) b is = absurd cc

cond-none : {A : Type 0} (test : Bool) (x : A) (o : Option A) → cond test (Some x) o ≡ None → (test ≡ false) × (o ≡ None)
cond-none true x o is = absurd cc
cond-none false x o is = (refl, is)

ended-counted : (stand : Stand) (marks : List Mark) (draft : Draft) (line : ℕ) → end_fault stand marks line ≡ None → Ready stand draft →
    Counted (titled_of draft.title).title 0 draft.body
ended-counted Front marks draft line placed ready = absurd cc
ended-counted Between marks draft line placed ready = absurd cc
ended-counted Headed marks draft line placed ready = absurd cc
ended-counted Inside marks draft line placed ready = subst (λ (t : List ℕ). Counted t 0 draft.body) (sym (title-of draft ready)) ready.all

and-counted : (stand : Stand) (marks : List Mark) (draft : Draft) (line : ℕ) (i : Item) (nodes : List NodeLines) → misplaced_at stand marks line i ≡ None →
    Ready stand draft → AllCounted nodes → AllCounted (and_node draft line i nodes)
and-counted stand marks draft line (item.FileTag tag) nodes placed ready rest = rest
and-counted stand marks draft line (item.Header h) nodes placed ready rest = rest
and-counted stand marks draft line item.BodyBegins nodes placed ready rest = rest
and-counted stand marks draft line item.NodeEnds nodes placed ready rest = (ended-counted stand marks draft line placed ready, rest)
and-counted stand marks draft line (item.Line said) nodes placed ready rest = rest
and-counted stand marks draft line (item.Offer said asked) nodes placed ready rest = rest
and-counted stand marks draft line (item.Command own tags) nodes placed ready rest = rest
and-counted stand marks draft line (item.Game said) nodes placed ready rest = rest

nodes-counted : (stand : Stand) (marks : List Mark) (draft : Draft) (end : ℕ) (items : List ItemAt) → first_misplaced stand marks end items ≡ None →
    first_mistitled (is_some draft.title) items ≡ None → Ready stand draft → AllCounted (nodes_from true draft items)
nodes-counted stand marks draft end [] placed titled ready = tt
nodes-counted stand marks draft end (x ∷ xs) placed titled ready =
    let a = or-none (misplaced_at stand marks x.line x.item) (first_misplaced (stand_behind stand x.item) (marks_behind marks x) end xs) placed in
    let b = cond-none (is_mistitled (is_some draft.title) x.item) x.line (first_mistitled (titled_behind (is_some draft.title) x.item) xs) titled in
    and-counted stand marks draft x.line x.item (nodes_from true (draft_behind true draft x) xs) a.0 ready
    (nodes-counted (stand_behind stand x.item) (marks_behind marks x) (draft_behind true draft x) end xs a.1
    (ap (λ (t : Bool). first_mistitled t xs) (titled-draft draft x.line x.indent x.item) ∙ b.1)
    (ready-behind stand draft x.line x.indent x.item b.0 ready))

and-titles : (draft : Draft) (line : ℕ) (i : Item) (titles : List Titled) (nodes : List NodeLines) → AreTitlesOf titles nodes →
    AreTitlesOf (and_titled draft i titles) (and_node draft line i nodes)
and-titles draft line (item.FileTag tag) titles nodes are = are
and-titles draft line (item.Header h) titles nodes are = are
and-titles draft line item.BodyBegins titles nodes are = are
and-titles draft line item.NodeEnds titles nodes are = (refl, are)
and-titles draft line (item.Line said) titles nodes are = are
and-titles draft line (item.Offer said asked) titles nodes are = are
and-titles draft line (item.Command own tags) titles nodes are = are
and-titles draft line (item.Game said) titles nodes are = are

nodes-titles : (ids : Bool) (draft : Draft) (items : List ItemAt) → AreTitlesOf (titles_from ids draft items) (nodes_from ids draft items)
nodes-titles ids draft [] = tt
nodes-titles ids draft (x ∷ xs) =
    let behind = draft_behind ids draft x in
    and-titles draft x.line x.item (titles_from ids behind xs) (nodes_from ids behind xs) (nodes-titles ids behind xs)

pub file-counted : (number : ℕ) (name : List ℕ) (lines : Lines) → (file_of true number name lines).notes.misplaced ≡ None →
    (file_of true number name lines).notes.mistitled ≡ None → AllCounted (file_of true number name lines).file.nodes
unfolding file_of
file-counted number name lines placed titled = nodes-counted Front [] no_draft lines.end (items_from InHeaders lines.lines) placed titled tt

pub file-titles : (ids : Bool) (number : ℕ) (name : List ℕ) (lines : Lines) →
    AreTitlesOf (file_of ids number name lines).titles (file_of ids number name lines).file.nodes
unfolding file_of
file-titles ids number name lines = nodes-titles ids no_draft (items_from InHeaders lines.lines)

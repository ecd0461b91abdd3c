-- What is read of items that stand where they may: the file whose items they are.
use Rattle.std.proofs.Common.{◌≡◌, ℕ, List, [], ◌∷◌, ◌++◌, Bool, true, false, cond, Option, Some, None, All, refl, sym, ap, ◌∙◌, subst, append_assoc}
use Rattle.std.proofs.lemmas.List.Elements.{All-nil, All-cons}
use Rattle.yarn_commands.specs.declared.command.Command.TheVariants as command
use Rattle.yarn_items.specs.declared.item.Header.{Header}
use Rattle.yarn_items.specs.declared.item.Item.{Item}
use Rattle.yarn_items.specs.declared.item.Item.TheVariants as item
use Rattle.yarn_items.specs.declared.item.Mode.{Mode}
use Rattle.yarn_items.specs.declared.item.Mode.TheVariants.{InHeaders, InBody}
use Rattle.yarn_blocks.specs.declared.entry.Entry.{Entry}
use Rattle.yarn_blocks.specs.declared.mark.Mark.{Mark}
use Rattle.yarn_blocks.specs.declared.verdict.Excess.{Excess}
use Rattle.yarn_blocks.specs.declared.verdict.Verdict.{Verdict}
use Rattle.yarn_blocks.specs.declared.verdict.Verdict.TheVariants as verdict
use Rattle.yarn_blocks.specs.Entries.{marks_of}
use Rattle.yarn_blocks.specs.Outline.{verdict_in}
use Rattle.yarn_nodes.specs.declared.node.Titled.{Titled}
use Rattle.yarn_nodes.specs.declared.node.NodeLines.{NodeLines}
use Rattle.yarn_nodes.specs.declared.node.FileLines.{FileLines}
use Rattle.yarn_nodes.specs.declared.structure.Stand.{Stand}
use Rattle.yarn_nodes.specs.declared.structure.Stand.TheVariants.{Front, Between, Headed, Inside}
use Rattle.yarn_nodes.specs.Entries.{ItemAt, AreEntries}
use Rattle.yarn_nodes.specs.Finds.{next_mode}
use Rattle.yarn_nodes.specs.Ids.{said_in}
use Rattle.yarn_nodes.specs.Laws.{IsBlockBody}
use Rattle.yarn_nodes.specs.Lines.{AreTags, no_tag, next_tag, AreHeaders, no_header, next_header, IsNode, AreNodes, no_node, first_node, IsFile}
use Rattle.yarn_nodes.specs.Nodes.{tags_of, no_draft, titled_of, node_of, nodes_from}
use Rattle.yarn_nodes.specs.Places.{or_later}
use Rattle.yarn_nodes.specs.Structure.{stand_behind, header_behind, marks_past, body_fault, misplaced_at, first_misplaced}
use Rattle.yarn_nodes.proofs.EntryLemmas.{HasGiven, entries-more, entries-lines, ids-more, no_ids, IsBodyItem, marks-append, body-entry}
use Rattle.yarn_nodes.proofs.FileLemmas.{tags-step, nodes-step, misplaced-step, entry-read, entry-fine, title_by, title_behind, title-more, title-headers, in_headers, in_body, node-cut, nodes-no_tags}
use Rattle.yarn_nodes.proofs.VerdictLemmas.{judged-block}

-- an item that a line of that mode may be
abbrev pub FitsMode : Mode → Item → Type 0
FitsMode InHeaders (item.FileTag tag) = Unit {0}
FitsMode InHeaders (item.Header header) = Unit {0}
FitsMode InHeaders item.BodyBegins = Unit {0}
FitsMode InHeaders item.NodeEnds = Unit {0}
FitsMode InHeaders (item.Line said) = ⊥
FitsMode InHeaders (item.Offer said asked) = ⊥
FitsMode InHeaders (item.Command own tags) = ⊥
FitsMode InHeaders (item.Game said) = ⊥
FitsMode InBody (item.FileTag tag) = ⊥
FitsMode InBody (item.Header header) = ⊥
FitsMode InBody item.BodyBegins = ⊥
FitsMode InBody item.NodeEnds = Unit {0}
FitsMode InBody (item.Line said) = Unit {0}
FitsMode InBody (item.Offer said asked) = Unit {0}
FitsMode InBody (item.Command own tags) = own ≡ command.Game → ⊥
FitsMode InBody (item.Game said) = Unit {0}

abbrev pub Fit : Mode → List ItemAt → Type 0
Fit mode [] = Unit {0}
Fit mode (x ∷ xs) = FitsMode mode x.item × Fit (next_mode mode x.item) xs

pub rest-fit : (mode : Mode) (x : ItemAt) (xs : List ItemAt) (i : Item) → x.item ≡ i → Fit mode (x ∷ xs) → Fit (next_mode mode i) xs
rest-fit mode x xs i is fit = subst (λ (j : Item). Fit (next_mode mode j) xs) is fit.1

pub body-mode : (mode : Mode) (i : Item) → IsBodyItem i → next_mode mode i ≡ mode
body-mode mode (item.Line said) is = refl
body-mode mode (item.Offer said asked) is = refl
body-mode mode (item.Command own tags) is = refl
body-mode mode (item.Game said) is = refl
body-mode mode (item.FileTag tag) is = absurd is
body-mode mode (item.Header header) is = absurd is
body-mode mode item.BodyBegins is = absurd is
body-mode mode item.NodeEnds is = absurd is

headers-more : {his : List ItemAt} {hs : List Header} (x : ItemAt) (h : Header) → AreHeaders his hs → x.item ≡ item.Header h →
    AreHeaders (his ++ x ∷ []) (hs ++ h ∷ [])
headers-more x h no_header is = next_header is no_header
headers-more x h (next_header first more) is = next_header first (headers-more x h more is)

-- Places.

pub or-none : {A : Type 0} (a b : Option A) → or_later a b ≡ None → (a ≡ None) × (b ≡ None)
or-none None b is = (refl, is)
or-none (Some x) b is = absurd cc

pub fault-none : (line : ℕ) (v : Verdict) → body_fault line v ≡ None → (excess : Excess) × (v ≡ verdict.Block excess)
fault-none line (verdict.Block excess) is = (excess, refl)
fault-none line (verdict.Bad at bad) is = absurd cc
fault-none line verdict.Unfinished is = absurd cc

-- behind a node, or behind headers
abbrev waiting : Bool → Stand
waiting waits = cond waits Headed Between

waits-tag : (waits : Bool) (marks : List Mark) (line : ℕ) (tag : List ℕ) → misplaced_at (waiting waits) marks line (item.FileTag tag) ≡ Some line
waits-tag true marks line tag = refl
waits-tag false marks line tag = refl

waits-end : (waits : Bool) (marks : List Mark) (line : ℕ) → misplaced_at (waiting waits) marks line item.NodeEnds ≡ Some line
waits-end true marks line = refl
waits-end false marks line = refl

waits-header : (waits : Bool) → header_behind (waiting waits) ≡ Headed
waits-header true = refl
waits-header false = refl

-- an item that is misplaced is told
stopped : (stand : Stand) (marks : List Mark) (end : ℕ) (x : ItemAt) (xs : List ItemAt) (i : Item) → x.item ≡ i → misplaced_at stand marks x.line i ≡ Some x.line →
    first_misplaced stand marks end (x ∷ xs) ≡ None → ⊥
stopped stand marks end x xs i is bad none =
    let later = first_misplaced (stand_behind stand i) (marks_past marks x.line x.indent i) end xs in
    let told = misplaced-step stand marks end x xs i is ∙ ap (λ (o : Option ℕ). or_later o later) bad in
    let same : Some x.line ≡ None = sym told ∙ none in
    absurd cc

-- nodes that stand for items, whose bodies are blocks
abbrev AreBlockNodes : Bool → List ItemAt → List NodeLines → Type 0
AreBlockNodes ids items nodes = AreNodes (HasGiven ids) items nodes × All IsBlockBody nodes

module _ (ids : Bool) where
  abbrev FoundHeaders : ℕ → List ItemAt → Type 0
  FoundHeaders end xs = (his : List ItemAt) (hs : List Header) (waits : Bool) (marks : List Mark) → Fit InHeaders xs →
      first_misplaced (waiting waits) marks end xs ≡ None → AreHeaders his hs → (waits ≡ false → his ≡ []) →
      AreBlockNodes ids (his ++ xs) (nodes_from ids (in_headers hs (title_behind None his)) xs)

  abbrev FoundBody : ℕ → List ItemAt → Type 0
  FoundBody end xs = (his : List ItemAt) (hs : List Header) (begins : ItemAt) (done : List ItemAt) (b : List Entry) →
      Fit InBody xs → first_misplaced Inside (marks_of b) end xs ≡ None → AreHeaders his hs → begins.item ≡ item.BodyBegins → AreEntries done b →
      HasGiven ids (titled_of (title_behind None his)).title b →
      AreBlockNodes ids (his ++ (begins ∷ (done ++ xs))) (nodes_from ids (in_body (title_behind None his) hs begins.line b) xs)

  headers-found : (end : ℕ) (x : ItemAt) (xs : List ItemAt) → FoundHeaders end xs → FoundBody end xs → FoundHeaders end (x ∷ xs)
  headers-found end x xs later_headers later_body his hs waits marks fit fine headed waiting_is = by_item x.item refl
    where
      by_item : (i : Item) → x.item ≡ i → AreBlockNodes ids (his ++ (x ∷ xs)) (nodes_from ids (in_headers hs (title_behind None his)) (x ∷ xs))
      by_item (item.FileTag tag) is = absurd (stopped (waiting waits) marks end x xs (item.FileTag tag) is (waits-tag waits marks x.line tag) fine)
      by_item (item.Header h) is =
          let o = title_behind None his in
          let rest_fine : first_misplaced Headed marks end xs ≡ None =
          ap (λ (s : Stand). first_misplaced s marks end xs) (sym (waits-header waits)) ∙ sym (misplaced-step (waiting waits) marks end x xs (item.Header h) is) ∙ fine in
          let rest = later_headers (his ++ x ∷ []) (hs ++ h ∷ []) true marks (rest-fit InHeaders x xs (item.Header h) is fit) rest_fine
          (headers-more x h headed is) (λ e. absurd cc) in
          let nodes : nodes_from ids (in_headers hs o) (x ∷ xs) ≡ nodes_from ids (in_headers (hs ++ h ∷ []) (title_behind None (his ++ x ∷ []))) xs =
          nodes-step ids (in_headers hs o) x xs (item.Header h) is
          ∙ ap (λ (t : Option Titled). nodes_from ids (in_headers (hs ++ h ∷ []) t) xs)
          (ap (λ (i : Item). title_by o x.line i) (sym is) ∙ sym (title-more None his x)) in
          subst (AreBlockNodes ids (his ++ (x ∷ xs))) (sym nodes)
          (subst (λ (l : List ItemAt). AreBlockNodes ids l (nodes_from ids (in_headers (hs ++ h ∷ []) (title_behind None (his ++ x ∷ []))) xs))
          (append_assoc his (x ∷ []) xs) rest)
      by_item item.BodyBegins is =
          let rest_fine = sym (misplaced-step (waiting waits) marks end x xs item.BodyBegins is) ∙ fine in
          let rest = later_body his hs x [] [] (rest-fit InHeaders x xs item.BodyBegins is fit) rest_fine headed is tt
          (no_ids ids (titled_of (title_behind None his)).title) in
          subst (AreBlockNodes ids (his ++ (x ∷ xs))) (sym (nodes-step ids (in_headers hs (title_behind None his)) x xs item.BodyBegins is)) rest
      by_item item.NodeEnds is = absurd (stopped (waiting waits) marks end x xs item.NodeEnds is (waits-end waits marks x.line) fine)
      by_item (item.Line said) is = absurd (subst (FitsMode InHeaders) is fit.0)
      by_item (item.Offer said asked) is = absurd (subst (FitsMode InHeaders) is fit.0)
      by_item (item.Command own tags) is = absurd (subst (FitsMode InHeaders) is fit.0)
      by_item (item.Game said) is = absurd (subst (FitsMode InHeaders) is fit.0)

  body-found : (end : ℕ) (x : ItemAt) (xs : List ItemAt) → FoundHeaders end xs → FoundBody end xs → FoundBody end (x ∷ xs)
  body-found end x xs later_headers later_body his hs begins done b fit fine headed begun entries given = by_item x.item refl
    where
      goes_on : IsBodyItem x.item →
          AreBlockNodes ids (his ++ (begins ∷ (done ++ (x ∷ xs)))) (nodes_from ids (in_body (title_behind None his) hs begins.line b) (x ∷ xs))
      goes_on body =
          let o = title_behind None his in
          let has = body-entry ids (titled_of o).title (said_in b) x body in
          let e = has.entry in
          let rest_fit : Fit InBody xs = subst (λ (m : Mode). Fit m xs) (body-mode InBody x.item body) fit.1 in
          let rest_fine : first_misplaced Inside (marks_of (b ++ e ∷ [])) end xs ≡ None =
          ap (λ (m : List Mark). first_misplaced Inside m end xs) (marks-append b (e ∷ [])) ∙ sym (entry-fine ids (marks_of b) end x e xs has.is) ∙ fine in
          let rest = later_body his hs begins (done ++ x ∷ []) (b ++ e ∷ []) rest_fit rest_fine headed begun (entries-more done b x e entries has.is)
          (ids-more ids (titled_of o).title b e given has.id) in
          subst (AreBlockNodes ids (his ++ (begins ∷ (done ++ (x ∷ xs))))) (sym (entry-read ids o hs begins.line b x e xs has.is has.id))
          (subst (λ (l : List ItemAt). AreBlockNodes ids (his ++ (begins ∷ l)) (nodes_from ids (in_body o hs begins.line (b ++ e ∷ [])) xs))
          (append_assoc done (x ∷ []) xs) rest)

      by_item : (i : Item) → x.item ≡ i →
          AreBlockNodes ids (his ++ (begins ∷ (done ++ (x ∷ xs)))) (nodes_from ids (in_body (title_behind None his) hs begins.line b) (x ∷ xs))
      by_item (item.Line said) is = goes_on (subst IsBodyItem (sym is) tt)
      by_item (item.Offer said asked) is = goes_on (subst IsBodyItem (sym is) tt)
      by_item (item.Command own tags) is = goes_on (subst IsBodyItem (sym is) (subst (FitsMode InBody) is fit.0))
      by_item (item.Game said) is = goes_on (subst IsBodyItem (sym is) tt)
      by_item item.NodeEnds is =
          let both = or-none (body_fault x.line (verdict_in (marks_of b))) (first_misplaced Between [] end xs)
          (sym (misplaced-step Inside (marks_of b) end x xs item.NodeEnds is) ∙ fine) in
          let block = fault-none x.line (verdict_in (marks_of b)) both.0 in
          let node : NodeLines = node_of (in_body (title_behind None his) hs begins.line b) x.line in
          let whole : IsNode (HasGiven ids) (his ++ (begins ∷ (done ++ x ∷ []))) node =
          record {
            headers = his;
            begins = begins;
            inner = done;
            ends = x;
            cut = refl;
            headed = headed;
            title = title-headers headed;
            begun = (begun, refl);
            body = entries;
            ids = given;
            ended = (is, refl);
          } in
          let rest = later_headers [] [] false [] (rest-fit InBody x xs item.NodeEnds is fit) both.1 no_header (λ e. refl) in
          subst (AreBlockNodes ids (his ++ (begins ∷ (done ++ (x ∷ xs))))) (sym (nodes-step ids (in_body (title_behind None his) hs begins.line b) x xs item.NodeEnds is))
          (subst (λ (l : List ItemAt). AreBlockNodes ids l (node ∷ nodes_from ids no_draft xs)) (node-cut his done xs begins x) (
            first_node whole rest.0,
            All-cons IsBlockBody node (nodes_from ids no_draft xs) (judged-block b block.0 (entries-lines done b entries) block.1) rest.1,
          ))
      by_item (item.FileTag tag) is = absurd (subst (FitsMode InBody) is fit.0)
      by_item (item.Header h) is = absurd (subst (FitsMode InBody) is fit.0)
      by_item item.BodyBegins is = absurd (subst (FitsMode InBody) is fit.0)

  end-found : (end : ℕ) (his : List ItemAt) (waits : Bool) (marks : List Mark) → first_misplaced (waiting waits) marks end [] ≡ None → (waits ≡ false → his ≡ []) →
      AreBlockNodes ids (his ++ []) []
  end-found end his true marks fine waiting_is = absurd cc
  end-found end his false marks fine waiting_is =
      subst (λ (l : List ItemAt). AreBlockNodes ids (l ++ []) []) (sym (waiting_is refl)) (no_node, All-nil IsBlockBody)

  both-found : (end : ℕ) (xs : List ItemAt) → FoundHeaders end xs × FoundBody end xs
  both-found end [] = (λ his hs waits marks fit fine headed waiting_is. end-found end his waits marks fine waiting_is, λ his hs begins done b fit fine. absurd cc)
  both-found end (x ∷ xs) =
      let later = both-found end xs in
      (headers-found end x xs later.0 later.1, body-found end x xs later.0 later.1)

  nodes-found : (marks : List Mark) (end : ℕ) (xs : List ItemAt) → Fit InHeaders xs → first_misplaced Between marks end xs ≡ None →
      AreBlockNodes ids xs (nodes_from ids no_draft xs)
  nodes-found marks end xs fit fine = (both-found end xs).0 [] [] false marks fit fine no_header (λ e. refl)

  abbrev file_from : List ℕ → List ItemAt → FileLines
  file_from name xs = record { name = name; tags = tags_of xs; nodes = nodes_from ids no_draft xs }

  abbrev IsBlockFile : List ItemAt → FileLines → Type 0
  IsBlockFile xs file = IsFile (HasGiven ids) xs file × All IsBlockBody file.nodes

  -- where a file has no more hashtags, its front ends
  front-ends : (marks : List Mark) (end : ℕ) (name : List ℕ) (xs : List ItemAt) → Fit InHeaders xs → first_misplaced Between marks end xs ≡ None →
      IsBlockFile xs (file_from name xs)
  front-ends marks end name xs fit fine =
      let nodes = nodes-found marks end xs fit fine in (
        record { front = []; rest = xs; cut = refl; tagged = subst (AreTags []) (sym (nodes-no_tags ids nodes.0)) no_tag; are_nodes = nodes.0 },
        nodes.1,
      )

  -- items that stand where they may are those of what is read of them
  pub file-found : (marks : List Mark) (end : ℕ) (name : List ℕ) (xs : List ItemAt) → Fit InHeaders xs → first_misplaced Front marks end xs ≡ None →
      IsFile (HasGiven ids) xs (record { name = name; tags = tags_of xs; nodes = nodes_from ids no_draft xs }) × All IsBlockBody (nodes_from ids no_draft xs)
  file-found marks end name [] fit fine = front-ends marks end name [] fit refl
  file-found marks end name (x ∷ xs) fit fine = by_item (file-found marks end name xs) x.item refl
    where
      by_item : (Fit InHeaders xs → first_misplaced Front marks end xs ≡ None → IsBlockFile xs (file_from name xs)) →
          (i : Item) → x.item ≡ i → IsBlockFile (x ∷ xs) (file_from name (x ∷ xs))
      by_item later (item.FileTag tag) is =
          let rest = later (rest-fit InHeaders x xs (item.FileTag tag) is fit) (sym (misplaced-step Front marks end x xs (item.FileTag tag) is) ∙ fine) in
          let nodes = sym (nodes-step ids no_draft x xs (item.FileTag tag) is) in (
            record {
              front = x ∷ rest.0.front;
              rest = rest.0.rest;
              cut = ap (λ (l : List ItemAt). x ∷ l) rest.0.cut;
              tagged = subst (AreTags (x ∷ rest.0.front)) (sym (tags-step x xs (item.FileTag tag) is)) (next_tag is rest.0.tagged);
              are_nodes = subst (AreNodes (HasGiven ids) rest.0.rest) nodes rest.0.are_nodes;
            },
            subst (All IsBlockBody) nodes rest.1,
          )
      by_item later (item.Header h) is =
          front-ends marks end name (x ∷ xs) fit
          (misplaced-step Between marks end x xs (item.Header h) is ∙ sym (misplaced-step Front marks end x xs (item.Header h) is) ∙ fine)
      by_item later item.BodyBegins is =
          front-ends marks end name (x ∷ xs) fit
          (misplaced-step Between marks end x xs item.BodyBegins is ∙ sym (misplaced-step Front marks end x xs item.BodyBegins is) ∙ fine)
      by_item later item.NodeEnds is = absurd (stopped Front marks end x xs item.NodeEnds is refl fine)
      by_item later (item.Line said) is = absurd (subst (FitsMode InHeaders) is fit.0)
      by_item later (item.Offer said asked) is = absurd (subst (FitsMode InHeaders) is fit.0)
      by_item later (item.Command own tags) is = absurd (subst (FitsMode InHeaders) is fit.0)
      by_item later (item.Game said) is = absurd (subst (FitsMode InHeaders) is fit.0)

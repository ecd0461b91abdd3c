-- What is noted of blocks: the first node whose block shows something.
use Rattle.std.proofs.Common.{◌≡◌, ℕ, List, [], ◌∷◌, ◌++◌, Option, Some, None, All, refl, sym, ap, ◌∙◌, subst, append_assoc, append-nil}
use Rattle.std.proofs.lemmas.List.Elements.{All-nil, All-cons, All-head, All-tail}
use Rattle.yarn_lines.specs.Lines.{lines_of}
use Rattle.yarn_items.specs.declared.item.Mode.TheVariants.{InHeaders}
use Rattle.yarn_items.specs.declared.item.Header.{Header}
use Rattle.yarn_items.specs.declared.item.Item.{Item}
use Rattle.yarn_items.specs.declared.item.Item.TheVariants as item
use Rattle.yarn_items.specs.Laws.{ItemsAreFound}
use Rattle.yarn_blocks.specs.declared.entry.Entry.{Entry}
use Rattle.yarn_blocks.specs.declared.mark.Mark.{Mark}
use Rattle.yarn_blocks.specs.declared.verdict.Verdict.{Verdict}
use Rattle.yarn_blocks.specs.Tree.{Stmts}
use Rattle.yarn_blocks.specs.Tree as T
use Rattle.yarn_blocks.specs.Block.{Block}
use Rattle.yarn_blocks.specs.Entries.{mark_of, marks_of}
use Rattle.yarn_blocks.specs.Outline.{verdict_in}
use Rattle.yarn_blocks.proofs.Viable.{one_block}
use Rattle.yarn_nodes.specs.declared.node.FileLines.{FileLines}
use Rattle.yarn_nodes.specs.declared.node.NodeLines.{NodeLines}
use Rattle.yarn_nodes.specs.Entries.{ItemAt, IsEntry, AreEntries}
use Rattle.yarn_nodes.specs.Ids.{Naming}
use Rattle.yarn_nodes.specs.Laws.{IsBlockBody, AreBlocks, IsFirstShown, NotesShown, BlocksAreNoted}
use Rattle.yarn_nodes.specs.Lines.{AreTags, no_tag, next_tag, AreHeaders, no_header, next_header, AreNodes, no_node, first_node, IsFile}
use Rattle.yarn_nodes.specs.Places.{or_later}
use Rattle.yarn_nodes.specs.Structure.{marks_past, marks_behind, deep_in, crowd_in, shown_at, first_shown}
use Rattle.yarn_nodes.proofs.EntryLemmas.{IsBodyItem, is_body_item, entry-mark, entries-lines}
use Rattle.yarn_nodes.proofs.FileLemmas.{node-cut}
use Rattle.yarn_nodes.proofs.FoundLemmas.{or-none}
use Rattle.yarn_nodes.proofs.LinesLemmas.{items-have}
use Rattle.yarn_nodes.proofs.VerdictLemmas.{Judged, block-judged}

none-or : {A : Type 0} (a b : Option A) → a ≡ None → b ≡ None → or_later a b ≡ None
none-or a b p q = ap (λ o. or_later o b) p ∙ q

module _ (shows : Verdict → Option ℕ) (of : Stmts → Option ℕ)
    (same : (xs : List Entry) (b : Stmts) (j : Judged xs b) → shows (verdict_in (marks_of xs)) ≡ of b) where
  shown-step : (marks : List Mark) (x : ItemAt) (xs : List ItemAt) (i : Item) → x.item ≡ i →
      first_shown shows marks (x ∷ xs) ≡ or_later (shown_at shows marks i) (first_shown shows (marks_past marks x.line x.indent i) xs)
  shown-step marks x xs i is = ap (λ (j : Item). or_later (shown_at shows marks j) (first_shown shows (marks_past marks x.line x.indent j) xs)) is

  body-shown : (marks : List Mark) (i : Item) → IsBodyItem i → shown_at shows marks i ≡ None
  body-shown marks (item.Line said) is = refl
  body-shown marks (item.Offer said asked) is = refl
  body-shown marks (item.Command own named) is = refl
  body-shown marks (item.Game said) is = refl
  body-shown marks (item.FileTag tag) is = absurd is
  body-shown marks (item.Header header) is = absurd is
  body-shown marks item.BodyBegins is = absurd is
  body-shown marks item.NodeEnds is = absurd is

  tags-show : {xs : List ItemAt} {ts : List (List ℕ)} (rest : List ItemAt) → AreTags xs ts → first_shown shows [] (xs ++ rest) ≡ first_shown shows [] rest
  tags-show rest no_tag = refl
  tags-show rest (next_tag {x = x} {xs = xs} {t = t} is more) = shown-step [] x (xs ++ rest) (item.FileTag t) is ∙ tags-show rest more

  headers-show : {xs : List ItemAt} {hs : List Header} (begins : ItemAt) (rest : List ItemAt) → AreHeaders xs hs → begins.item ≡ item.BodyBegins →
      first_shown shows [] (xs ++ (begins ∷ rest)) ≡ first_shown shows [] rest
  headers-show begins rest no_header begun = shown-step [] begins rest item.BodyBegins begun
  headers-show begins rest (next_header {x = x} {xs = xs} {h = h} is more) begun =
      shown-step [] x (xs ++ (begins ∷ rest)) (item.Header h) is ∙ headers-show begins rest more begun

  entry-shows : (marks : List Mark) (x : ItemAt) (e : Entry) (xs : List ItemAt) → IsEntry x e → first_shown shows marks (x ∷ xs) ≡ first_shown shows (marks ++ mark_of e ∷ []) xs
  entry-shows marks x e xs is =
      ap (λ (o : Option ℕ). or_later o (first_shown shows (marks_behind marks x) xs)) (body-shown marks x.item (is_body_item x e is))
      ∙ ap (λ (m : List Mark). first_shown shows m xs) (entry-mark marks x e is)

  body-shows : (marks : List Mark) (xs : List ItemAt) (b : List Entry) (rest : List ItemAt) → AreEntries xs b →
      first_shown shows marks (xs ++ rest) ≡ first_shown shows (marks ++ marks_of b) rest
  body-shows marks [] [] rest are = ap (λ (m : List Mark). first_shown shows m rest) (sym (append-nil marks))
  body-shows marks [] (e ∷ b) rest are = absurd are
  body-shows marks (x ∷ xs) [] rest are = absurd are
  body-shows marks (x ∷ xs) (e ∷ b) rest are =
      entry-shows marks x e (xs ++ rest) are.0
      ∙ body-shows (marks ++ mark_of e ∷ []) xs b rest are.1
      ∙ ap (λ (m : List Mark). first_shown shows m rest) (append_assoc marks (mark_of e ∷ []) (marks_of b))

  -- what the bodies of nodes show, one after the other
  abbrev shown_in : List NodeLines → Option ℕ
  shown_in [] = None
  shown_in (node ∷ nodes) = or_later (shows (verdict_in (marks_of node.body))) (shown_in nodes)

  nodes-show : {Ids : Naming} {items : List ItemAt} {nodes : List NodeLines} → AreNodes Ids items nodes → first_shown shows [] items ≡ shown_in nodes
  nodes-show no_node = refl
  nodes-show (first_node {rest = rest} {node = node} {nodes = nodes} is more) =
      ap (λ (l : List ItemAt). first_shown shows [] (l ++ rest)) is.cut
      ∙ ap (first_shown shows []) (node-cut is.headers is.inner rest is.begins is.ends)
      ∙ headers-show is.begins (is.inner ++ (is.ends ∷ rest)) is.headed is.begun.0
      ∙ body-shows [] is.inner node.body (is.ends ∷ rest) is.body
      ∙ shown-step (marks_of node.body) is.ends rest item.NodeEnds is.ended.0
      ∙ ap (or_later (shows (verdict_in (marks_of node.body)))) (nodes-show more)

  file-shows : {Ids : Naming} {items : List ItemAt} {file : FileLines} → IsFile Ids items file → first_shown shows [] items ≡ shown_in file.nodes
  file-shows is = ap (first_shown shows []) is.cut ∙ tags-show is.rest is.tagged ∙ nodes-show is.are_nodes

  -- a node with its block, and what this shows
  record Shows (node : NodeLines) : Type 0 where
    pub stmts : Stmts
    pub block : Block node.body [] stmts
    pub shown : shows (verdict_in (marks_of node.body)) ≡ of stmts

  abbrev ShowsNone : NodeLines → Type 0
  ShowsNone node = (b : Stmts) → Block node.body [] b → of b ≡ None

  all-show : {Ids : Naming} {items : List ItemAt} {nodes : List NodeLines} → AreNodes Ids items nodes → All IsBlockBody nodes → All Shows nodes
  all-show no_node blocks = All-nil Shows
  all-show (first_node {node = node} {nodes = nodes} is more) blocks =
      let block = All-head IsBlockBody node nodes blocks in
      let judged = block-judged node.body block.0 (entries-lines is.inner node.body is.body) block.1 in
      All-cons Shows node nodes (record { stmts = block.0; block = block.1; shown = same node.body block.0 judged })
      (all-show more (All-tail IsBlockBody node nodes blocks))

  shows-none : (node : NodeLines) → Shows node → shows (verdict_in (marks_of node.body)) ≡ None → ShowsNone node
  shows-none node s none b block = ap of (one_block block s.block) ∙ sym s.shown ∙ none

  none-shows : (node : NodeLines) → Shows node → ShowsNone node → shows (verdict_in (marks_of node.body)) ≡ None
  none-shows node s none = s.shown ∙ none s.stmts s.block

  none-found : (nodes : List NodeLines) → All Shows nodes → shown_in nodes ≡ None → All ShowsNone nodes
  none-found [] all none = All-nil ShowsNone
  none-found (node ∷ nodes) all none =
      let both = or-none (shows (verdict_in (marks_of node.body))) (shown_in nodes) none in
      All-cons ShowsNone node nodes (shows-none node (All-head Shows node nodes all) both.0) (none-found nodes (All-tail Shows node nodes all) both.1)

  found-none : (nodes : List NodeLines) → All Shows nodes → All ShowsNone nodes → shown_in nodes ≡ None
  found-none [] all none = refl
  found-none (node ∷ nodes) all none =
      none-or (shows (verdict_in (marks_of node.body))) (shown_in nodes) (none-shows node (All-head Shows node nodes all) (All-head ShowsNone node nodes none))
      (found-none nodes (All-tail Shows node nodes all) (All-tail ShowsNone node nodes none))

  first-found : (nodes : List NodeLines) (number : ℕ) → All Shows nodes → shown_in nodes ≡ Some number → IsFirstShown of nodes number
  first-found [] number all told = absurd cc
  first-found (node ∷ nodes) number all told =
      by_here (first-found nodes number (All-tail Shows node nodes all)) (All-head Shows node nodes all) (shows (verdict_in (marks_of node.body))) refl told
    where
      by_here : (shown_in nodes ≡ Some number → IsFirstShown of nodes number) → Shows node → (o : Option ℕ) → shows (verdict_in (marks_of node.body)) ≡ o →
          or_later o (shown_in nodes) ≡ Some number → IsFirstShown of (node ∷ nodes) number
      by_here later s None is told =
          let rest = later told in
          record {
            before = node ∷ rest.before;
            node = rest.node;
            behind = rest.behind;
            cut = ap (λ (l : List NodeLines). node ∷ l) rest.cut;
            none_before = All-cons ShowsNone node rest.before (shows-none node s is) rest.none_before;
            stmts = rest.stmts;
            block = rest.block;
            shown = rest.shown;
          }
      by_here later s (Some n) is told = record {
        before = [];
        node = node;
        behind = nodes;
        cut = refl;
        none_before = All-nil ShowsNone;
        stmts = s.stmts;
        block = s.block;
        shown = sym s.shown ∙ is ∙ told;
      }

  first-told : (before : List NodeLines) (node : NodeLines) (behind : List NodeLines) (number : ℕ) → All Shows (before ++ node ∷ behind) → All ShowsNone before →
      (b : Stmts) → Block node.body [] b → of b ≡ Some number → shown_in (before ++ node ∷ behind) ≡ Some number
  first-told [] node behind number all none b block shown =
      let s = All-head Shows node behind all in
      ap (λ (o : Option ℕ). or_later o (shown_in behind)) (s.shown ∙ ap of (one_block s.block block) ∙ shown)
  first-told (y ∷ before) node behind number all none b block shown =
      let s = All-head Shows y (before ++ node ∷ behind) all in
      ap (λ (o : Option ℕ). or_later o (shown_in (before ++ node ∷ behind))) (none-shows y s (All-head ShowsNone y before none))
      ∙ first-told before node behind number (All-tail Shows y (before ++ node ∷ behind) all) (All-tail ShowsNone y before none) b block shown

  found-first : (nodes : List NodeLines) (number : ℕ) → All Shows nodes → IsFirstShown of nodes number → shown_in nodes ≡ Some number
  found-first nodes number all is =
      ap shown_in is.cut ∙ first-told is.before is.node is.behind number (subst (All Shows) is.cut all) is.none_before is.stmts is.block is.shown

  pub file-noted : {Ids : Naming} {items : List ItemAt} {file : FileLines} → IsFile Ids items file → AreBlocks file →
      NotesShown of file.nodes (first_shown shows [] items)
  file-noted {file = file} is blocks =
      let all = all-show is.are_nodes blocks in
      let shown = file-shows is in
      record {
        some = λ number. (λ told. first-found file.nodes number all (sym shown ∙ told), λ first. shown ∙ found-first file.nodes number all first);
        none = (λ none. none-found file.nodes all (sym shown ∙ none), λ none. shown ∙ found-none file.nodes all none);
      }

deep-shown : (xs : List Entry) (b : Stmts) → Judged xs b → deep_in (verdict_in (marks_of xs)) ≡ T.deep_in 0 b
deep-shown xs b j = ap deep_in j.is ∙ j.deep

crowd-shown : (xs : List Entry) (b : Stmts) → Judged xs b → crowd_in (verdict_in (marks_of xs)) ≡ T.crowd_in b
crowd-shown xs b j = ap crowd_in j.is ∙ j.crowd

pub blocks_are_noted : ItemsAreFound → BlocksAreNoted
blocks_are_noted items_found ids source file stands blocks =
    let have = (items-have items_found InHeaders (lines_of source.bytes).lines stands.items stands.has_items).0 in (
      subst (λ (l : List ItemAt). NotesShown (T.deep_in 0) file.nodes (first_shown deep_in [] l)) (sym have)
          (file-noted deep_in (T.deep_in 0) deep-shown stands.is_file blocks),
      subst (λ (l : List ItemAt). NotesShown T.crowd_in file.nodes (first_shown crowd_in [] l)) (sym have)
          (file-noted crowd_in T.crowd_in crowd-shown stands.is_file blocks),
    )

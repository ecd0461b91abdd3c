-- The items of a file: what is read of them is what they are the items of, and none of them is misplaced.
use Rattle.std.proofs.Common.{◌≡◌, ℕ, List, [], ◌∷◌, ◌++◌, Bool, true, false, cond, ◌&&◌, is_none, Option, Some, None, All, refl, sym, ap, ◌∙◌, subst, append_assoc, append-nil}
use Rattle.std.proofs.lemmas.List.Elements.{All-head, All-tail}
use Rattle.yarn_items.specs.declared.item.Header.{Header}
use Rattle.yarn_items.specs.declared.item.Item.{Item}
use Rattle.yarn_items.specs.declared.item.Item.TheVariants as item
use Rattle.yarn_blocks.specs.declared.entry.Entry.{Entry}
use Rattle.yarn_blocks.specs.declared.entry.What.{What}
use Rattle.yarn_blocks.specs.declared.mark.Mark.{Mark}
use Rattle.yarn_blocks.specs.declared.tree.LineText.{LineText}
use Rattle.yarn_blocks.specs.declared.verdict.Verdict.{Verdict}
use Rattle.yarn_blocks.specs.Entries.{mark_of, marks_of}
use Rattle.yarn_blocks.specs.Outline.{verdict_in}
use Rattle.yarn_nodes.specs.declared.draft.Draft.{Draft}
use Rattle.yarn_nodes.specs.declared.node.Titled.{Titled}
use Rattle.yarn_nodes.specs.declared.node.NodeLines.{NodeLines}
use Rattle.yarn_nodes.specs.declared.node.FileLines.{FileLines}
use Rattle.yarn_nodes.specs.declared.structure.Stand.{Stand}
use Rattle.yarn_nodes.specs.declared.structure.Stand.TheVariants.{Front, Between, Inside}
use Rattle.yarn_nodes.specs.Entries.{ItemAt, text_at, command_at, what_at, said_by, id_in, IsEntry, AreEntries}
use Rattle.yarn_nodes.specs.Ids.{said_in}
use Rattle.yarn_nodes.specs.Laws.{IsBlockBody}
use Rattle.yarn_nodes.specs.Lines.{AreTags, no_tag, next_tag, AreHeaders, no_header, next_header, title_in, IsNode, AreNodes, no_node, first_node, IsFile}
use Rattle.yarn_nodes.specs.Nodes.{and_tag, tags_of, no_draft, titled_of, with_entry, counted, id_given, next_id, and_what, draft_past, draft_behind, and_node, nodes_from}
use Rattle.yarn_nodes.specs.Places.{or_later}
use Rattle.yarn_nodes.specs.Structure.{stand_behind, header_behind, marks_past, body_fault, misplaced_at, misplaced_end, first_misplaced}
use Rattle.yarn_nodes.specs.Titles.{is_title}
use Rattle.yarn_nodes.proofs.EntryLemmas.{HasGiven, HasId, id-within, said_or, said_in-said, said_in-other, command-says, IsBodyItem, is_body_item, entry-mark, entries-lines, entry_at}
use Rattle.yarn_nodes.proofs.VerdictLemmas.{block-judged}

-- One item more.

pub tags-step : (x : ItemAt) (xs : List ItemAt) (i : Item) → x.item ≡ i → tags_of (x ∷ xs) ≡ and_tag i (tags_of xs)
tags-step x xs i is = ap (λ (j : Item). and_tag j (tags_of xs)) is

pub nodes-step : (ids : Bool) (draft : Draft) (x : ItemAt) (xs : List ItemAt) (i : Item) → x.item ≡ i →
    nodes_from ids draft (x ∷ xs) ≡ and_node draft x.line i (nodes_from ids (draft_past ids draft x i) xs)
nodes-step ids draft x xs i is = ap (λ (j : Item). and_node draft x.line j (nodes_from ids (draft_past ids draft x j) xs)) is

pub misplaced-step : (stand : Stand) (marks : List Mark) (end : ℕ) (x : ItemAt) (xs : List ItemAt) (i : Item) → x.item ≡ i →
    first_misplaced stand marks end (x ∷ xs)
    ≡ or_later (misplaced_at stand marks x.line i) (first_misplaced (stand_behind stand i) (marks_past marks x.line x.indent i) end xs)
misplaced-step stand marks end x xs i is =
    ap (λ (j : Item). or_later (misplaced_at stand marks x.line j) (first_misplaced (stand_behind stand j) (marks_past marks x.line x.indent j) end xs)) is

-- A line of a body.

body-tags : (i : Item) (tags : List (List ℕ)) → IsBodyItem i → and_tag i tags ≡ tags
body-tags (item.Line said) tags is = refl
body-tags (item.Offer said asked) tags is = refl
body-tags (item.Command own named) tags is = refl
body-tags (item.Game said) tags is = refl
body-tags (item.FileTag tag) tags is = absurd is
body-tags (item.Header header) tags is = absurd is
body-tags item.BodyBegins tags is = absurd is
body-tags item.NodeEnds tags is = absurd is

body-nodes : (draft : Draft) (line : ℕ) (i : Item) (nodes : List NodeLines) → IsBodyItem i → and_node draft line i nodes ≡ nodes
body-nodes draft line (item.Line said) nodes is = refl
body-nodes draft line (item.Offer said asked) nodes is = refl
body-nodes draft line (item.Command own named) nodes is = refl
body-nodes draft line (item.Game said) nodes is = refl
body-nodes draft line (item.FileTag tag) nodes is = absurd is
body-nodes draft line (item.Header header) nodes is = absurd is
body-nodes draft line item.BodyBegins nodes is = absurd is
body-nodes draft line item.NodeEnds nodes is = absurd is

pub body-stand : (stand : Stand) (i : Item) → IsBodyItem i → stand_behind stand i ≡ stand
body-stand stand (item.Line said) is = refl
body-stand stand (item.Offer said asked) is = refl
body-stand stand (item.Command own named) is = refl
body-stand stand (item.Game said) is = refl
body-stand stand (item.FileTag tag) is = absurd is
body-stand stand (item.Header header) is = absurd is
body-stand stand item.BodyBegins is = absurd is
body-stand stand item.NodeEnds is = absurd is

pub body-placed : (stand : Stand) (marks : List Mark) (line : ℕ) (i : Item) → IsBodyItem i → misplaced_at stand marks line i ≡ None
body-placed stand marks line (item.Line said) is = refl
body-placed stand marks line (item.Offer said asked) is = refl
body-placed stand marks line (item.Command own named) is = refl
body-placed stand marks line (item.Game said) is = refl
body-placed stand marks line (item.FileTag tag) is = absurd is
body-placed stand marks line (item.Header header) is = absurd is
body-placed stand marks line item.BodyBegins is = absurd is
body-placed stand marks line item.NodeEnds is = absurd is

-- Headers and their title.

-- the title behind one more header
abbrev pub title_by : Option Titled → ℕ → Item → Option Titled
title_by o line (item.Header header) = cond (is_title header && is_none o) (Some (record { line = line; title = header.value })) o
title_by o line (item.FileTag tag) = o
title_by o line item.BodyBegins = o
title_by o line item.NodeEnds = o
title_by o line (item.Line said) = o
title_by o line (item.Offer said asked) = o
title_by o line (item.Command own tags) = o
title_by o line (item.Game said) = o

abbrev pub title_behind : Option Titled → List ItemAt → Option Titled
title_behind o [] = o
title_behind o (x ∷ xs) = title_behind (title_by o x.line x.item) xs

pub title-more : (o : Option Titled) (xs : List ItemAt) (x : ItemAt) → title_behind o (xs ++ x ∷ []) ≡ title_by (title_behind o xs) x.line x.item
title-more o [] x = refl
title-more o (y ∷ xs) x = title-more (title_by o y.line y.item) xs x

title-kept : {xs : List ItemAt} {hs : List Header} (titled : Titled) → AreHeaders xs hs → title_behind (Some titled) xs ≡ Some titled
title-kept titled no_header = refl
title-kept titled (next_header {x = x} {xs = xs} {h = h} is more) =
    ap (λ (i : Item). title_behind (title_by (Some titled) x.line i) xs) is
    ∙ by_test (is_title h) refl ∙ title-kept titled more
  where
    by_test : (t : Bool) → is_title h ≡ t → title_behind (title_by (Some titled) x.line (item.Header h)) xs ≡ title_behind (Some titled) xs
    by_test true test = rw test refl
    by_test false test = rw test refl

pub title-headers : {xs : List ItemAt} {hs : List Header} → AreHeaders xs hs → (titled_of (title_behind None xs)).title ≡ title_in hs
title-headers no_header = refl
title-headers (next_header {x = x} {xs = xs} {h = h} {hs = hs} is more) =
    ap (λ (i : Item). (titled_of (title_behind (title_by None x.line i) xs)).title) is ∙ by_test (title-headers more) (is_title h) refl
  where
    by_test : (titled_of (title_behind None xs)).title ≡ title_in hs → (t : Bool) → is_title h ≡ t →
        (titled_of (title_behind (title_by None x.line (item.Header h)) xs)).title ≡ title_in (h ∷ hs)
    by_test later true test = rw test (ap (λ (o : Option Titled). (titled_of o).title) (title-kept (record { line = x.line; title = h.value }) more))
    by_test later false test = rw test later

-- a node among its headers, and in its body
abbrev pub in_headers : List Header → Option Titled → Draft
in_headers headers title = record { title = title; headers = headers; line = 0; body = []; said = 0 }

abbrev pub in_body : Option Titled → List Header → ℕ → List Entry → Draft
in_body title headers line body = record { title = title; headers = headers; line = line; body = body; said = said_in body }

pub node-cut : (headers inner rest : List ItemAt) (begins ends : ItemAt) →
    (headers ++ (begins ∷ (inner ++ ends ∷ []))) ++ rest ≡ headers ++ (begins ∷ (inner ++ (ends ∷ rest)))
node-cut headers inner rest begins ends =
    append_assoc headers (begins ∷ (inner ++ ends ∷ [])) rest
    ∙ ap (λ (l : List ItemAt). headers ++ (begins ∷ l)) (append_assoc inner (ends ∷ []) rest)

-- Nodes are read.

same_entry : (x : ItemAt) (e : Entry) → IsEntry x e → entry_at x e.what ≡ e
same_entry x e is =
    ap (λ (n : ℕ). record { line = n; indent = x.indent; what = e.what }) (sym is.line)
    ∙ ap (λ (n : ℕ). record { line = e.line; indent = n; what = e.what }) (sym is.indent)

same_node : (node : NodeLines) (title : List ℕ) (line end_line : ℕ) → title ≡ node.title → node.line ≡ line → node.end_line ≡ end_line →
    record { title = title; headers = node.headers; line = line; end_line = end_line; body = node.body } ≡ node
same_node node title line end_line t l e =
    ap (λ (n : List ℕ). record { title = n; headers = node.headers; line = line; end_line = end_line; body = node.body }) t
    ∙ ap (λ (n : ℕ). record { title = node.title; headers = node.headers; line = n; end_line = end_line; body = node.body }) (sym l)
    ∙ ap (λ (n : ℕ). record { title = node.title; headers = node.headers; line = node.line; end_line = n; body = node.body }) (sym e)

module _ (ids : Bool) where
  module _ (o : Option Titled) (headers : List Header) (line : ℕ) (done : List Entry) (x : ItemAt) (e : Entry) (is : IsEntry x e) where
    abbrev draft : Draft
    draft = in_body o headers line done

    abbrev own : List ℕ
    own = id_in (said_by e.what)

    spoken : (tags : List (List ℕ)) (text : LineText) → said_by e.what ≡ Some text → own ≡ id_given ids tags (titled_of o).title (said_in done) →
        counted (and_what draft x.line x.indent (what_at x.line (next_id ids draft tags) x.item)) ≡ in_body o headers line (done ++ e ∷ [])
    spoken tags text said given =
        ap (λ (j : List ℕ). counted (and_what draft x.line x.indent (what_at x.line j x.item))) (sym given)
        ∙ ap (λ (w : Option What). counted (and_what draft x.line x.indent w)) is.is
        ∙ ap (λ (f : Entry). counted (with_entry draft f)) (same_entry x e is)
        ∙ ap (λ (n : ℕ). record { title = o; headers = headers; line = line; body = done ++ e ∷ []; said = n }) (sym (said_in-said done e text said))

    silent : said_by e.what ≡ None → what_at x.line [] x.item ≡ Some e.what →
        and_what draft x.line x.indent (what_at x.line [] x.item) ≡ in_body o headers line (done ++ e ∷ [])
    silent said what =
        ap (and_what draft x.line x.indent) what
        ∙ ap (with_entry draft) (same_entry x e is)
        ∙ ap (λ (n : ℕ). record { title = o; headers = headers; line = line; body = done ++ e ∷ []; said = n }) (sym (said_in-other done e said))

    taken-by : HasId ids (titled_of o).title (said_in done) e → (i : Item) → x.item ≡ i → draft_behind ids draft x ≡ in_body o headers line (done ++ e ∷ [])
    taken-by id (item.Line said) same =
        let shown : what_at x.line own (item.Line said) ≡ Some e.what = ap (what_at x.line own) (sym same) ∙ is.is in
        let text : said_by e.what ≡ Some (text_at x.line own said) = sym (ap said_or shown) in
        ap (draft_past ids draft x) same ∙ spoken said.tags (text_at x.line own said) text (id (text_at x.line own said) text)
    taken-by id (item.Offer said asked) same =
        let shown : what_at x.line own (item.Offer said asked) ≡ Some e.what = ap (what_at x.line own) (sym same) ∙ is.is in
        let text : said_by e.what ≡ Some (text_at x.line own said) = sym (ap said_or shown) in
        ap (draft_past ids draft x) same ∙ spoken said.tags (text_at x.line own said) text (id (text_at x.line own said) text)
    taken-by id (item.Command c tags) same =
        let shown : command_at x.line tags c ≡ Some e.what = ap (what_at x.line own) (sym same) ∙ is.is in
        ap (draft_past ids draft x) same ∙ silent (command-says x.line tags c e.what shown) (ap (what_at x.line []) same ∙ shown)
    taken-by id (item.Game said) same =
        let shown : what_at x.line own (item.Game said) ≡ Some e.what = ap (what_at x.line own) (sym same) ∙ is.is in
        ap (draft_past ids draft x) same ∙ silent (sym (ap said_or shown)) (ap (what_at x.line []) same ∙ shown)
    taken-by id (item.FileTag tag) same = absurd (subst IsBodyItem same (is_body_item x e is))
    taken-by id (item.Header header) same = absurd (subst IsBodyItem same (is_body_item x e is))
    taken-by id item.BodyBegins same = absurd (subst IsBodyItem same (is_body_item x e is))
    taken-by id item.NodeEnds same = absurd (subst IsBodyItem same (is_body_item x e is))

    -- an entry is put to the body
    pub entry-taken : HasId ids (titled_of o).title (said_in done) e → draft_behind ids draft x ≡ in_body o headers line (done ++ e ∷ [])
    entry-taken id = taken-by id x.item refl

  pub entry-read : (o : Option Titled) (headers : List Header) (line : ℕ) (done : List Entry) (x : ItemAt) (e : Entry) (xs : List ItemAt) →
      IsEntry x e → HasId ids (titled_of o).title (said_in done) e →
      nodes_from ids (in_body o headers line done) (x ∷ xs) ≡ nodes_from ids (in_body o headers line (done ++ e ∷ [])) xs
  entry-read o headers line done x e xs is id =
      body-nodes (in_body o headers line done) x.line x.item (nodes_from ids (draft_behind ids (in_body o headers line done) x) xs) (is_body_item x e is)
      ∙ ap (λ (d : Draft). nodes_from ids d xs) (entry-taken o headers line done x e is id)

  headers-read : {xs : List ItemAt} {hs : List Header} (done : List Header) (o : Option Titled) (rest : List ItemAt) → AreHeaders xs hs →
      nodes_from ids (in_headers done o) (xs ++ rest) ≡ nodes_from ids (in_headers (done ++ hs) (title_behind o xs)) rest
  headers-read done o rest no_header = ap (λ (l : List Header). nodes_from ids (in_headers l o) rest) (sym (append-nil done))
  headers-read done o rest (next_header {x = x} {xs = xs} {h = h} {hs = hs} is more) =
      nodes-step ids (in_headers done o) x (xs ++ rest) (item.Header h) is
      ∙ headers-read (done ++ h ∷ []) (title_by o x.line (item.Header h)) rest more
      ∙ ap (λ (l : List Header). nodes_from ids (in_headers l (title_behind (title_by o x.line (item.Header h)) xs)) rest) (append_assoc done (h ∷ []) hs)
      ∙ ap (λ (i : Item). nodes_from ids (in_headers (done ++ h ∷ hs) (title_behind (title_by o x.line i) xs)) rest) (sym is)

  body-read : (o : Option Titled) (headers : List Header) (line : ℕ) (done : List Entry) (xs : List ItemAt) (b : List Entry) (rest : List ItemAt) →
      AreEntries xs b → HasGiven ids (titled_of o).title (done ++ b) →
      nodes_from ids (in_body o headers line done) (xs ++ rest) ≡ nodes_from ids (in_body o headers line (done ++ b)) rest
  body-read o headers line done [] [] rest are given = ap (λ (b : List Entry). nodes_from ids (in_body o headers line b) rest) (sym (append-nil done))
  body-read o headers line done [] (e ∷ b) rest are given = absurd are
  body-read o headers line done (x ∷ xs) [] rest are given = absurd are
  body-read o headers line done (x ∷ xs) (e ∷ b) rest are given =
      entry-read o headers line done x e (xs ++ rest) are.0 (id-within ids (titled_of o).title done b e given)
      ∙ body-read o headers line (done ++ e ∷ []) xs b rest are.1 (subst (HasGiven ids (titled_of o).title) (sym (append_assoc done (e ∷ []) b)) given)
      ∙ ap (λ (l : List Entry). nodes_from ids (in_body o headers line l) rest) (append_assoc done (e ∷ []) b)

  node-read : {items : List ItemAt} {node : NodeLines} (rest : List ItemAt) → IsNode (HasGiven ids) items node →
      nodes_from ids no_draft (items ++ rest) ≡ node ∷ nodes_from ids no_draft rest
  node-read {node = node} rest is =
      let o = title_behind None is.headers in
      let same : (titled_of o).title ≡ node.title = title-headers is.headed ∙ sym is.title in
      let given : HasGiven ids (titled_of o).title node.body = subst (λ t. HasGiven ids t node.body) (sym same) is.ids in
      ap (λ (l : List ItemAt). nodes_from ids no_draft (l ++ rest)) is.cut
      ∙ ap (nodes_from ids no_draft) (node-cut is.headers is.inner rest is.begins is.ends)
      ∙ headers-read [] None (is.begins ∷ (is.inner ++ (is.ends ∷ rest))) is.headed
      ∙ nodes-step ids (in_headers node.headers o) is.begins (is.inner ++ (is.ends ∷ rest)) item.BodyBegins is.begun.0
      ∙ body-read o node.headers is.begins.line [] is.inner node.body (is.ends ∷ rest) is.body given
      ∙ nodes-step ids (in_body o node.headers is.begins.line node.body) is.ends rest item.NodeEnds is.ended.0
      ∙ ap (λ (n : NodeLines). n ∷ nodes_from ids no_draft rest) (same_node node (titled_of o).title is.begins.line is.ends.line same is.begun.1 is.ended.1)

  pub nodes-read : {items : List ItemAt} {nodes : List NodeLines} → AreNodes (HasGiven ids) items nodes → nodes_from ids no_draft items ≡ nodes
  nodes-read no_node = refl
  nodes-read (first_node {items = items} {rest = rest} {node = node} {nodes = nodes} is more) =
      node-read rest is ∙ ap (λ (l : List NodeLines). node ∷ l) (nodes-read more)

  tags-read : {xs : List ItemAt} {ts : List (List ℕ)} (rest : List ItemAt) → AreTags xs ts →
      (tags_of (xs ++ rest) ≡ ts ++ tags_of rest) × (nodes_from ids no_draft (xs ++ rest) ≡ nodes_from ids no_draft rest)
  tags-read rest no_tag = (refl, refl)
  tags-read rest (next_tag {x = x} {xs = xs} {t = t} is more) =
      let later = tags-read rest more in (
        tags-step x (xs ++ rest) (item.FileTag t) is ∙ ap (λ (l : List (List ℕ)). t ∷ l) later.0,
        nodes-step ids no_draft x (xs ++ rest) (item.FileTag t) is ∙ later.1,
      )

  -- Items stand where they may.

  headers-fine : {xs : List ItemAt} {hs : List Header} (stand : Stand) (marks : List Mark) (end : ℕ) (begins : ItemAt) (rest : List ItemAt) → AreHeaders xs hs →
      begins.item ≡ item.BodyBegins → first_misplaced stand marks end (xs ++ (begins ∷ rest)) ≡ first_misplaced Inside [] end rest
  headers-fine stand marks end begins rest no_header begun = misplaced-step stand marks end begins rest item.BodyBegins begun
  headers-fine stand marks end begins rest (next_header {x = x} {xs = xs} {h = h} is more) begun =
      misplaced-step stand marks end x (xs ++ (begins ∷ rest)) (item.Header h) is ∙ headers-fine (header_behind stand) marks end begins rest more begun

  pub entry-fine : (marks : List Mark) (end : ℕ) (x : ItemAt) (e : Entry) (xs : List ItemAt) → IsEntry x e →
      first_misplaced Inside marks end (x ∷ xs) ≡ first_misplaced Inside (marks ++ mark_of e ∷ []) end xs
  entry-fine marks end x e xs is =
      let body = is_body_item x e is in
      ap (λ (o : Option ℕ). or_later o (first_misplaced (stand_behind Inside x.item) (marks_past marks x.line x.indent x.item) end xs)) (body-placed Inside marks x.line x.item body)
      ∙ ap (λ (s : Stand). first_misplaced s (marks_past marks x.line x.indent x.item) end xs) (body-stand Inside x.item body)
      ∙ ap (λ (m : List Mark). first_misplaced Inside m end xs) (entry-mark marks x e is)

  body-fine : (marks : List Mark) (end : ℕ) (xs : List ItemAt) (b : List Entry) (rest : List ItemAt) → AreEntries xs b →
      first_misplaced Inside marks end (xs ++ rest) ≡ first_misplaced Inside (marks ++ marks_of b) end rest
  body-fine marks end [] [] rest are = ap (λ (m : List Mark). first_misplaced Inside m end rest) (sym (append-nil marks))
  body-fine marks end [] (e ∷ b) rest are = absurd are
  body-fine marks end (x ∷ xs) [] rest are = absurd are
  body-fine marks end (x ∷ xs) (e ∷ b) rest are =
      entry-fine marks end x e (xs ++ rest) are.0
      ∙ body-fine (marks ++ mark_of e ∷ []) end xs b rest are.1
      ∙ ap (λ (m : List Mark). first_misplaced Inside m end rest) (append_assoc marks (mark_of e ∷ []) (marks_of b))

  -- a body that is a block may end
  block-ends : (inner : List ItemAt) (node : NodeLines) (line : ℕ) (later : Option ℕ) → AreEntries inner node.body → IsBlockBody node →
      or_later (body_fault line (verdict_in (marks_of node.body))) later ≡ later
  block-ends inner node line later are block =
      ap (λ (v : Verdict). or_later (body_fault line v) later) (block-judged node.body block.0 (entries-lines inner node.body are) block.1).is

  pub nodes-fine : {items : List ItemAt} {nodes : List NodeLines} (stand : Stand) (marks : List Mark) (end : ℕ) → misplaced_end stand marks end ≡ None →
      AreNodes (HasGiven ids) items nodes → All IsBlockBody nodes → first_misplaced stand marks end items ≡ None
  nodes-fine stand marks end closed no_node blocks = closed
  nodes-fine stand marks end closed (first_node {rest = rest} {node = node} {nodes = nodes} is more) blocks =
      ap (λ (l : List ItemAt). first_misplaced stand marks end (l ++ rest)) is.cut
      ∙ ap (first_misplaced stand marks end) (node-cut is.headers is.inner rest is.begins is.ends)
      ∙ headers-fine stand marks end is.begins (is.inner ++ (is.ends ∷ rest)) is.headed is.begun.0
      ∙ body-fine [] end is.inner node.body (is.ends ∷ rest) is.body
      ∙ misplaced-step Inside (marks_of node.body) end is.ends rest item.NodeEnds is.ended.0
      ∙ block-ends is.inner node is.ends.line (first_misplaced Between [] end rest) is.body (All-head IsBlockBody node nodes blocks)
      ∙ nodes-fine Between [] end refl more (All-tail IsBlockBody node nodes blocks)

  tags-fine : {xs : List ItemAt} {ts : List (List ℕ)} (end : ℕ) (rest : List ItemAt) → AreTags xs ts →
      first_misplaced Front [] end (xs ++ rest) ≡ first_misplaced Front [] end rest
  tags-fine end rest no_tag = refl
  tags-fine end rest (next_tag {x = x} {xs = xs} {t = t} is more) = misplaced-step Front [] end x (xs ++ rest) (item.FileTag t) is ∙ tags-fine end rest more

  -- Nodes have no hashtags of the file.

  headers-no_tags : {xs : List ItemAt} {hs : List Header} (rest : List ItemAt) → AreHeaders xs hs → tags_of (xs ++ rest) ≡ tags_of rest
  headers-no_tags rest no_header = refl
  headers-no_tags rest (next_header {x = x} {xs = xs} {h = h} is more) = tags-step x (xs ++ rest) (item.Header h) is ∙ headers-no_tags rest more

  body-no_tags : (xs : List ItemAt) (b : List Entry) (rest : List ItemAt) → AreEntries xs b → tags_of (xs ++ rest) ≡ tags_of rest
  body-no_tags [] [] rest are = refl
  body-no_tags [] (e ∷ b) rest are = absurd are
  body-no_tags (x ∷ xs) [] rest are = absurd are
  body-no_tags (x ∷ xs) (e ∷ b) rest are = body-tags x.item (tags_of (xs ++ rest)) (is_body_item x e are.0) ∙ body-no_tags xs b rest are.1

  pub nodes-no_tags : {items : List ItemAt} {nodes : List NodeLines} → AreNodes (HasGiven ids) items nodes → tags_of items ≡ []
  nodes-no_tags no_node = refl
  nodes-no_tags (first_node {rest = rest} {node = node} is more) =
      ap (λ (l : List ItemAt). tags_of (l ++ rest)) is.cut
      ∙ ap tags_of (node-cut is.headers is.inner rest is.begins is.ends)
      ∙ headers-no_tags (is.begins ∷ (is.inner ++ (is.ends ∷ rest))) is.headed
      ∙ tags-step is.begins (is.inner ++ (is.ends ∷ rest)) item.BodyBegins is.begun.0
      ∙ body-no_tags is.inner node.body (is.ends ∷ rest) is.body
      ∙ tags-step is.ends rest item.NodeEnds is.ended.0
      ∙ nodes-no_tags more

  -- A file is read.

  pub file-tags : {items : List ItemAt} {file : FileLines} → IsFile (HasGiven ids) items file → tags_of items ≡ file.tags
  file-tags {file = file} is =
      ap tags_of is.cut ∙ (tags-read is.rest is.tagged).0 ∙ ap (λ (l : List (List ℕ)). file.tags ++ l) (nodes-no_tags is.are_nodes) ∙ append-nil file.tags

  pub file-nodes : {items : List ItemAt} {file : FileLines} → IsFile (HasGiven ids) items file → nodes_from ids no_draft items ≡ file.nodes
  file-nodes is = ap (nodes_from ids no_draft) is.cut ∙ (tags-read is.rest is.tagged).1 ∙ nodes-read is.are_nodes

  pub file-fine : {items : List ItemAt} {file : FileLines} (end : ℕ) → IsFile (HasGiven ids) items file → All IsBlockBody file.nodes →
      first_misplaced Front [] end items ≡ None
  file-fine end is blocks = ap (first_misplaced Front [] end) is.cut ∙ tags-fine end is.rest is.tagged ∙ nodes-fine Front [] end refl is.are_nodes blocks

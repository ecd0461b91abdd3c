-- Nodes that are titled well, and where titles stand: the first that isn't well, and the headers of all.
use Rattle.std.proofs.Common.{◌≡◌, ℕ, List, [], ◌∷◌, ◌++◌, Bool, true, false, not, cond, ◌&&◌, ◌||◌, is_some, Option, Some, None, All, inl, inr, refl, sym, ap, ◌∙◌, subst}
use Rattle.std.specs.Str.{chars}
use Rattle.std.proofs.lemmas.List.Elements.{All-nil, All-cons, All-head, All-tail}
use Rattle.yarn_base.specs.Name.{is_name_of}
use Rattle.yarn_lines.specs.Lines.{lines_of}
use Rattle.yarn_items.specs.declared.item.Header.{Header}
use Rattle.yarn_items.specs.declared.item.Item.{Item}
use Rattle.yarn_items.specs.declared.item.Item.TheVariants as item
use Rattle.yarn_items.specs.declared.item.Mode.TheVariants.{InHeaders}
use Rattle.yarn_items.specs.Laws.{ItemsAreFound}
use Rattle.yarn_blocks.specs.declared.entry.Entry.{Entry}
use Rattle.yarn_blocks.specs.declared.entry.What.{What}
use Rattle.yarn_blocks.specs.declared.mark.Mark.{Mark}
use Rattle.yarn_nodes.specs.declared.draft.Draft.{Draft}
use Rattle.yarn_nodes.specs.declared.node.FileLines.{FileLines}
use Rattle.yarn_nodes.specs.declared.node.FileRead.{FileRead}
use Rattle.yarn_nodes.specs.declared.node.NodeLines.{NodeLines}
use Rattle.yarn_nodes.specs.declared.node.Titled.{Titled}
use Rattle.yarn_nodes.specs.declared.structure.Stand.{Stand}
use Rattle.yarn_nodes.specs.declared.structure.Stand.TheVariants.{Front, Between, Headed, Inside}
use Rattle.yarn_nodes.specs.Entries.{ItemAt, AreEntries}
use Rattle.yarn_nodes.specs.Laws.{titles_among, IsWellTitled, titles_with, titles_at, IsBadTitle, NoBadTitle, IsBadTitleAt, and_title, titles_in, TitlesAreNoted}
use Rattle.yarn_nodes.specs.Lines.{AreTags, no_tag, next_tag, AreHeaders, no_header, next_header, IsNode, AreNodes, no_node, first_node, IsFile}
use Rattle.yarn_nodes.specs.Nodes.{no_draft, titled_of, header_taken, body_begun, and_what, draft_past, titles_from, and_titled}
use Rattle.yarn_nodes.specs.Structure.{stand_behind, header_behind, marks_past, misplaced_at, first_misplaced}
use Rattle.yarn_nodes.specs.Titles.{is_title, is_mistitled, titled_behind, first_mistitled}
use Rattle.yarn_nodes.proofs.EntryLemmas.{HasGiven, IsBodyItem, is_body_item}
use Rattle.yarn_nodes.proofs.FileLemmas.{node-cut, file-fine}
use Rattle.yarn_nodes.proofs.FoundLemmas.{or-none}
use Rattle.yarn_nodes.proofs.LinesLemmas.{items_in, the-read, items-have, named-given}

-- Nodes that are titled well.

mistitled-step : (titled : Bool) (x : ItemAt) (xs : List ItemAt) (i : Item) → x.item ≡ i →
    first_mistitled titled (x ∷ xs) ≡ cond (is_mistitled titled i) (Some x.line) (first_mistitled (titled_behind titled i) xs)
mistitled-step titled x xs i is = ap (λ (j : Item). cond (is_mistitled titled j) (Some x.line) (first_mistitled (titled_behind titled j) xs)) is

-- headers behind which a node is titled well, where a title stands before them or not
abbrev are_fine : Bool → List Header → Bool
are_fine titled [] = titled
are_fine titled (h ∷ hs) =
    cond (is_title h && (titled || not (is_name_of (chars h.value)))) false (are_fine (titled || is_title h) hs)

-- one title more is one too many
fine-no_more : (hs : List Header) → are_fine true hs ≡ true → titles_among hs ≡ []
fine-no_more [] is = refl
fine-no_more (h ∷ hs) is = by_test (fine-no_more hs) (is_title h) refl
  where
    by_test : (are_fine true hs ≡ true → titles_among hs ≡ []) → (t : Bool) → is_title h ≡ t → titles_among (h ∷ hs) ≡ []
    by_test later true test = let e : are_fine true (h ∷ hs) ≡ false = rw test refl in let f : true ≡ false = sym is ∙ e in absurd cc
    by_test later false test = let e : are_fine true (h ∷ hs) ≡ are_fine true hs = rw test refl in rw test (later (sym e ∙ is))

no_more-fine : (hs : List Header) → titles_among hs ≡ [] → are_fine true hs ≡ true
no_more-fine [] is = refl
no_more-fine (h ∷ hs) is = by_test (no_more-fine hs) (is_title h) refl
  where
    by_test : (titles_among hs ≡ [] → are_fine true hs ≡ true) → (t : Bool) → is_title h ≡ t → are_fine true (h ∷ hs) ≡ true
    by_test later true test = let e = rw test at is in absurd cc
    by_test later false test = rw test (later (rw test at is))

-- one title that is a name
record HasOne (hs : List Header) : Type 0 where
  pub value : List ℕ
  pub one : titles_among hs ≡ value ∷ []
  pub named : is_name_of (chars value) ≡ true

fine-one : (hs : List Header) → are_fine false hs ≡ true → HasOne hs
fine-one [] is = absurd cc
fine-one (h ∷ hs) is = by_test (fine-one hs) (is_title h) refl (is_name_of (chars h.value)) refl
  where
    by_test : (are_fine false hs ≡ true → HasOne hs) → (t : Bool) → is_title h ≡ t → (n : Bool) → is_name_of (chars h.value) ≡ n → HasOne (h ∷ hs)
    by_test later true test true named =
        let e : are_fine false (h ∷ hs) ≡ are_fine true hs = rw (test, named) refl in
        record {
          value = h.value;
          one = ap (λ (t : Bool). cond t (h.value ∷ titles_among hs) (titles_among hs)) test
              ∙ ap (λ (l : List (List ℕ)). h.value ∷ l) (fine-no_more hs (sym e ∙ is));
          named = named;
        }
    by_test later true test false named = let e : are_fine false (h ∷ hs) ≡ false = rw (test, named) refl in let f : true ≡ false = sym is ∙ e in absurd cc
    by_test later false test n named =
        let e : are_fine false (h ∷ hs) ≡ are_fine false hs = rw test refl in
        let rest = later (sym e ∙ is) in
        let among : titles_among (h ∷ hs) ≡ titles_among hs = ap (λ (t : Bool). cond t (h.value ∷ titles_among hs) (titles_among hs)) test in
        record { value = rest.value; one = among ∙ rest.one; named = rest.named }

one-fine : (hs : List Header) → HasOne hs → are_fine false hs ≡ true
one-fine [] is = let e = is.one in absurd cc
one-fine (h ∷ hs) is = by_test (one-fine hs) (is_title h) refl
  where
    by_test : (HasOne hs → are_fine false hs ≡ true) → (t : Bool) → is_title h ≡ t → are_fine false (h ∷ hs) ≡ true
    by_test later true test =
        let e : h.value ∷ titles_among hs ≡ is.value ∷ [] = rw test at is.one in
        let same : is.value ≡ h.value = cc in
        let none : titles_among hs ≡ [] = cc in
        let named : is_name_of (chars h.value) ≡ true = ap (λ (v : List ℕ). is_name_of (chars v)) (sym same) ∙ is.named in
        rw (test, named) (no_more-fine hs none)
    by_test later false test = rw test (later (record { value = is.value; one = rw test at is.one; named = is.named }))

-- the items of a node
headers-pass : {xs : List ItemAt} {hs : List Header} (titled : Bool) (begins : ItemAt) (rest : List ItemAt) → AreHeaders xs hs → begins.item ≡ item.BodyBegins →
    are_fine titled hs ≡ true → first_mistitled titled (xs ++ (begins ∷ rest)) ≡ first_mistitled true rest
headers-pass true begins rest no_header begun fine = mistitled-step true begins rest item.BodyBegins begun
headers-pass false begins rest no_header begun fine = absurd cc
headers-pass titled begins rest (next_header {x = x} {xs = xs} {h = h} {hs = hs} is more) begun fine =
    mistitled-step titled x (xs ++ (begins ∷ rest)) (item.Header h) is
    ∙ by_test (headers-pass (titled || is_title h) begins rest more begun) (is_title h && (titled || not (is_name_of (chars h.value)))) refl
  where
    by_test : (are_fine (titled || is_title h) hs ≡ true → first_mistitled (titled || is_title h) (xs ++ (begins ∷ rest)) ≡ first_mistitled true rest) →
        (t : Bool) → (is_title h && (titled || not (is_name_of (chars h.value)))) ≡ t →
        cond (is_title h && (titled || not (is_name_of (chars h.value)))) (Some x.line) (first_mistitled (titled || is_title h) (xs ++ (begins ∷ rest))) ≡ first_mistitled true rest
    by_test later true test = let e : are_fine titled (h ∷ hs) ≡ false = rw test refl in let f : true ≡ false = sym fine ∙ e in absurd cc
    by_test later false test =
        let e : are_fine titled (h ∷ hs) ≡ are_fine (titled || is_title h) hs = rw test refl in
        rw test (later (sym e ∙ fine))

headers-stop : {xs : List ItemAt} {hs : List Header} (titled : Bool) (begins : ItemAt) (rest : List ItemAt) → AreHeaders xs hs → begins.item ≡ item.BodyBegins →
    first_mistitled titled (xs ++ (begins ∷ rest)) ≡ None → are_fine titled hs ≡ true
headers-stop true begins rest no_header begun none = refl
headers-stop false begins rest no_header begun none =
    let e : Some begins.line ≡ None = sym (mistitled-step false begins rest item.BodyBegins begun) ∙ none in absurd cc
headers-stop titled begins rest (next_header {x = x} {xs = xs} {h = h} {hs = hs} is more) begun none =
    by_test (headers-stop (titled || is_title h) begins rest more begun) (is_title h && (titled || not (is_name_of (chars h.value)))) refl
    (sym (mistitled-step titled x (xs ++ (begins ∷ rest)) (item.Header h) is) ∙ none)
  where
    by_test : (first_mistitled (titled || is_title h) (xs ++ (begins ∷ rest)) ≡ None → are_fine (titled || is_title h) hs ≡ true) →
        (t : Bool) → (is_title h && (titled || not (is_name_of (chars h.value)))) ≡ t →
        cond (is_title h && (titled || not (is_name_of (chars h.value)))) (Some x.line) (first_mistitled (titled || is_title h) (xs ++ (begins ∷ rest))) ≡ None →
        are_fine titled (h ∷ hs) ≡ true
    by_test later true test told = let e = rw test at told in absurd cc
    by_test later false test told = rw test (later (rw test at told))

body-untitled : (titled : Bool) (i : Item) → IsBodyItem i → is_mistitled titled i ≡ false
body-untitled titled (item.Line said) is = refl
body-untitled titled (item.Offer said asked) is = refl
body-untitled titled (item.Command own tags) is = refl
body-untitled titled (item.Game said) is = refl
body-untitled titled (item.FileTag tag) is = absurd is
body-untitled titled (item.Header header) is = absurd is
body-untitled titled item.BodyBegins is = absurd is
body-untitled titled item.NodeEnds is = absurd is

body-behind : (titled : Bool) (i : Item) → IsBodyItem i → titled_behind titled i ≡ titled
body-behind titled (item.Line said) is = refl
body-behind titled (item.Offer said asked) is = refl
body-behind titled (item.Command own tags) is = refl
body-behind titled (item.Game said) is = refl
body-behind titled (item.FileTag tag) is = absurd is
body-behind titled (item.Header header) is = absurd is
body-behind titled item.BodyBegins is = absurd is
body-behind titled item.NodeEnds is = absurd is

body-passes : (xs : List ItemAt) (b : List Entry) (rest : List ItemAt) → AreEntries xs b → first_mistitled true (xs ++ rest) ≡ first_mistitled true rest
body-passes [] [] rest are = refl
body-passes [] (e ∷ b) rest are = absurd are
body-passes (x ∷ xs) [] rest are = absurd are
body-passes (x ∷ xs) (e ∷ b) rest are =
    let body = is_body_item x e are.0 in
    ap (λ (t : Bool). cond t (Some x.line) (first_mistitled (titled_behind true x.item) (xs ++ rest))) (body-untitled true x.item body)
    ∙ ap (λ (t : Bool). first_mistitled t (xs ++ rest)) (body-behind true x.item body)
    ∙ body-passes xs b rest are.1

module _ (ids : Bool) where
  -- what is looked at behind the headers of a node
  body-end : {items : List ItemAt} {node : NodeLines} (rest : List ItemAt) (is : IsNode (HasGiven ids) items node) →
      first_mistitled true (is.inner ++ (is.ends ∷ rest)) ≡ first_mistitled false rest
  body-end {node = node} rest is = body-passes is.inner node.body (is.ends ∷ rest) is.body ∙ mistitled-step true is.ends rest item.NodeEnds is.ended.0

  node-laid : {items : List ItemAt} {node : NodeLines} (rest : List ItemAt) (is : IsNode (HasGiven ids) items node) →
      items ++ rest ≡ is.headers ++ (is.begins ∷ (is.inner ++ (is.ends ∷ rest)))
  node-laid rest is = ap (λ (l : List ItemAt). l ++ rest) is.cut ∙ node-cut is.headers is.inner rest is.begins is.ends

  node-passes : {items : List ItemAt} {node : NodeLines} (rest : List ItemAt) → IsNode (HasGiven ids) items node → IsWellTitled node →
      first_mistitled false (items ++ rest) ≡ first_mistitled false rest
  node-passes {node = node} rest is well =
      ap (first_mistitled false) (node-laid rest is)
      ∙ headers-pass false is.begins (is.inner ++ (is.ends ∷ rest)) is.headed is.begun.0
      (one-fine node.headers (record { value = well.value; one = well.one; named = well.named }))
      ∙ body-end rest is

  node-well : {items : List ItemAt} {node : NodeLines} (rest : List ItemAt) → IsNode (HasGiven ids) items node → first_mistitled false (items ++ rest) ≡ None →
      IsWellTitled node
  node-well {node = node} rest is none =
      let one = fine-one node.headers (headers-stop false is.begins (is.inner ++ (is.ends ∷ rest)) is.headed is.begun.0
      (ap (first_mistitled false) (sym (node-laid rest is)) ∙ none)) in
      record { value = one.value; one = one.one; named = one.named }

  nodes-well : {items : List ItemAt} {nodes : List NodeLines} → AreNodes (HasGiven ids) items nodes → first_mistitled false items ≡ None → All IsWellTitled nodes
  nodes-well no_node none = All-nil IsWellTitled
  nodes-well (first_node {items = items} {rest = rest} {node = node} {nodes = nodes} is more) none =
      let well = node-well rest is none in
      All-cons IsWellTitled node nodes well (nodes-well more (sym (node-passes rest is well) ∙ none))

  well-nodes : {items : List ItemAt} {nodes : List NodeLines} → AreNodes (HasGiven ids) items nodes → All IsWellTitled nodes → first_mistitled false items ≡ None
  well-nodes no_node all = refl
  well-nodes (first_node {items = items} {rest = rest} {node = node} {nodes = nodes} is more) all =
      node-passes rest is (All-head IsWellTitled node nodes all) ∙ well-nodes more (All-tail IsWellTitled node nodes all)

  tags-pass : {xs : List ItemAt} {ts : List (List ℕ)} (rest : List ItemAt) → AreTags xs ts → first_mistitled false (xs ++ rest) ≡ first_mistitled false rest
  tags-pass rest no_tag = refl
  tags-pass rest (next_tag {x = x} {xs = xs} {t = t} is more) = mistitled-step false x (xs ++ rest) (item.FileTag t) is ∙ tags-pass rest more

  pub file-well : {items : List ItemAt} {file : FileLines} → IsFile (HasGiven ids) items file → first_mistitled false items ≡ None → All IsWellTitled file.nodes
  file-well is none = nodes-well is.are_nodes (sym (tags-pass is.rest is.tagged) ∙ ap (first_mistitled false) (sym is.cut) ∙ none)

  pub well-file : {items : List ItemAt} {file : FileLines} → IsFile (HasGiven ids) items file → All IsWellTitled file.nodes → first_mistitled false items ≡ None
  well-file is all = ap (first_mistitled false) is.cut ∙ tags-pass is.rest is.tagged ∙ well-nodes is.are_nodes all

-- The first that isn't titled well.

abbrev pub some_titles : List (List ℕ) → Bool
some_titles [] = false
some_titles (t ∷ ts) = true

behind-some : (ts : List (List ℕ)) (i : Item) → titled_behind (some_titles ts) i ≡ some_titles (titles_with ts i)
behind-some ts (item.FileTag tag) = refl
behind-some ts (item.Header h) = by_test ts (is_title h) refl
  where
    by_test : (l : List (List ℕ)) (t : Bool) → is_title h ≡ t → titled_behind (some_titles l) (item.Header h) ≡ some_titles (titles_with l (item.Header h))
    by_test [] true is = rw is refl
    by_test [] false is = rw is refl
    by_test (x ∷ l) true is = rw is refl
    by_test (x ∷ l) false is = rw is refl
behind-some ts item.BodyBegins = refl
behind-some ts item.NodeEnds = refl
behind-some ts (item.Line said) = refl
behind-some ts (item.Offer said asked) = refl
behind-some ts (item.Command own tags) = refl
behind-some ts (item.Game said) = refl

header-bad : (ts : List (List ℕ)) (h : Header) → is_mistitled (some_titles ts) (item.Header h) ≡ true → IsBadTitle ts (item.Header h)
header-bad ts h is = by_test ts (is_title h) refl (is_name_of (chars h.value)) refl is
  where
    by_test : (l : List (List ℕ)) (t : Bool) → is_title h ≡ t → (n : Bool) → is_name_of (chars h.value) ≡ n →
        is_mistitled (some_titles l) (item.Header h) ≡ true → IsBadTitle l (item.Header h)
    by_test [] true test true named bad = let e : is_mistitled false (item.Header h) ≡ false = rw (test, named) refl in let f : true ≡ false = sym bad ∙ e in absurd cc
    by_test [] true test false named bad = (test, inr named)
    by_test (x ∷ l) true test n named bad = (test, inl (λ e. absurd cc))
    by_test l false test n named bad =
        let e : is_mistitled (some_titles l) (item.Header h) ≡ false = ap (λ (t : Bool). t && (some_titles l || not (is_name_of (chars h.value)))) test in
        let f : true ≡ false = sym bad ∙ e in absurd cc

bad-header : (ts : List (List ℕ)) (h : Header) → IsBadTitle ts (item.Header h) → is_mistitled (some_titles ts) (item.Header h) ≡ true
bad-header [] h (test, inl some) = absurd (some refl)
bad-header [] h (test, inr named) = rw (test, named) refl
bad-header (x ∷ ts) h (test, why) = rw test refl

pub bad-told : (ts : List (List ℕ)) (i : Item) → is_mistitled (some_titles ts) i ≡ true → IsBadTitle ts i
bad-told ts (item.FileTag tag) is = absurd cc
bad-told ts (item.Header h) is = header-bad ts h is
bad-told [] item.BodyBegins is = refl
bad-told (t ∷ ts) item.BodyBegins is = absurd cc
bad-told ts item.NodeEnds is = absurd cc
bad-told ts (item.Line said) is = absurd cc
bad-told ts (item.Offer said asked) is = absurd cc
bad-told ts (item.Command own tags) is = absurd cc
bad-told ts (item.Game said) is = absurd cc

told-bad : (ts : List (List ℕ)) (i : Item) → IsBadTitle ts i → is_mistitled (some_titles ts) i ≡ true
told-bad ts (item.FileTag tag) bad = absurd bad
told-bad ts (item.Header h) bad = bad-header ts h bad
told-bad [] item.BodyBegins bad = refl
told-bad (t ∷ ts) item.BodyBegins bad = absurd cc
told-bad ts item.NodeEnds bad = absurd bad
told-bad ts (item.Line said) bad = absurd bad
told-bad ts (item.Offer said asked) bad = absurd bad
told-bad ts (item.Command own tags) bad = absurd bad
told-bad ts (item.Game said) bad = absurd bad

title-step : (ts : List (List ℕ)) (x : ItemAt) (xs : List ItemAt) → is_mistitled (some_titles ts) x.item ≡ false →
    first_mistitled (some_titles ts) (x ∷ xs) ≡ first_mistitled (some_titles (titles_with ts x.item)) xs
title-step ts x xs is =
    ap (λ (t : Bool). cond t (Some x.line) (first_mistitled (titled_behind (some_titles ts) x.item) xs)) is
    ∙ ap (λ (t : Bool). first_mistitled t xs) (behind-some ts x.item)

title-here : (ts : List (List ℕ)) (x : ItemAt) (xs : List ItemAt) → is_mistitled (some_titles ts) x.item ≡ true →
    first_mistitled (some_titles ts) (x ∷ xs) ≡ Some x.line
title-here ts x xs is = ap (λ (t : Bool). cond t (Some x.line) (first_mistitled (titled_behind (some_titles ts) x.item) xs)) is

not-title-here : (ts : List (List ℕ)) (i : Item) → (IsBadTitle ts i → ⊥) → is_mistitled (some_titles ts) i ≡ false
not-title-here ts i none = by_test (is_mistitled (some_titles ts) i) refl
  where
    by_test : (t : Bool) → is_mistitled (some_titles ts) i ≡ t → is_mistitled (some_titles ts) i ≡ false
    by_test true is = absurd (none (bad-told ts i is))
    by_test false is = is

pub fine-untold : (ts : List (List ℕ)) (items : List ItemAt) → NoBadTitle ts items → first_mistitled (some_titles ts) items ≡ None
fine-untold ts [] fine = refl
fine-untold ts (x ∷ xs) fine = title-step ts x xs (not-title-here ts x.item fine.0) ∙ fine-untold (titles_with ts x.item) xs fine.1

pub untold-fine : (ts : List (List ℕ)) (items : List ItemAt) → first_mistitled (some_titles ts) items ≡ None → NoBadTitle ts items
untold-fine ts [] none = tt
untold-fine ts (x ∷ xs) none = by_test (untold-fine (titles_with ts x.item) xs) (is_mistitled (some_titles ts) x.item) refl
  where
    by_test : (first_mistitled (some_titles (titles_with ts x.item)) xs ≡ None → NoBadTitle (titles_with ts x.item) xs) →
        (t : Bool) → is_mistitled (some_titles ts) x.item ≡ t → NoBadTitle ts (x ∷ xs)
    by_test later true is = let h : Some x.line ≡ None = sym (title-here ts x xs is) ∙ none in absurd cc
    by_test later false is = (
      λ bad. let h : true ≡ false = sym (told-bad ts x.item bad) ∙ is in absurd cc,
      later (sym (title-step ts x xs is) ∙ none),
    )

pub bad-found : (ts : List (List ℕ)) (items : List ItemAt) (number : ℕ) → first_mistitled (some_titles ts) items ≡ Some number → IsBadTitleAt ts items number
bad-found ts [] number told = absurd cc
bad-found ts (x ∷ xs) number told = by_test (bad-found (titles_with ts x.item) xs number) (is_mistitled (some_titles ts) x.item) refl
  where
    by_test : (first_mistitled (some_titles (titles_with ts x.item)) xs ≡ Some number → IsBadTitleAt (titles_with ts x.item) xs number) →
        (t : Bool) → is_mistitled (some_titles ts) x.item ≡ t → IsBadTitleAt ts (x ∷ xs) number
    by_test later true is =
        let same : Some x.line ≡ Some number = sym (title-here ts x xs is) ∙ told in
        record { before = []; x = x; behind = xs; cut = refl; none_before = tt; bad = bad-told ts x.item is; at = cc }
    by_test later false is =
        let rest = later (sym (title-step ts x xs is) ∙ told) in
        record {
          before = x ∷ rest.before;
          x = rest.x;
          behind = rest.behind;
          cut = ap (λ (l : List ItemAt). x ∷ l) rest.cut;
          none_before = (λ bad. let h : true ≡ false = sym (told-bad ts x.item bad) ∙ is in absurd cc, rest.none_before);
          bad = rest.bad;
          at = rest.at;
        }

first-told : (ts : List (List ℕ)) (before : List ItemAt) (x : ItemAt) (behind : List ItemAt) → NoBadTitle ts before → IsBadTitle (titles_at ts before) x.item →
    first_mistitled (some_titles ts) (before ++ x ∷ behind) ≡ Some x.line
first-told ts [] x behind none bad = title-here ts x behind (told-bad ts x.item bad)
first-told ts (y ∷ before) x behind none bad =
    title-step ts y (before ++ x ∷ behind) (not-title-here ts y.item none.0) ∙ first-told (titles_with ts y.item) before x behind none.1 bad

pub found-bad : (ts : List (List ℕ)) (items : List ItemAt) (number : ℕ) → IsBadTitleAt ts items number → first_mistitled (some_titles ts) items ≡ Some number
found-bad ts items number is = ap (first_mistitled (some_titles ts)) is.cut ∙ first-told ts is.before is.x is.behind is.none_before is.bad ∙ ap Some is.at

-- The headers of titles.

what-title : (draft : Draft) (line indent : ℕ) (w : Option What) → (and_what draft line indent w).title ≡ draft.title
what-title draft line indent None = refl
what-title draft line indent (Some w) = refl

-- a line of a body leaves the title
body-title : (ids : Bool) (draft : Draft) (x : ItemAt) (i : Item) → IsBodyItem i → (draft_past ids draft x i).title ≡ draft.title
body-title ids draft x (item.Line said) is = what-title draft x.line x.indent _
body-title ids draft x (item.Offer said asked) is = what-title draft x.line x.indent _
body-title ids draft x (item.Command own tags) is = what-title draft x.line x.indent _
body-title ids draft x (item.Game said) is = what-title draft x.line x.indent _
body-title ids draft x (item.FileTag tag) is = absurd is
body-title ids draft x (item.Header header) is = absurd is
body-title ids draft x item.BodyBegins is = absurd is
body-title ids draft x item.NodeEnds is = absurd is

header-titled : (draft : Draft) (line : ℕ) (header : Header) →
    is_some (header_taken draft line header).title ≡ (is_some draft.title || is_title header)
header-titled draft line header = by_title draft.title refl (is_title header) refl
  where
    by_title : (o : Option Titled) → draft.title ≡ o → (t : Bool) → is_title header ≡ t →
        is_some (header_taken draft line header).title ≡ (is_some draft.title || is_title header)
    by_title None is true test = rw (is, test) refl
    by_title None is false test = rw (is, test) refl
    by_title (Some titled) is true test = rw (is, test) refl
    by_title (Some titled) is false test = rw (is, test) refl

-- a node is titled in its body, and between nodes there is no title
abbrev Tied : Stand → Option Titled → Type 0
Tied Front title = title ≡ None
Tied Between title = title ≡ None
Tied Headed title = Unit {0}
Tied Inside title = is_some title ≡ true

abbrev open_title : Option Titled → List Titled
open_title None = []
open_title (Some t) = t ∷ []

cond-none : {A : Type 0} (test : Bool) (x : A) (o : Option A) → cond test (Some x) o ≡ None → (test ≡ false) × (o ≡ None)
cond-none true x o is = absurd cc
cond-none false x o is = (refl, is)

header-tied : (stand : Stand) (draft : Draft) (line : ℕ) (h : Header) → Tied stand draft.title → Tied (header_behind stand) (header_taken draft line h).title
header-tied Front draft line h tied = tt
header-tied Between draft line h tied = tt
header-tied Headed draft line h tied = tt
header-tied Inside draft line h tied = header-titled draft line h ∙ ap (λ (t : Bool). t || is_title h) tied

-- one header more
header-place : (draft : Draft) (line : ℕ) (h : Header) (later : List Titled) → is_mistitled (is_some draft.title) (item.Header h) ≡ false →
    open_title draft.title ++ and_title line (item.Header h) later ≡ open_title (header_taken draft line h).title ++ later
header-place draft line h later fine = by_title draft.title refl (is_title h) refl
  where
    by_title : (o : Option Titled) → draft.title ≡ o → (t : Bool) → is_title h ≡ t →
        open_title draft.title ++ and_title line (item.Header h) later ≡ open_title (header_taken draft line h).title ++ later
    by_title None is true test = rw (is, test) refl
    by_title None is false test = rw (is, test) refl
    by_title (Some titled) is true test =
        let e : is_mistitled (is_some draft.title) (item.Header h) ≡ true = rw (is, test) refl in
        let f : true ≡ false = sym e ∙ fine in absurd cc
    by_title (Some titled) is false test = rw (is, test) refl

ended-place : (o : Option Titled) (later : List Titled) → is_some o ≡ true → open_title o ++ later ≡ titled_of o ∷ later
ended-place None later is = absurd cc
ended-place (Some t) later is = refl

inside-tied : (stand : Stand) (marks : List Mark) (line : ℕ) (title : Option Titled) → Tied stand title → misplaced_at stand marks line item.NodeEnds ≡ None →
    is_some title ≡ true
inside-tied Front marks line title tied is = absurd cc
inside-tied Between marks line title tied is = absurd cc
inside-tied Headed marks line title tied is = absurd cc
inside-tied Inside marks line title tied is = tied

not-not : (b : Bool) → not b ≡ false → b ≡ true
not-not true is = refl
not-not false is = absurd cc

end-tied : (stand : Stand) (marks : List Mark) (title : Option Titled) (end : ℕ) → first_misplaced stand marks end [] ≡ None → Tied stand title → open_title title ++ [] ≡ []
end-tied Front marks title end none tied = ap (λ (o : Option Titled). open_title o ++ []) tied
end-tied Between marks title end none tied = ap (λ (o : Option Titled). open_title o ++ []) tied
end-tied Headed marks title end none tied = absurd cc
end-tied Inside marks title end none tied = absurd cc

module _ (ids : Bool) where
  places-from : (stand : Stand) (marks : List Mark) (draft : Draft) (items : List ItemAt) (end : ℕ) → first_misplaced stand marks end items ≡ None →
      first_mistitled (is_some draft.title) items ≡ None → Tied stand draft.title →
      open_title draft.title ++ titles_in items ≡ titles_from ids draft items
  places-from stand marks draft [] end placed titled tied = end-tied stand marks draft.title end placed tied
  places-from stand marks draft (x ∷ xs) end placed titled tied =
      by_item x.item
      (λ s m d. places-from s m d xs end)
      (or-none (misplaced_at stand marks x.line x.item) (first_misplaced (stand_behind stand x.item) (marks_past marks x.line x.indent x.item) end xs) placed)
      (cond-none (is_mistitled (is_some draft.title) x.item) x.line (first_mistitled (titled_behind (is_some draft.title) x.item) xs) titled)
    where
      goes_on : (m : List Mark) (d : Draft) → d.title ≡ draft.title →
          (first_mistitled (is_some d.title) xs ≡ None → Tied stand d.title → open_title d.title ++ titles_in xs ≡ titles_from ids d xs) →
          first_mistitled (is_some draft.title) xs ≡ None → open_title draft.title ++ titles_in xs ≡ titles_from ids d xs
      goes_on m d same later fine =
          ap (λ (o : Option Titled). open_title o ++ titles_in xs) (sym same)
          ∙ later (ap (λ (o : Option Titled). first_mistitled (is_some o) xs) same ∙ fine) (subst (Tied stand) (sym same) tied)

      by_item : (i : Item) →
          ((s : Stand) (m : List Mark) (d : Draft) → first_misplaced s m end xs ≡ None → first_mistitled (is_some d.title) xs ≡ None → Tied s d.title →
          open_title d.title ++ titles_in xs ≡ titles_from ids d xs) →
          (misplaced_at stand marks x.line i ≡ None) × (first_misplaced (stand_behind stand i) (marks_past marks x.line x.indent i) end xs ≡ None) →
          (is_mistitled (is_some draft.title) i ≡ false) × (first_mistitled (titled_behind (is_some draft.title) i) xs ≡ None) →
          open_title draft.title ++ and_title x.line i (titles_in xs)
          ≡ and_titled draft i (titles_from ids (draft_past ids draft x i) xs)
      by_item (item.FileTag tag) later place title = later stand marks draft place.1 title.1 tied
      by_item (item.Header h) later place title =
          header-place draft x.line h (titles_in xs) title.0
          ∙ later (header_behind stand) marks (header_taken draft x.line h) place.1
          (ap (λ (b : Bool). first_mistitled b xs) (header-titled draft x.line h) ∙ title.1) (header-tied stand draft x.line h tied)
      by_item item.BodyBegins later place title =
          later Inside [] (body_begun draft x.line) place.1 title.1 (not-not (is_some draft.title) title.0)
      by_item item.NodeEnds later place title =
          ended-place draft.title (titles_in xs) (inside-tied stand marks x.line draft.title tied place.0)
          ∙ ap (λ (l : List Titled). titled_of draft.title ∷ l) (later Between [] no_draft place.1 title.1 refl)
      by_item (item.Line said) later place title =
          let m = marks_past marks x.line x.indent (item.Line said) in
          let d = draft_past ids draft x (item.Line said) in
          goes_on m d (body-title ids draft x (item.Line said) tt) (later stand m d place.1) title.1
      by_item (item.Offer said asked) later place title =
          let m = marks_past marks x.line x.indent (item.Offer said asked) in
          let d = draft_past ids draft x (item.Offer said asked) in
          goes_on m d (body-title ids draft x (item.Offer said asked) tt) (later stand m d place.1) title.1
      by_item (item.Command own tags) later place title =
          let m = marks_past marks x.line x.indent (item.Command own tags) in
          let d = draft_past ids draft x (item.Command own tags) in
          goes_on m d (what-title draft x.line x.indent _) (later stand m d place.1) title.1
      by_item (item.Game said) later place title =
          let m = marks_past marks x.line x.indent (item.Game said) in
          let d = draft_past ids draft x (item.Game said) in
          goes_on m d (body-title ids draft x (item.Game said) tt) (later stand m d place.1) title.1

  -- the titles of nodes that are titled well are those of all headers `title`
  pub file-titles : (items : List ItemAt) (end : ℕ) → first_misplaced Front [] end items ≡ None → first_mistitled false items ≡ None →
      titles_from ids no_draft items ≡ titles_in items
  file-titles items end placed titled = sym (places-from Front [] no_draft items end placed titled refl)

-- What is noted of a file.

module _ (items_found : ItemsAreFound) where
  pub titles_are_noted : TitlesAreNoted
  titles_are_noted ids number source file stands blocks =
      let given = named-given ids source file stands in
      let end = (lines_of source.bytes).end in
      let have = items-have items_found InHeaders (lines_of source.bytes).lines in
      let same : items_in source ≡ given.items = (have given.items given.has_items).0 in
      let items : List ItemAt = items_in source in
      let placed : first_misplaced Front [] end items ≡ None =
      ap (first_misplaced Front [] end) same ∙ file-fine ids end given.is_file blocks in
      record {
        some = λ line. (
          λ told. record {
            items = given.items;
            has = given.has_items;
            at = bad-found [] given.items line (ap (first_mistitled false) (sym same) ∙ told);
          },
          λ is. ap (first_mistitled false) (have is.items is.has).0 ∙ found-bad [] is.items line is.at,
        );
        none = (
          λ none. record {
            items = given.items;
            has = given.has_items;
            fine = untold-fine [] given.items (ap (first_mistitled false) (sym same) ∙ none);
          },
          λ fine. ap (first_mistitled false) (have fine.items fine.has).0 ∙ fine-untold [] fine.items fine.fine,
        );
        well = (
          λ none. file-well ids given.is_file (ap (first_mistitled false) (sym same) ∙ none),
          λ well. ap (first_mistitled false) same ∙ well-file ids given.is_file well,
        );
        titles = λ none others has.
            ap (λ (r : FileRead). r.titles) (the-read ids number source)
            ∙ file-titles ids items end placed none ∙ ap titles_in (have others has).0;
      }

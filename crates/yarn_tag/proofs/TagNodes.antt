-- The nodes of a tagged file: those of the file, with ids put on their lines.
use Rattle.std.proofs.Common.{◌≡◌, ℕ, List, [], ◌∷◌, ◌++◌, map, nat_eq, Bool, true, false, cond, ◌&&◌, ◌||◌, is_none, Option, Some, None, refl, sym, ap, ◌∙◌, subst, append_assoc, append-nil}
use mathlib.Core.Path.{ap₂}
use Rattle.std.proofs.lemmas.List.{map-append}
use Rattle.std.proofs.lemmas.List.Folds.{list_any-append}
use Rattle.yarn_commands.specs.declared.command.Command.{Command}
use Rattle.yarn_commands.specs.declared.command.Command.TheVariants as command
use Rattle.yarn_items.specs.declared.item.Header.{Header}
use Rattle.yarn_items.specs.declared.item.Item.{Item}
use Rattle.yarn_items.specs.declared.item.Item.TheVariants as item
use Rattle.yarn_items.specs.Text.{is_id, has_no_id}
use Rattle.yarn_blocks.specs.declared.tree.Head.{Head}
use Rattle.yarn_blocks.specs.declared.tree.LineText.{LineText}
use Rattle.yarn_blocks.specs.declared.entry.Entry.{Entry}
use Rattle.yarn_blocks.specs.declared.entry.Simple.{Simple}
use Rattle.yarn_blocks.specs.declared.entry.Simple.TheVariants as simple
use Rattle.yarn_blocks.specs.declared.entry.What.{What}
use Rattle.yarn_blocks.specs.declared.entry.What.TheVariants.{Statement, Offer, If, ElseIf, Else, EndIf}
use Rattle.yarn_blocks.specs.Block.{Block, empty, statement, option, choice, Tail, ends, otherwise, next}
use Rattle.yarn_blocks.specs.Tree.{Offered, Leaf, Group, Choice, Stmts, Nil, Cons, Clauses, Last, and_option}
use Rattle.yarn_blocks.proofs.Viable.{block-read}
use Rattle.yarn_nodes.specs.declared.node.FileLines.{FileLines}
use Rattle.yarn_nodes.specs.declared.node.NodeLines.{NodeLines}
use Rattle.yarn_nodes.specs.Entries.{ItemAt, said_by as said_at, id_in, text_at, command_at, what_at, IsEntry, AreEntries}
use Rattle.yarn_nodes.specs.Ids.{HasNoIds}
use Rattle.yarn_nodes.specs.Lines.{AreTags, no_tag, next_tag, AreHeaders, no_header, next_header, IsNode, AreNodes, no_node, first_node, IsFile}
use Rattle.yarn_nodes.specs.Laws.{IsBlockBody}
use Rattle.yarn_nodes.proofs.EntryLemmas.{command-says}
use Rattle.yarn_tree.specs.Trees.{stmts_or_none, grown_node}
use Rattle.yarn_meaning.specs.Texts.{said_by, said_in, said_in_clauses, said_in_last, said_in_nodes}
use Rattle.yarn_tag.specs.declared.spoken.Spoken.{Spoken}
use Rattle.yarn_tag.specs.Tagged.{own_id, spoken_of, spoken_in_nodes, lacks, id_of}
use Rattle.yarn_tag.specs.TagLaws.{HaveId, kept, put, SameNodes}
use Rattle.yarn_tag.proofs.TagTree.{again_simple, again_what, again_entry, again_body, again_stmts, block-again, Each, each-parts, same-stmts}
use Rattle.yarn_tag.proofs.TagItems.{spoken_by, spoken_items, wants, Marked, none-own, item_with, put_on, item_again}

-- ---- the lines and options of a body

abbrev and_text : Option LineText → List LineText → List LineText
and_text (Some text) texts = text ∷ texts
and_text None texts = texts

abbrev body_texts : List Entry → List LineText
body_texts [] = []
body_texts (x ∷ xs) = and_text (said_at x.what) (body_texts xs)

and_text-append : (s : Option LineText) (a b : List LineText) → and_text s (a ++ b) ≡ and_text s a ++ b
and_text-append (Some text) a b = refl
and_text-append None a b = refl

body-append : (xs ys : List Entry) → body_texts (xs ++ ys) ≡ body_texts xs ++ body_texts ys
body-append [] ys = refl
body-append (x ∷ xs) ys = ap (and_text (said_at x.what)) (body-append xs ys) ∙ and_text-append (said_at x.what) (body_texts xs) (body_texts ys)

simple-text : (n : Simple) (texts : List LineText) → said_by n ++ texts ≡ and_text (said_at (Statement n)) texts
simple-text (simple.Line text) texts = refl
simple-text (simple.Command text) texts = refl
simple-text (simple.Set head name op e) texts = refl
simple-text (simple.Declare head name value kind) texts = refl
simple-text (simple.Jump head title) texts = refl
simple-text (simple.JumpTo head e) texts = refl
simple-text (simple.Stop head) texts = refl
simple-text (simple.Call head e) texts = refl

option-text : (n : Offered) (body b : Stmts) → said_in (and_option n body b) ≡ n.text ∷ (said_in body ++ said_in b)
option-text n body Nil = ap (λ l. n.text ∷ l) (append-nil (said_in body ++ []))
option-text n body (Cons (Leaf m) b) = ap (λ l. n.text ∷ (l ++ (said_by m ++ said_in b))) (append-nil (said_in body))
option-text n body (Cons (Group os) b) = ap (λ l. n.text ∷ l) (append_assoc (said_in body) _ (said_in b))
option-text n body (Cons (Choice cs last e) b) = ap (λ l. n.text ∷ (l ++ ((said_in_clauses cs ++ said_in_last last) ++ said_in b))) (append-nil (said_in body))

mutual
  block-texts : {xs behind : List Entry} {b : Stmts} → Block xs behind b → said_in b ≡ body_texts xs
  block-texts empty = refl
  block-texts (statement {x = x} {n = n} {xs = xs} {b = b} w r) =
      simple-text n (said_in b) ∙ ap (and_text (said_at (Statement n))) (block-texts r) ∙ ap (λ v. and_text (said_at v) (body_texts xs)) (sym w)
  block-texts (option {x = x} {n = n} {run = run} {xs = xs} {body = body} {b = b} w e first r) =
      option-text n body b
      ∙ ap (λ l. n.text ∷ (l ++ said_in b)) (block-texts first)
      ∙ ap (λ l. n.text ∷ (body_texts run ++ l)) (block-texts r)
      ∙ ap (λ l. n.text ∷ l) (sym (body-append run xs))
      ∙ ap (λ v. and_text (said_at v) (body_texts (run ++ xs))) (sym w)
  block-texts (choice {x = x} {n = n} {e = e} {xs = xs} {rest = rest} {ys = ys} {b = b} {c = c} {cs = cs} {last = last} w first more r) =
      ap (λ l. l ++ said_in c) (append_assoc (said_in b) (said_in_clauses cs) (said_in_last last) ∙ ap (λ l. said_in b ++ l) (tail-texts more))
      ∙ append_assoc (said_in b) (body_texts rest) (said_in c)
      ∙ ap (λ l. l ++ (body_texts rest ++ said_in c)) (block-texts first)
      ∙ ap (λ l. body_texts xs ++ (body_texts rest ++ l)) (block-texts r)
      ∙ ap (λ l. body_texts xs ++ l) (sym (body-append rest ys))
      ∙ sym (body-append xs (rest ++ ys))
      ∙ ap (λ v. and_text (said_at v) (body_texts (xs ++ (rest ++ ys)))) (sym w)

  tail-texts : {xs behind : List Entry} {cs : Clauses} {last : Last} {e : Head} → Tail xs behind cs last e →
      said_in_clauses cs ++ said_in_last last ≡ body_texts xs
  tail-texts (ends {x = x} {e = e} w) = ap (λ v. and_text (said_at v) []) (sym w)
  tail-texts (otherwise {x = x} {y = y} {n = n} {e = e} {xs = xs} {b = b} w first v) =
      block-texts first
      ∙ sym (append-nil (body_texts xs))
      ∙ ap (λ u. body_texts xs ++ and_text (said_at u) []) (sym v)
      ∙ sym (body-append xs (y ∷ []))
      ∙ ap (λ u. and_text (said_at u) (body_texts (xs ++ y ∷ []))) (sym w)
  tail-texts (next {x = x} {n = n} {xs = xs} {rest = rest} {b = b} {cs = cs} {last = last} w first more) =
      append_assoc (said_in b) (said_in_clauses cs) (said_in_last last)
      ∙ ap (λ l. said_in b ++ l) (tail-texts more)
      ∙ ap (λ l. l ++ body_texts rest) (block-texts first)
      ∙ sym (body-append xs rest)
      ∙ ap (λ v. and_text (said_at v) (body_texts (xs ++ rest))) (sym w)

-- ---- the lines and options of items are those of their nodes

entry-spoken : (line : ℕ) (id : List ℕ) (own : Item) (w : What) (texts : List LineText) → what_at line id own ≡ Some w →
    map spoken_of (and_text (said_at w) texts) ≡ spoken_by line own ++ map spoken_of texts
entry-spoken line id (item.Line said) w texts is =
    let same : Statement (simple.Line (text_at line id said)) ≡ w = cc in ap (λ (v : What). map spoken_of (and_text (said_at v) texts)) (sym same)
entry-spoken line id (item.Offer said asked) w texts is =
    let same : Offer (text_at line id said) asked ≡ w = cc in ap (λ (v : What). map spoken_of (and_text (said_at v) texts)) (sym same)
entry-spoken line id (item.Command own tags) w texts is = ap (λ (o : Option LineText). map spoken_of (and_text o texts)) (command-says line tags own w is)
entry-spoken line id (item.Game said) w texts is =
    let same : Statement (simple.Command (text_at line [] said)) ≡ w = cc in ap (λ (v : What). map spoken_of (and_text (said_at v) texts)) (sym same)
entry-spoken line id (item.FileTag tag) w texts is = absurd cc
entry-spoken line id (item.Header header) w texts is = absurd cc
entry-spoken line id item.BodyBegins w texts is = absurd cc
entry-spoken line id item.NodeEnds w texts is = absurd cc

body-spoken : (xs : List ItemAt) (entries : List Entry) → AreEntries xs entries → map spoken_of (body_texts entries) ≡ spoken_items xs
body-spoken [] [] are = refl
body-spoken [] (e ∷ entries) are = absurd are
body-spoken (x ∷ xs) [] are = absurd are
body-spoken (x ∷ xs) (e ∷ entries) are =
    entry-spoken x.line (id_in (said_at e.what)) x.item e.what (body_texts entries) are.0.is
    ∙ ap (λ (l : List Spoken). spoken_by x.line x.item ++ l) (body-spoken xs entries are.1)

spoken-append : (xs ys : List ItemAt) → spoken_items (xs ++ ys) ≡ spoken_items xs ++ spoken_items ys
spoken-append [] ys = refl
spoken-append (x ∷ xs) ys =
    ap (λ (l : List Spoken). spoken_by x.line x.item ++ l) (spoken-append xs ys) ∙ sym (append_assoc (spoken_by x.line x.item) (spoken_items xs) (spoken_items ys))

headers-spoken : {xs : List ItemAt} {hs : List Header} → AreHeaders xs hs → spoken_items xs ≡ []
headers-spoken no_header = refl
headers-spoken (next_header {x} {xs} {h} is later) = ap (λ (i : Item). spoken_by x.line i ++ spoken_items xs) is ∙ headers-spoken later

tags-spoken : {xs : List ItemAt} {ts : List (List ℕ)} → AreTags xs ts → spoken_items xs ≡ []
tags-spoken no_tag = refl
tags-spoken (next_tag {x} {xs} {t} is later) = ap (λ (i : Item). spoken_by x.line i ++ spoken_items xs) is ∙ tags-spoken later

node-spoken : (items : List ItemAt) (node : NodeLines) → IsNode HasNoIds items node → spoken_items items ≡ map spoken_of (body_texts node.body)
node-spoken items node is =
    ap spoken_items is.cut
    ∙ spoken-append is.headers (is.begins ∷ (is.inner ++ is.ends ∷ []))
    ∙ ap (λ (l : List Spoken). l ++ spoken_items (is.begins ∷ (is.inner ++ is.ends ∷ []))) (headers-spoken is.headed)
    ∙ ap (λ (i : Item). spoken_by is.begins.line i ++ spoken_items (is.inner ++ is.ends ∷ [])) is.begun.0
    ∙ spoken-append is.inner (is.ends ∷ [])
    ∙ ap (λ (i : Item). spoken_items is.inner ++ (spoken_by is.ends.line i ++ [])) is.ended.0
    ∙ append-nil (spoken_items is.inner)
    ∙ sym (body-spoken is.inner node.body is.body)

-- each body is a block
abbrev pub HaveBlocks : List NodeLines → Type 0
HaveBlocks [] = Unit {0}
HaveBlocks (node ∷ nodes) = IsBlockBody node × HaveBlocks nodes

-- the tree of a body
pub grown-block : (node : NodeLines) (b : Stmts) → Block node.body [] b → (grown_node node).body ≡ b
grown-block node b block = ap stmts_or_none (block-read block)

pub nodes-spoken : {items : List ItemAt} {nodes : List NodeLines} → AreNodes HasNoIds items nodes → HaveBlocks nodes → spoken_in_nodes (map grown_node nodes) ≡ spoken_items items
nodes-spoken no_node blocks = refl
nodes-spoken (first_node {items} {rest} {node} {nodes} is later) blocks =
    map-append spoken_of (said_in (grown_node node).body) (said_in_nodes (map grown_node nodes))
    ∙ ap₂ (λ (a b : List Spoken). a ++ b)
    (ap (λ (s : Stmts). map spoken_of (said_in s)) (grown-block node blocks.0.0 blocks.0.1)
    ∙ ap (map spoken_of) (block-texts blocks.0.1)
    ∙ sym (node-spoken items node is))
    (nodes-spoken later blocks.1)
    ∙ sym (spoken-append items rest)

pub file-spoken : (items : List ItemAt) (file : FileLines) → IsFile HasNoIds items file → HaveBlocks file.nodes → spoken_in_nodes (map grown_node file.nodes) ≡ spoken_items items
file-spoken items file is blocks =
    nodes-spoken is.are_nodes blocks
    ∙ ap (λ (l : List Spoken). l ++ spoken_items is.rest) (sym (tags-spoken is.tagged))
    ∙ sym (spoken-append is.front is.rest)
    ∙ ap spoken_items (sym is.cut)

-- ---- items with ids

abbrev on_some : (What → What) → Option What → Option What
on_some f (Some w) = Some (f w)
on_some f None = None

module _ (extra : ℕ → List (List ℕ)) where
  command-with : (line : ℕ) (tags : List (List ℕ)) (own : Command) → command_at line tags own ≡ on_some (again_what extra) (command_at line tags own)
  command-with line tags (command.If e) = refl
  command-with line tags (command.ElseIf e) = refl
  command-with line tags command.Else = refl
  command-with line tags command.EndIf = refl
  command-with line tags (command.Set name op e) = refl
  command-with line tags (command.Declare name value kind) = refl
  command-with line tags (command.Jump title) = refl
  command-with line tags (command.JumpTo e) = refl
  command-with line tags command.Stop = refl
  command-with line tags (command.Call e) = refl
  command-with line tags command.Game = refl

  what-with : (line : ℕ) (id : List ℕ) (own : Item) → what_at line id (item_with (extra line) own) ≡ on_some (again_what extra) (what_at line id own)
  what-with line id (item.Line said) = refl
  what-with line id (item.Offer said asked) = refl
  what-with line id (item.Command own tags) = command-with line tags own
  what-with line id (item.Game said) = refl
  what-with line id (item.FileTag tag) = refl
  what-with line id (item.Header header) = refl
  what-with line id item.BodyBegins = refl
  what-with line id item.NodeEnds = refl

  simple-id : (s : Simple) → id_in (said_at (Statement (again_simple extra s))) ≡ id_in (said_at (Statement s))
  simple-id (simple.Line text) = refl
  simple-id (simple.Set head name op e) = refl
  simple-id (simple.Declare head name value kind) = refl
  simple-id (simple.Jump head title) = refl
  simple-id (simple.JumpTo head e) = refl
  simple-id (simple.Stop head) = refl
  simple-id (simple.Call head e) = refl
  simple-id (simple.Command text) = refl

  what-id : (w : What) → id_in (said_at (again_what extra w)) ≡ id_in (said_at w)
  what-id (Statement s) = simple-id s
  what-id (Offer text asked) = refl
  what-id (If head e) = refl
  what-id (ElseIf head e) = refl
  what-id (Else head) = refl
  what-id (EndIf head) = refl

  entry-again : (x : ItemAt) (e : Entry) → IsEntry x e → IsEntry (item_again extra x) (again_entry extra e)
  entry-again x e is = record {
    line = is.line;
    indent = is.indent;
    is =
        ap (λ (id : List ℕ). what_at x.line id (item_with (extra x.line) x.item)) (what-id e.what)
        ∙ what-with x.line (id_in (said_at e.what)) x.item
        ∙ ap (on_some (again_what extra)) is.is;
  }

  entries-again : (xs : List ItemAt) (entries : List Entry) → AreEntries xs entries → AreEntries (map (item_again extra) xs) (again_body extra entries)
  entries-again [] [] are = tt
  entries-again [] (e ∷ entries) are = absurd are
  entries-again (x ∷ xs) [] are = absurd are
  entries-again (x ∷ xs) (e ∷ entries) are = (entry-again x e are.0, entries-again xs entries are.1)

  -- no ids

  abbrev NoIds : List Entry → Type 0
  NoIds [] = Unit {0}
  NoIds (e ∷ entries) = (id_in (said_at e.what) ≡ []) × NoIds entries

  to-no_ids : (title : List ℕ) (entries : List Entry) → HasNoIds title entries → NoIds entries
  to-no_ids title [] has = tt
  to-no_ids title (e ∷ entries) has = (
    of (said_at e.what) refl,
    to-no_ids title entries (λ before behind entry text cut is. has (e ∷ before) behind entry text (ap (λ (l : List Entry). e ∷ l) cut) is),
  )
    where
      of : (o : Option LineText) → said_at e.what ≡ o → id_in (said_at e.what) ≡ []
      of (Some text) is = ap id_in is ∙ has [] entries e text refl is
      of None is = ap id_in is

  from-no_ids : (title : List ℕ) (entries : List Entry) → NoIds entries → HasNoIds title entries
  from-no_ids title entries none before behind entry text cut is = of before (subst NoIds cut none)
    where
      of : (front : List Entry) → NoIds (front ++ entry ∷ behind) → text.id ≡ []
      of [] h = sym (ap id_in is) ∙ h.0
      of (e ∷ front) h = of front h.1

  again-no_ids : (entries : List Entry) → NoIds entries → NoIds (again_body extra entries)
  again-no_ids [] none = tt
  again-no_ids (e ∷ entries) none = (what-id e.what ∙ none.0, again-no_ids entries none.1)

  abbrev pub node_again : NodeLines → NodeLines
  node_again node = record { title = node.title; headers = node.headers; line = node.line; end_line = node.end_line; body = again_body extra node.body }

  abbrev pub file_again : List ℕ → FileLines → FileLines
  file_again name file = record { name = name; tags = file.tags; nodes = map node_again file.nodes }

  headers-again : {xs : List ItemAt} {hs : List Header} → AreHeaders xs hs → AreHeaders (map (item_again extra) xs) hs
  headers-again no_header = no_header
  headers-again (next_header {x} is later) = next_header (ap (item_with (extra x.line)) is) (headers-again later)

  tags-again : {xs : List ItemAt} {ts : List (List ℕ)} → AreTags xs ts → AreTags (map (item_again extra) xs) ts
  tags-again no_tag = no_tag
  tags-again (next_tag {x} is later) = next_tag (ap (item_with (extra x.line)) is) (tags-again later)

  node-again : (items : List ItemAt) (node : NodeLines) → IsNode HasNoIds items node → IsNode HasNoIds (map (item_again extra) items) (node_again node)
  node-again items node is = record {
    headers = map (item_again extra) is.headers;
    begins = item_again extra is.begins;
    inner = map (item_again extra) is.inner;
    ends = item_again extra is.ends;
    cut =
        ap (map (item_again extra)) is.cut
        ∙ map-append (item_again extra) is.headers (is.begins ∷ (is.inner ++ is.ends ∷ []))
        ∙ ap (λ (l : List ItemAt). map (item_again extra) is.headers ++ (item_again extra is.begins ∷ l)) (map-append (item_again extra) is.inner (is.ends ∷ []));
    headed = headers-again is.headed;
    title = is.title;
    begun = (ap (item_with (extra is.begins.line)) is.begun.0, is.begun.1);
    body = entries-again is.inner node.body is.body;
    ids = from-no_ids node.title (again_body extra node.body) (again-no_ids node.body (to-no_ids node.title node.body is.ids));
    ended = (ap (item_with (extra is.ends.line)) is.ended.0, is.ended.1);
  }

  nodes-again : {items : List ItemAt} {nodes : List NodeLines} → AreNodes HasNoIds items nodes → AreNodes HasNoIds (map (item_again extra) items) (map node_again nodes)
  nodes-again no_node = no_node
  nodes-again (first_node {items} {rest} {node} {nodes} is later) =
      subst (λ (l : List ItemAt). AreNodes HasNoIds l (node_again node ∷ map node_again nodes)) (sym (map-append (item_again extra) items rest))
      (first_node (node-again items node is) (nodes-again later))

  pub file-again : (name : List ℕ) (items : List ItemAt) (file : FileLines) → IsFile HasNoIds items file → IsFile HasNoIds (map (item_again extra) items) (file_again name file)
  file-again name items file is = record {
    front = map (item_again extra) is.front;
    rest = map (item_again extra) is.rest;
    cut = ap (map (item_again extra)) is.cut ∙ map-append (item_again extra) is.front is.rest;
    tagged = tags-again is.tagged;
    are_nodes = nodes-again is.are_nodes;
  }

  pub blocks-again : (nodes : List NodeLines) → HaveBlocks nodes → HaveBlocks (map node_again nodes)
  blocks-again [] blocks = tt
  blocks-again (node ∷ nodes) blocks = ((again_stmts extra blocks.0.0, block-again extra blocks.0.1), blocks-again nodes blocks.1)

  -- the trees are the same but for ids
  pub same-nodes : (nodes : List NodeLines) → HaveBlocks nodes → Each extra (said_in_nodes (map grown_node nodes)) →
      SameNodes (map grown_node nodes) (map grown_node (map node_again nodes))
  same-nodes [] blocks each = tt
  same-nodes (node ∷ nodes) blocks each =
      let p = each-parts extra (said_in (grown_node node).body) (said_in_nodes (map grown_node nodes)) each in
      let b = blocks.0.0 in
      let before : (grown_node node).body ≡ b = grown-block node b blocks.0.1 in
      let after : (grown_node (node_again node)).body ≡ again_stmts extra b = grown-block (node_again node) (again_stmts extra b) (block-again extra blocks.0.1) in
      let same = same-stmts extra b (subst (λ (s : Stmts). Each extra (said_in s)) before p.0) in (
        record { title = refl; headers = refl; line = refl; end_line = refl; body = rw (before, after) same },
        same-nodes nodes blocks.1 p.1,
      )

-- ---- each line has an id

has-own : (tags : List (List ℕ)) (id : List ℕ) → is_id id ≡ true → is_none (own_id (tags ++ id ∷ [])) ≡ false
has-own [] id is = rw is refl
has-own (t ∷ tags) id is = of (is_id t) (has-own tags id is)
  where
    of : (b : Bool) → is_none (own_id (tags ++ id ∷ [])) ≡ false → is_none (cond b (Some t) (own_id (tags ++ id ∷ []))) ≡ false
    of true later = refl
    of false later = later

-- what is told of lines and options as to ids
abbrev pub Told : (ℕ → Bool) → List Spoken → Type 0
Told lacking [] = Unit {0}
Told lacking (s ∷ said) = (lacking s.line ≡ is_none s.id) × Told lacking said

told-item : (lacking : ℕ → Bool) (line : ℕ) (own : Item) (more : List Spoken) → lacking line ≡ wants own → Told lacking more → Told lacking (spoken_by line own ++ more)
told-item lacking line (item.Line said) more mark told = (mark, told)
told-item lacking line (item.Offer said asked) more mark told = (mark, told)
told-item lacking line (item.Command own tags) more mark told = told
told-item lacking line (item.Game said) more mark told = told
told-item lacking line (item.FileTag tag) more mark told = told
told-item lacking line (item.Header header) more mark told = told
told-item lacking line item.BodyBegins more mark told = told
told-item lacking line item.NodeEnds more mark told = told

pub told-items : (lacking : ℕ → Bool) (items : List ItemAt) → Marked lacking items → Told lacking (spoken_items items)
told-items lacking [] m = tt
told-items lacking (x ∷ items) m = told-item lacking x.line x.item (spoken_items items) m.0 (told-items lacking items m.1)

module _ (lacking : ℕ → Bool) (numbers : ℕ → ℕ) where
  have-id : (line : ℕ) (tags : List (List ℕ)) → lacking line ≡ is_none (own_id tags) → HaveId tags (tags ++ put_on lacking numbers line)
  have-id line tags told = of (has_no_id tags) refl
    where
      same : lacking line ≡ has_no_id tags
      same = told ∙ none-own tags

      of : (t : Bool) → has_no_id tags ≡ t → HaveId tags (tags ++ put_on lacking numbers line)
      of true t =
          subst (λ (b : Bool). HaveId tags (tags ++ cond b (id_of (numbers line) ∷ []) [])) (sym (same ∙ t)) (put (numbers line) t)
      of false t =
          subst (λ (b : Bool). HaveId tags (tags ++ cond b (id_of (numbers line) ∷ []) [])) (sym (same ∙ t))
          (subst (λ (ts : List (List ℕ)). HaveId tags ts) (sym (append-nil tags)) (kept t))

  pub each-told : (texts : List LineText) → Told lacking (map spoken_of texts) → Each (put_on lacking numbers) texts
  each-told [] told = tt
  each-told (text ∷ texts) told = (have-id text.line text.tags told.0, each-told texts told.1)

  own-put : (line : ℕ) (tags : List (List ℕ)) → lacking line ≡ is_none (own_id tags) → is_none (own_id (tags ++ put_on lacking numbers line)) ≡ false
  own-put line tags told = of (lacking line) refl
    where
      of : (t : Bool) → lacking line ≡ t → is_none (own_id (tags ++ put_on lacking numbers line)) ≡ false
      of true t = ap (λ (b : Bool). is_none (own_id (tags ++ cond b (id_of (numbers line) ∷ []) []))) t ∙ has-own tags (id_of (numbers line)) refl
      of false t =
          ap (λ (b : Bool). is_none (own_id (tags ++ cond b (id_of (numbers line) ∷ []) []))) t
          ∙ ap (λ (ts : List (List ℕ)). is_none (own_id ts)) (append-nil tags)
          ∙ sym told
          ∙ t

  and-false : (a b : Bool) → b ≡ false → (a && b || false) ≡ false
  and-false true b is = ap (λ (t : Bool). t || false) is
  and-false false b is = refl

  item-lacks : (line k : ℕ) (own : Item) → lacking line ≡ wants own → lacks (spoken_by line (item_with (put_on lacking numbers line) own)) k ≡ false
  item-lacks line k (item.Line said) mark = and-false (nat_eq line k) _ (own-put line said.tags mark)
  item-lacks line k (item.Offer said asked) mark = and-false (nat_eq line k) _ (own-put line said.tags mark)
  item-lacks line k (item.Command own tags) mark = refl
  item-lacks line k (item.Game said) mark = refl
  item-lacks line k (item.FileTag tag) mark = refl
  item-lacks line k (item.Header header) mark = refl
  item-lacks line k item.BodyBegins mark = refl
  item-lacks line k item.NodeEnds mark = refl

  -- no line lacks an id any more
  pub none-lacks : (items : List ItemAt) → Marked lacking items → (k : ℕ) → lacks (spoken_items (map (item_again (put_on lacking numbers)) items)) k ≡ false
  none-lacks [] m k = refl
  none-lacks (x ∷ items) m k =
      list_any-append (λ s. nat_eq s.line k && is_none s.id) (spoken_by x.line (item_with (put_on lacking numbers x.line) x.item)) (spoken_items (map (item_again (put_on lacking numbers)) items))
      ∙ ap₂ (λ (a b : Bool). a || b) (item-lacks x.line k x.item m.0) (none-lacks items m.1 k)

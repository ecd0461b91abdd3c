-- The names of titles, without their places.
use Rattle.std.proofs.Common.{◌≡◌, ℕ, ◌+◌, List, [], ◌∷◌, ◌++◌, Bool, All, refl, sym, ap, ◌∙◌}
use Rattle.std.proofs.lemmas.List.Elements.{All-nil, All-cons, All-head, All-tail, All-append}
use Rattle.yarn_base.specs.declared.SourceFile.{SourceFile}
use Rattle.yarn_items.specs.declared.item.Mode.TheVariants.{InHeaders}
use Rattle.yarn_items.specs.declared.item.Item.{Item}
use Rattle.yarn_items.specs.declared.item.Item.TheVariants as item
use Rattle.yarn_lines.specs.Lines.{lines_of}
use Rattle.yarn_nodes.specs.declared.node.FileLines.{FileLines}
use Rattle.yarn_nodes.specs.declared.node.NodeLines.{NodeLines}
use Rattle.yarn_nodes.specs.declared.node.Titled.{Titled}
use Rattle.yarn_nodes.specs.Entries.{ItemAt}
use Rattle.yarn_nodes.specs.Finds.{items_from}
use Rattle.yarn_nodes.specs.Laws.{lines_read}
use Rattle.yarn_nodes.specs.Nodes.{no_draft, titled_of, draft_behind, and_node, and_titled, nodes_from, titles_from}
use Rattle.yarn_nodes.specs.Reader.{file_of}
use Rattle.yarn_tree.specs.Checks.{titles_in, titles_of}
use Rattle.yarn_tree.specs.Laws.{nodes_of, titles, names_in}
use Rattle.yarn_tree.specs.Names.{NameAt}
use Rattle.yarn_tree.proofs.SourceLemmas.{reads_from, files_from}

pub names-append : (a b : List NameAt) → names_in (a ++ b) ≡ names_in a ++ names_in b
names-append [] b = refl
names-append (x ∷ a) b = ap (λ (l : List (List ℕ)). x.0 ∷ l) (names-append a b)

abbrev texts : List Titled → List (List ℕ)
texts [] = []
texts (t ∷ ts) = t.title ∷ texts ts

item-texts : (draft : _) (line : ℕ) (i : Item) (ts : List Titled) (nodes : List NodeLines) → texts ts ≡ titles nodes →
    texts (and_titled draft i ts) ≡ titles (and_node draft line i nodes)
item-texts draft line (item.FileTag tag) ts nodes is = is
item-texts draft line (item.Header header) ts nodes is = is
item-texts draft line item.BodyBegins ts nodes is = is
item-texts draft line item.NodeEnds ts nodes is = ap (λ (l : List (List ℕ)). (titled_of draft.title).title ∷ l) is
item-texts draft line (item.Line said) ts nodes is = is
item-texts draft line (item.Offer said asked) ts nodes is = is
item-texts draft line (item.Command own tags) ts nodes is = is
item-texts draft line (item.Game said) ts nodes is = is

titles-texts : (ids : Bool) (draft : _) (items : List ItemAt) → texts (titles_from ids draft items) ≡ titles (nodes_from ids draft items)
titles-texts ids draft [] = refl
titles-texts ids draft (x ∷ xs) =
    let after = draft_behind ids draft x in
    item-texts draft x.line x.item (titles_from ids after xs) (nodes_from ids after xs) (titles-texts ids after xs)

titles-names : (file : ℕ) (ts : List Titled) → names_in (titles_in file ts) ≡ texts ts
titles-names file [] = refl
titles-names file (t ∷ ts) = ap (λ (l : List (List ℕ)). t.title ∷ l) (titles-names file ts)

titles-append : (a b : List NodeLines) → titles (a ++ b) ≡ titles a ++ titles b
titles-append [] b = refl
titles-append (n ∷ a) b = ap (λ (l : List (List ℕ)). n.title ∷ l) (titles-append a b)

texts-read : (ids : Bool) (n : ℕ) (source : SourceFile) → texts (lines_read ids n source).titles ≡ titles (lines_read ids n source).file.nodes
unfolding file_of
texts-read ids n source = titles-texts ids no_draft (items_from InHeaders (lines_of source.bytes).lines)

pub titles-all : (ids : Bool) (n : ℕ) (sources : List SourceFile) → names_in (titles_of (reads_from ids n sources)) ≡ titles (nodes_of (files_from ids n sources))
titles-all ids n [] = refl
titles-all ids n (source ∷ sources) =
    let read = lines_read ids n source in
    names-append (titles_in read.number read.titles) (titles_of (reads_from ids (n + 1) sources))
    ∙ ap (λ (l : List (List ℕ)). l ++ names_in (titles_of (reads_from ids (n + 1) sources)))
    (titles-names read.number read.titles ∙ texts-read ids n source)
    ∙ ap (λ (l : List (List ℕ)). titles read.file.nodes ++ l) (titles-all ids (n + 1) sources)
    ∙ sym (titles-append read.file.nodes (nodes_of (files_from ids (n + 1) sources)))

-- what holds of all nodes

all-left : (P : NodeLines → Type 0) (a b : List NodeLines) → All P (a ++ b) → All P a
all-left P [] b all = All-nil P
all-left P (x ∷ a) b all = All-cons P x a (All-head P x (a ++ b) all) (all-left P a b (All-tail P x (a ++ b) all))

all-right : (P : NodeLines → Type 0) (a b : List NodeLines) → All P (a ++ b) → All P b
all-right P [] b all = all
all-right P (x ∷ a) b all = all-right P a b (All-tail P x (a ++ b) all)

pub nodes-all : (P : NodeLines → Type 0) (files : List FileLines) → All (λ file. All P file.nodes) files → All P (nodes_of files)
nodes-all P [] all = All-nil P
nodes-all P (file ∷ files) all =
    All-append P file.nodes (nodes_of files) (All-head (λ (file : FileLines). All P file.nodes) file files all)
    (nodes-all P files (All-tail (λ (file : FileLines). All P file.nodes) file files all))

pub all-nodes : (P : NodeLines → Type 0) (files : List FileLines) → All P (nodes_of files) → All (λ file. All P file.nodes) files
all-nodes P [] all = All-nil (λ (file : FileLines). All P file.nodes)
all-nodes P (file ∷ files) all =
    All-cons (λ (file : FileLines). All P file.nodes) file files (all-left P file.nodes (nodes_of files) all)
    (all-nodes P files (all-right P file.nodes (nodes_of files) all))

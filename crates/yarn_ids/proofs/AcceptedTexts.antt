-- The texts of an accepted project are templates.
use Rattle.std.proofs.Common.{◌≡◌, ℕ, suc, ◌≤◌, List, [], ◌∷◌, ◌++◌, length, map, Option, Some, None, refl, sym, ap, ◌∙◌, subst, arith, Bool, true, false, All}
use Rattle.std.specs.Prelude.{nat_lt}
use Rattle.std.specs.List.{AllByRecursion}
use Rattle.std.proofs.lemmas.Bool.Decides.{nat_tests}
use Rattle.std.proofs.lemmas.List.Elements.{All-append, All-nil, All-cons, recursion_from_All}
use Rattle.yarn_base.specs.declared.SourceFile.{SourceFile}
use Rattle.yarn_value.specs.declared.signature.Signature.{Signature}
use Rattle.yarn_lines.specs.declared.line.RawLine.{RawLine}
use Rattle.yarn_lines.specs.Lines.{lines_of}
use Rattle.yarn_items.specs.declared.item.Mode.{Mode}
use Rattle.yarn_items.specs.declared.item.Mode.TheVariants.{InHeaders}
use Rattle.yarn_items.specs.Laws.{ItemsAreFound}
use Rattle.yarn_blocks.specs.Reading.{read}
use Rattle.yarn_blocks.specs.Tree.{Stmts}
use Rattle.yarn_blocks.proofs.Viable.{read-block}
use Rattle.yarn_nodes.specs.declared.node.FileLines.{FileLines}
use Rattle.yarn_nodes.specs.declared.node.NodeLines.{NodeLines}
use Rattle.yarn_nodes.specs.Entries.{ItemAt}
use Rattle.yarn_nodes.specs.Finds.{next_mode, mode_behind, holes_in}
use Rattle.yarn_nodes.specs.Ids.{HasIds}
use Rattle.yarn_nodes.specs.Laws.{mode_past, NoLine, HasManyHoles}
use Rattle.yarn_nodes.specs.Lines.{HasItem, IsItems, IsNode, AreNodes, no_node, first_node, HasLines}
use Rattle.yarn_nodes.proofs.LinesLemmas.{item-found}
use Rattle.yarn_nodes.proofs.NotedLemmas.{mode-past}
use Rattle.yarn_tree.specs.Laws.{HasFineLines, ReadExactly}
use Rattle.yarn_tree.specs.Project.{AllHaveLines}
use Rattle.yarn_tree.specs.Trees.{stmts_or_none, grown_node, grown}
use Rattle.yarn_meaning.specs.First.{Placed, nodes_at, nodes_from}
use Rattle.yarn_tree.specs.Reading.{Reads, reading_of}
use Rattle.yarn_ids.proofs.Texts.{AreTexts, EntryText, all_front, all_back, block_texts}
use Rattle.yarn_ids.proofs.TextItems.{IsShort, readable_short, ItemText, item_text, entries_text}

abbrev HasText : ItemAt → Type 0
HasText x = ItemText x.item

-- the entries of a node
abbrev NodeText : NodeLines → Type 0
NodeText n = AllByRecursion EntryText n.body

abbrev FileText : FileLines → Type 0
FileText f = AllByRecursion NodeText f.nodes

module _ (items_found : ItemsAreFound) where
  few_holes : (mode : Mode) (text : List ℕ) (x : ItemAt) → HasItem mode text x.item → (HasManyHoles mode text → ⊥) → length (holes_in x.item) ≤ 16
  few_holes mode text x has none = by_test (nat_lt 16 (length (holes_in x.item))) refl
    where
      by_test : (t : Bool) → nat_lt 16 (length (holes_in x.item)) ≡ t → length (holes_in x.item) ≤ 16
      by_test true is = absurd (none (has.0, x.item, (has.1, is)))
      by_test false is = grind (arith, nat_tests)

  items_text : (mode : Mode) (lines : List RawLine) (items : List ItemAt) → IsItems mode lines items → NoLine HasManyHoles mode lines →
      AllByRecursion IsShort lines → AllByRecursion HasText items
  items_text mode [] [] is none short = tt
  items_text mode [] (x ∷ items) is none short = absurd is
  items_text mode (line ∷ lines) [] is none short = absurd is
  items_text mode (line ∷ lines) (x ∷ items) is none short =
      let same : mode_past mode line.text ≡ next_mode mode x.item =
      sym (mode-past items_found mode line.text) ∙ ap (mode_behind mode) (item-found items_found mode line.text x.item is.2) in (
        item_text mode line.text is.2.0 x.item is.2.1.1 short.0 (few_holes mode line.text x is.2 none.0),
        items_text (next_mode mode x.item) lines items is.3 (subst (λ m. NoLine HasManyHoles m lines) same none.1) short.1,
      )

  node_text : (items : List ItemAt) (node : NodeLines) → IsNode HasIds items node → AllByRecursion HasText items → NodeText node
  node_text items node is h =
      let behind = all_back HasText is.headers (is.begins ∷ (is.inner ++ is.ends ∷ [])) (subst (AllByRecursion HasText) is.cut h) in
      entries_text is.inner node.body is.body (all_front HasText is.inner (is.ends ∷ []) behind.1)

  nodes_text : {items : List ItemAt} {nodes : List NodeLines} → AreNodes HasIds items nodes → AllByRecursion HasText items →
      AllByRecursion NodeText nodes
  nodes_text no_node h = tt
  nodes_text (first_node {items = items} {rest = rest} {node = node} {nodes = nodes} is more) h =
      (node_text items node is (all_front HasText items rest h), nodes_text more (all_back HasText items rest h))

  file_text : (source : SourceFile) (file : FileLines) → HasLines HasIds source file → HasFineLines source → FileText file
  file_text source file has fine =
      let all = items_text InHeaders (lines_of source.bytes).lines has.items has.has_items fine.holes (readable_short source.bytes has.readable) in
      nodes_text has.is_file.are_nodes (all_back HasText has.is_file.front has.is_file.rest (subst (AllByRecursion HasText) has.is_file.cut all))

  files_text : (sources : List SourceFile) (files : List FileLines) → AllHaveLines sources files → AllByRecursion HasFineLines sources →
      AllByRecursion FileText files
  files_text [] [] have fine = tt
  files_text [] (file ∷ files) have fine = absurd have
  files_text (source ∷ sources) [] have fine = absurd have
  files_text (source ∷ sources) (file ∷ files) have fine = (file_text source file have.0 fine.0, files_text sources files have.1 fine.1)

-- ---- trees

-- the body of a node is of templates
abbrev pub PlacedTexts : Placed → Type 0
PlacedTexts n = AreTexts n.node.body

body_texts : (n : NodeLines) (o : Option Stmts) → read n.body ≡ o → NodeText n → AreTexts (stmts_or_none o)
body_texts n None is h = tt
body_texts n (Some b) is h = block_texts (read-block n.body b is) h

bodies_texts : (file : ℕ) (nodes : List NodeLines) → AllByRecursion NodeText nodes → All PlacedTexts (nodes_at file (map grown_node nodes))
bodies_texts file [] h = All-nil PlacedTexts
bodies_texts file (n ∷ nodes) h =
    All-cons PlacedTexts (record { node = grown_node n; file = file }) (nodes_at file (map grown_node nodes))
    (body_texts n (read n.body) refl h.0) (bodies_texts file nodes h.1)

trees_texts : (file : ℕ) (files : List FileLines) → AllByRecursion FileText files → All PlacedTexts (nodes_from file (map grown files))
trees_texts file [] h = All-nil PlacedTexts
trees_texts file (f ∷ files) h =
    All-append PlacedTexts (nodes_at file (map grown_node f.nodes)) (nodes_from (suc file) (map grown files))
    (bodies_texts file f.nodes h.0) (trees_texts (suc file) files h.1)

-- the texts of the nodes of an accepted project are templates
pub texts_of_accepted : ItemsAreFound → ReadExactly →
    (signatures : List Signature) (sources : List SourceFile) (lines : List FileLines) → reading_of signatures sources ≡ Reads lines →
    All PlacedTexts (nodes_from 0 (map grown lines))
texts_of_accepted items_found exactly signatures sources lines reads =
    let is = (exactly signatures sources lines).0 reads in
    trees_texts 0 lines (files_text items_found sources lines is.have (recursion_from_All HasFineLines sources is.fine))

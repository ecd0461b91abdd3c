-- The code of an accepted project is valid.
use Rattle.std.proofs.Common.{◌≡◌, ℕ, ◌≤◌, List, [], ◌∷◌, ◌++◌, length, map, nat_lt, Option, Some, None, refl, sym, ap, ◌∙◌, subst, arith, Bool, true, false}
use Rattle.std.proofs.lemmas.Bool.Decides.{nat_tests}
use Rattle.yarn_base.specs.declared.SourceFile.{SourceFile}
use Rattle.yarn_lines.specs.declared.line.RawLine.{RawLine}
use Rattle.yarn_lines.specs.Lines.{lines_of}
use Rattle.yarn_value.specs.declared.signature.Signature.{Signature}
use Rattle.yarn_items.specs.declared.item.Mode.{Mode}
use Rattle.yarn_items.specs.declared.item.Mode.TheVariants.{InHeaders}
use Rattle.yarn_items.specs.Laws.{ItemsAreFound}
use Rattle.yarn_blocks.specs.Block.{Block}
use Rattle.yarn_blocks.specs.Reading.{read}
use Rattle.yarn_blocks.specs.Tree.{Stmts, deep_in, crowd_in}
use Rattle.yarn_blocks.proofs.Viable.{read-block}
use Rattle.yarn_nodes.specs.declared.node.FileLines.{FileLines}
use Rattle.yarn_nodes.specs.declared.node.NodeLines.{NodeLines}
use Rattle.yarn_nodes.specs.Entries.{ItemAt}
use Rattle.yarn_nodes.specs.Finds.{next_mode, mode_behind, holes_in}
use Rattle.yarn_nodes.specs.Ids.{HasIds}
use Rattle.yarn_nodes.specs.Laws.{mode_past, NoLine, HasManyHoles}
use Rattle.yarn_nodes.specs.Lines.{HasItem, IsItems, IsNode, AreNodes, no_node, first_node, HasLines}
use Rattle.yarn_nodes.proofs.LinesLemmas.{item-found}
use Rattle.yarn_nodes.proofs.NotedLemmas.{mode-past}
use Rattle.yarn_tree.specs.Laws.{HasFineLines, ReadExactly, nodes_of}
use Rattle.yarn_tree.specs.Project.{AllHaveLines}
use Rattle.yarn_tree.specs.Trees.{NodeTree, stmts_or_none, grown_node, grown}
use Rattle.yarn_compile.specs.Code.{Terms, terms_of}
use Rattle.yarn_code.specs.Fields.{IsFunctionField}
use Rattle.yarn_kinds.proofs.Fitting.{FitsAll}
use Rattle.yarn_kinds.proofs.Typed.{accepted_typed}
use Rattle.yarn_compile.specs.Correct.{Valid}
use Rattle.yarn_compile.proofs.Parts.{Each, each_front, each_back, each_weaker}
use Rattle.yarn_compile.proofs.Items.{LightItem, item_light, entries_light}
use Rattle.yarn_compile.proofs.Light.{LightEntry, block_light}
use Rattle.yarn_compile.proofs.KnownLines.{EachNode}
use Rattle.yarn_compile.proofs.NodeShapes.{fits_each, valid_with_room}
use Rattle.yarn_compile.proofs.Room.{HasRoom}
use Rattle.yarn_compile.proofs.Rooms.{room_all}
use Rattle.yarn_compile.proofs.KnownVariables.{each_from_all}

abbrev AreLight : List ItemAt → Type 0
AreLight = Each (λ (x : ItemAt). LightItem x.item)

-- the entries of nodes are light
abbrev LightNodes : List NodeLines → Type 0
LightNodes = Each (λ (n : NodeLines). Each LightEntry n.body)

module _ (items_found : ItemsAreFound) where
  few_holes : (mode : Mode) (text : List ℕ) (x : ItemAt) → HasItem mode text x.item → (HasManyHoles mode text → ⊥) → length (holes_in x.item) ≤ 16
  few_holes mode text x has none = by_test (nat_lt 16 (length (holes_in x.item))) refl
    where
      by_test : (t : Bool) → nat_lt 16 (length (holes_in x.item)) ≡ t → length (holes_in x.item) ≤ 16
      by_test true is = absurd (none (has.0, x.item, (has.1, is)))
      by_test false is = grind (arith, nat_tests)

  items_light : (mode : Mode) (lines : List RawLine) (items : List ItemAt) → IsItems mode lines items → NoLine HasManyHoles mode lines → AreLight items
  items_light mode [] [] is none = tt
  items_light mode [] (x ∷ items) is none = absurd is
  items_light mode (line ∷ lines) [] is none = absurd is
  items_light mode (line ∷ lines) (x ∷ items) is none =
      let same : mode_past mode line.text ≡ next_mode mode x.item = sym (mode-past items_found mode line.text) ∙ ap (mode_behind mode) (item-found items_found mode line.text x.item is.2) in (
        item_light mode line.text is.2.0 x.item is.2.1.1 (few_holes mode line.text x is.2 none.0),
        items_light (next_mode mode x.item) lines items is.3 (subst (λ m. NoLine HasManyHoles m lines) same none.1),
      )

  node_light : (items : List ItemAt) (node : NodeLines) → IsNode HasIds items node → AreLight items → Each LightEntry node.body
  node_light items node is h =
      let cut = subst AreLight is.cut h in
      let behind = each_back (λ (x : ItemAt). LightItem x.item) is.headers (is.begins ∷ (is.inner ++ is.ends ∷ [])) cut in
      entries_light is.inner node.body is.body (each_front (λ (x : ItemAt). LightItem x.item) is.inner (is.ends ∷ []) behind.1)

  nodes_light : {items : List ItemAt} {nodes : List NodeLines} → AreNodes HasIds items nodes → AreLight items → LightNodes nodes
  nodes_light no_node h = tt
  nodes_light (first_node {items = items} {rest = rest} {node = node} {nodes = nodes} is more) h =
      (node_light items node is (each_front (λ (x : ItemAt). LightItem x.item) items rest h), nodes_light more (each_back (λ (x : ItemAt). LightItem x.item) items rest h))

  file_light : (source : SourceFile) (file : FileLines) → HasLines HasIds source file → HasFineLines source → LightNodes file.nodes
  file_light source file has fine =
      let light = items_light InHeaders (lines_of source.bytes).lines has.items has.has_items fine.holes in
      let cut = subst AreLight has.is_file.cut light in
      nodes_light has.is_file.are_nodes (each_back (λ (x : ItemAt). LightItem x.item) has.is_file.front has.is_file.rest cut)

  files_light : (sources : List SourceFile) (files : List FileLines) → AllHaveLines sources files → Each HasFineLines sources → Each (λ (f : FileLines). LightNodes f.nodes) files
  files_light [] [] have fine = tt
  files_light [] (file ∷ files) have fine = absurd have
  files_light (source ∷ sources) [] have fine = absurd have
  files_light (source ∷ sources) (file ∷ files) have fine = (file_light source file have.0 fine.0, files_light sources files have.1 fine.1)

-- ---- room

abbrev ShowNothing : (Stmts → Option ℕ) → List NodeLines → Type 0
ShowNothing shows = Each (λ (n : NodeLines). (b : Stmts) → Block n.body [] b → shows b ≡ None)

by_file : (P : NodeLines → Type 0) (files : List FileLines) → Each P (nodes_of files) → Each (λ (f : FileLines). Each P f.nodes) files
by_file P [] h = tt
by_file P (f ∷ fs) h = (each_front P f.nodes (nodes_of fs) h, by_file P fs (each_back P f.nodes (nodes_of fs) h))

module _ (terms : Terms) (few : Each (λ (s : Signature). length s.params ≤ 16) terms.signatures) where
  node_room : (n : NodeLines) (o : Option Stmts) → read n.body ≡ o → Each LightEntry n.body → ((b : Stmts) → Block n.body [] b → deep_in 0 b ≡ None) → ((b : Stmts) → Block n.body [] b → crowd_in b ≡ None) →
      FitsAll terms.signatures terms.entries (stmts_or_none o) → HasRoom 0 (stmts_or_none o)
  node_room n None is light deep crowd fits = tt
  node_room n (Some b) is light deep crowd fits =
      let block = read-block n.body b is in
      room_all terms few b 0 0 (omega arith) (block_light block light) fits (deep b block) (crowd b block)

  nodes_room : (ns : List NodeLines) → LightNodes ns → ShowNothing (deep_in 0) ns → ShowNothing crowd_in ns → Each (λ (n : NodeTree). FitsAll terms.signatures terms.entries n.body) (map grown_node ns) →
      Each (λ (n : NodeTree). HasRoom 0 n.body) (map grown_node ns)
  nodes_room [] light deep crowd fits = tt
  nodes_room (n ∷ ns) light deep crowd fits = (node_room n (read n.body) refl light.0 deep.0 crowd.0 fits.0, nodes_room ns light.1 deep.1 crowd.1 fits.1)

  files_room : (files : List FileLines) → Each (λ (f : FileLines). LightNodes f.nodes) files → Each (λ (f : FileLines). ShowNothing (deep_in 0) f.nodes) files → Each (λ (f : FileLines). ShowNothing crowd_in f.nodes) files →
      EachNode (λ n. FitsAll terms.signatures terms.entries n.body) (map grown files) → EachNode (λ n. HasRoom 0 n.body) (map grown files)
  files_room [] light deep crowd fits = tt
  files_room (f ∷ fs) light deep crowd fits = (nodes_room f.nodes light.0 deep.0 crowd.0 fits.0, files_room fs light.1 deep.1 crowd.1 fits.1)

pub valid : ItemsAreFound → ReadExactly → Valid
valid items_found exactly signatures sources lines entries accepted =
    let is = (exactly signatures sources lines).0 accepted.read in
    let typed = accepted_typed exactly signatures sources lines entries accepted in
    let few = each_weaker IsFunctionField (λ (s : Signature). length s.params ≤ 16) (λ s field. field.few) signatures (each_from_all IsFunctionField signatures accepted.proper.each) in
    let light = files_light items_found sources lines is.have (each_from_all HasFineLines sources is.fine) in
    let deep = by_file (λ (n : NodeLines). (b : Stmts) → Block n.body [] b → deep_in 0 b ≡ None) lines (each_from_all (λ (n : NodeLines). (b : Stmts) → Block n.body [] b → deep_in 0 b ≡ None) (nodes_of lines) is.limits.shallow) in
    let crowd = by_file (λ (n : NodeLines). (b : Stmts) → Block n.body [] b → crowd_in b ≡ None) lines (each_from_all (λ (n : NodeLines). (b : Stmts) → Block n.body [] b → crowd_in b ≡ None) (nodes_of lines) is.limits.small) in
    valid_with_room signatures sources lines entries accepted.read typed
    (files_room (terms_of signatures entries (map grown lines)) few lines light deep crowd (fits_each (terms_of signatures entries (map grown lines)) (map grown lines) typed))

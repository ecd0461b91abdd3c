-- The program knows each line of the project with its substitutions: ids differ.
use Rattle.std.proofs.Common.{◌≡◌, ℕ, suc, List, [], ◌∷◌, ◌++◌, length, map, nat_eq, if◌then◌else◌, Some, inl, inr, refl, sym, ap, ◌∙◌, subst, Bool}
use Rattle.std.specs.Cmp.Lexicographic.{pointwise}
use Rattle.std.proofs.lemmas.Bool.{false_from_ne_true}
use Rattle.std.proofs.lemmas.List.{append_assoc}
use Rattle.std.proofs.lemmas.Slice.Eq.{bytes_eq-Decides}
use Rattle.yarn_base.specs.declared.SourceFile.{SourceFile}
use Rattle.yarn_blocks.specs.declared.tree.LineText.{LineText}
use Rattle.yarn_nodes.specs.declared.node.FileLines.{FileLines}
use Rattle.yarn_tree.specs.Laws.{IsAmong}
use Rattle.yarn_tree.specs.Reading.{Reads, reading_of}
use Rattle.yarn_tree.specs.Trees.{NodeTree, FileTree, grown}
use Rattle.yarn_meaning.specs.First.{Placed, nodes_at, nodes_from}
use Rattle.yarn_meaning.specs.Texts.{said_in, said_in_nodes, said_in_files}
use Rattle.yarn_meaning.proofs.BaseLemmas.{text_ids, AreApart, part-apart, files-part, ids-apart}
use Rattle.yarn_value.specs.declared.base.BaseLine.{BaseLine}
use Rattle.yarn_code.specs.declared.program.Program.{Program}
use Rattle.yarn_compile.specs.Base.{row_of, rows_from, base_rows}
use Rattle.yarn_compile.specs.Code.{Terms, program_of}
use Rattle.yarn_check.specs.Shapes.{holes_under}
use Rattle.yarn_compile.proofs.Parts.{Each, each_front, each_back}
use Rattle.yarn_compile.proofs.SimpleShapes.{HasLine}

abbrev Told : List BaseLine → LineText → Type 0
Told rows text = holes_under rows text.id ≡ Some (length text.holes)

-- the rows have the ids and the numbers of substitutions of the lines
abbrev pub AreRows : List BaseLine → List LineText → Type 0
AreRows [] [] = Unit {0}
AreRows [] (text ∷ texts) = ⊥
AreRows (row ∷ rows) [] = ⊥
AreRows (row ∷ rows) (text ∷ texts) = (row.id ≡ text.id) × (row.holes ≡ length text.holes) × AreRows rows texts

rows_append : (a b : List BaseLine) (x y : List LineText) → AreRows a x → AreRows b y → AreRows (a ++ b) (x ++ y)
rows_append [] b [] y h g = g
rows_append [] b (text ∷ x) y h g = absurd h
rows_append (row ∷ a) b [] y h g = absurd h
rows_append (row ∷ a) b (text ∷ x) y h g = (h.0, h.1, rows_append a b x y h.2 g)

rows_one : (file node : ℕ) (texts : List LineText) → AreRows (map (row_of file node) texts) texts
rows_one file node [] = tt
rows_one file node (text ∷ texts) = (refl, refl, rows_one file node texts)

rows_nodes : (ns : List NodeTree) (file node : ℕ) (behind : List Placed) (texts : List LineText) → ((m : ℕ) → AreRows (rows_from m behind) texts) →
    AreRows (rows_from node (nodes_at file ns ++ behind)) (said_in_nodes ns ++ texts)
rows_nodes [] file node behind texts h = h node
rows_nodes (n ∷ ns) file node behind texts h =
    let here = rows_one file node (said_in n.body) in
    let more = rows_nodes ns file (suc node) behind texts h in
    subst (AreRows (rows_from node (nodes_at file (n ∷ ns) ++ behind))) (sym (append_assoc (said_in n.body) (said_in_nodes ns) texts))
    (rows_append (map (row_of file node) (said_in n.body)) (rows_from (suc node) (nodes_at file ns ++ behind)) (said_in n.body) (said_in_nodes ns ++ texts) here more)

rows_files : (fs : List FileTree) (file node : ℕ) → AreRows (rows_from node (nodes_from file fs)) (said_in_files fs)
rows_files [] file node = tt
rows_files (f ∷ fs) file node = rows_nodes f.nodes file node (nodes_from (suc file) fs) (said_in_files fs) (λ m. rows_files fs (suc file) m)

-- the lines of a program are the rows of the files' lines
pub rows_are : (files : List FileTree) → AreRows (base_rows files) (said_in_files files)
rows_are files = rows_files files 0 0

-- another line in front, with an id of its own
past : (row : BaseLine) (rows : List BaseLine) (text : LineText) (texts : List LineText) → row.id ≡ text.id → (IsAmong (text_ids texts) text.id → ⊥) → Each (Told rows) texts → Each (Told (row ∷ rows)) texts
past row rows text [] is new all = tt
past row rows text (other ∷ texts) is new all =
    let differ = false_from_ne_true (pointwise nat_eq row.id other.id) (λ e. new (inl (sym (sym is ∙ (bytes_eq-Decides row.id other.id).0 e)))) in
    (ap (λ (t : Bool). if t then Some row.holes else holes_under rows other.id) differ ∙ all.0, past row rows text texts is (λ among. new (inr among)) all.1)

apart_told : (rows : List BaseLine) (texts : List LineText) → AreRows rows texts → AreApart texts → Each (Told rows) texts
apart_told rows [] are apart = tt
apart_told [] (text ∷ texts) are apart = absurd are
apart_told (row ∷ rows) (text ∷ texts) are apart =
    let same = (bytes_eq-Decides row.id text.id).1 are.0 in (
      ap (λ (t : Bool). if t then Some row.holes else holes_under rows text.id) same ∙ ap (λ m. Some m) are.1,
      past row rows text texts are.0 apart.0 (apart_told rows texts are.2 apart.1),
    )

pub lines_told : (terms : Terms) (sources : List SourceFile) (lines : List FileLines) → reading_of terms.signatures sources ≡ Reads lines →
    Each (HasLine (program_of terms (map grown lines))) (said_in_files (map grown lines))
lines_told terms sources lines reads =
    apart_told (base_rows (map grown lines)) (said_in_files (map grown lines)) (rows_are (map grown lines))
    (part-apart (files-part lines) (ids-apart terms.signatures sources lines reads))

-- a fact of each node of files
abbrev pub EachNode : (NodeTree → Type 0) → List FileTree → Type 0
EachNode P files = Each (λ (f : FileTree). Each P f.nodes) files

module _ (p : Program) where
  in_nodes : (ns : List NodeTree) → Each (HasLine p) (said_in_nodes ns) → Each (λ (n : NodeTree). Each (HasLine p) (said_in n.body)) ns
  in_nodes [] h = tt
  in_nodes (n ∷ ns) h = (each_front (HasLine p) (said_in n.body) (said_in_nodes ns) h, in_nodes ns (each_back (HasLine p) (said_in n.body) (said_in_nodes ns) h))

  pub in_files : (files : List FileTree) → Each (HasLine p) (said_in_files files) → EachNode (λ n. Each (HasLine p) (said_in n.body)) files
  in_files [] h = tt
  in_files (f ∷ fs) h =
      (in_nodes f.nodes (each_front (HasLine p) (said_in_nodes f.nodes) (said_in_files fs) h), in_files fs (each_back (HasLine p) (said_in_nodes f.nodes) (said_in_files fs) h))

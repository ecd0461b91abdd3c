-- The rows of a project are of its lines and options, in order.
use Rattle.std.proofs.Common.{◌≡◌, ℕ, suc, List, [], ◌∷◌, ◌++◌, map, refl, sym, ◌∙◌, subst, inl, inr}
use Rattle.std.proofs.lemmas.List.{append_assoc}
use Rattle.std.proofs.lemmas.List.Elements.{All-nil, All-cons}
use Rattle.yarn_value.specs.declared.base.BaseLine.{BaseLine}
use Rattle.yarn_blocks.specs.declared.tree.LineText.{LineText}
use Rattle.yarn_tree.specs.Laws.{IsAmong}
use Rattle.yarn_tree.specs.Trees.{NodeTree, FileTree, grown}
use Rattle.yarn_tree.proofs.GrownLemmas.{files-grown}
use Rattle.yarn_code.specs.Fields.{IsNew, AreUnique, ids_of}
use Rattle.yarn_meaning.specs.First.{Placed, nodes_at, nodes_from}
use Rattle.yarn_meaning.specs.Texts.{said_in, said_in_nodes, said_in_files, base_of}
use Rattle.yarn_meaning.specs.Texts as meaning
use Rattle.yarn_meaning.proofs.BaseLemmas.{text_ids, AreApart, part-apart, files-part, ids-apart}
use Rattle.yarn_ids.specs.Base.{row_of, rows_from, base_rows}
use Rattle.yarn_ids.specs.BaseLaws.{IdsDiffer, RowsAreTheTable, text_under}

-- the rows have the ids and the texts of the lines
abbrev AreRows : List BaseLine → List LineText → Type 0
AreRows [] [] = Unit {0}
AreRows [] (text ∷ texts) = ⊥
AreRows (row ∷ rows) [] = ⊥
AreRows (row ∷ rows) (text ∷ texts) = (row.id ≡ text.id) × (row.text ≡ text.text) × AreRows rows texts

rows-append : (a b : List BaseLine) (x y : List LineText) → AreRows a x → AreRows b y → AreRows (a ++ b) (x ++ y)
rows-append [] b [] y h g = g
rows-append [] b (text ∷ x) y h g = absurd h
rows-append (row ∷ a) b [] y h g = absurd h
rows-append (row ∷ a) b (text ∷ x) y h g = (h.0, h.1, rows-append a b x y h.2 g)

rows-one : (file node : ℕ) (texts : List LineText) → AreRows (map (row_of file node) texts) texts
rows-one file node [] = tt
rows-one file node (text ∷ texts) = (refl, refl, rows-one file node texts)

rows-nodes : (ns : List NodeTree) (file node : ℕ) (behind : List Placed) (texts : List LineText) → ((m : ℕ) → AreRows (rows_from m behind) texts) →
    AreRows (rows_from node (nodes_at file ns ++ behind)) (said_in_nodes ns ++ texts)
rows-nodes [] file node behind texts h = h node
rows-nodes (n ∷ ns) file node behind texts h =
    let here = rows-one file node (said_in n.body) in
    let more = rows-nodes ns file (suc node) behind texts h in
    subst (AreRows (rows_from node (nodes_at file (n ∷ ns) ++ behind))) (sym (append_assoc (said_in n.body) (said_in_nodes ns) texts))
    (rows-append (map (row_of file node) (said_in n.body)) (rows_from (suc node) (nodes_at file ns ++ behind)) (said_in n.body) (said_in_nodes ns ++ texts) here more)

rows-files : (fs : List FileTree) (file node : ℕ) → AreRows (rows_from node (nodes_from file fs)) (said_in_files fs)
rows-files [] file node = tt
rows-files (f ∷ fs) file node = rows-nodes f.nodes file node (nodes_from (suc file) fs) (said_in_files fs) (λ m. rows-files fs (suc file) m)

rows-are : (files : List FileTree) → AreRows (base_rows files) (said_in_files files)
rows-are files = rows-files files 0 0

-- ---- ids differ

new-row : (id : List ℕ) (rows : List BaseLine) (texts : List LineText) → AreRows rows texts → (IsAmong (text_ids texts) id → ⊥) →
    IsNew id (ids_of rows)
new-row id [] [] are new = All-nil (λ other. id ≡ other → ⊥)
new-row id [] (text ∷ texts) are new = absurd are
new-row id (row ∷ rows) [] are new = absurd are
new-row id (row ∷ rows) (text ∷ texts) are new =
    All-cons (λ other. id ≡ other → ⊥) row.id (ids_of rows) (λ e. new (inl (sym are.0 ∙ sym e))) (new-row id rows texts are.2 (λ among. new (inr among)))

ids-unique : (rows : List BaseLine) (texts : List LineText) → AreRows rows texts → AreApart texts → AreUnique (ids_of rows)
ids-unique [] [] are apart = tt
ids-unique [] (text ∷ texts) are apart = absurd are
ids-unique (row ∷ rows) [] are apart = absurd are
ids-unique (row ∷ rows) (text ∷ texts) are apart =
    (new-row row.id rows texts are.2 (λ among. apart.0 (subst (IsAmong (text_ids texts)) are.0 among)), ids-unique rows texts are.2 apart.1)

pub ids-differ : IdsDiffer
ids-differ signatures sources project is =
    subst (λ (files : List FileTree). AreUnique (ids_of (base_rows files))) (sym (files-grown is.lines project.files is.are))
    (ids-unique (base_rows (map grown is.lines)) (said_in_files (map grown is.lines)) (rows-are (map grown is.lines))
    (part-apart (files-part is.lines) (ids-apart signatures sources is.lines is.read)))

-- ---- the table

same-text : (rows : List BaseLine) (texts : List LineText) → AreRows rows texts → (id : List ℕ) → text_under rows id ≡ meaning.text_under texts id
same-text [] [] are id = refl
same-text [] (text ∷ texts) are id = absurd are
same-text (row ∷ rows) [] are id = absurd are
same-text (row ∷ rows) (text ∷ texts) are id = rw (are.0, are.1, same-text rows texts are.2 id) refl

pub rows-are-the-table : RowsAreTheTable
rows-are-the-table files id = same-text (base_rows files) (said_in_files files) (rows-are files) id

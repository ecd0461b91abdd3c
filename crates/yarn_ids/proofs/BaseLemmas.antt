-- Rows of more lines, of more nodes and of more files.
use Rattle.std.proofs.Common.{◌≡◌, ℕ, suc, ◌+◌, List, [], ◌∷◌, ◌++◌, length, map, refl, sym, ap, ◌∙◌, arith, append_assoc, add-one}
use Rattle.std.proofs.lemmas.List.{map-append, length-map}
use Rattle.yarn_value.specs.declared.base.BaseLine.{BaseLine}
use Rattle.yarn_blocks.specs.declared.tree.LineText.{LineText}
use Rattle.yarn_tree.specs.declared.tree.File.{File}
use Rattle.yarn_tree.specs.Trees.{NodeTree, node_tree, file_tree}
use Rattle.yarn_meaning.specs.First.{Placed, nodes_at, nodes_from}
use Rattle.yarn_meaning.specs.Texts.{said_in}
use Rattle.yarn_ids.specs.Base.{row_of, rows_from}

-- the rows of some lines behind others
pub rows-more : (file node : ℕ) (rows : List BaseLine) (a b : List LineText) →
    rows ++ map (row_of file node) (a ++ b) ≡ (rows ++ map (row_of file node) a) ++ map (row_of file node) b
rows-more file node rows a b =
    ap (λ (l : List BaseLine). rows ++ l) (map-append (row_of file node) a b)
    ∙ sym (append_assoc rows (map (row_of file node) a) (map (row_of file node) b))

-- a line before others
pub rows-one-more : (file node : ℕ) (rows : List BaseLine) (text : LineText) (b : List LineText) →
    rows ++ map (row_of file node) (text ∷ b) ≡ (rows ++ row_of file node text ∷ []) ++ map (row_of file node) b
rows-one-more file node rows text b = rows-more file node rows (text ∷ []) b

pub nodes-more : (node : ℕ) (a b : List Placed) → rows_from node (a ++ b) ≡ rows_from node a ++ rows_from (node + length a) b
nodes-more node [] b = ap (λ (n : ℕ). rows_from n b) (omega arith)
nodes-more node (n ∷ a) b =
    let here : List BaseLine = map (row_of n.file node) (said_in n.node.body) in
    ap (λ (l : List BaseLine). here ++ l)
    (nodes-more (suc node) a b ∙ ap (λ (m : ℕ). rows_from (suc node) a ++ rows_from m b) (omega arith))
    ∙ sym (append_assoc here (rows_from (suc node) a) (rows_from (node + length (n ∷ a)) b))

pub length-nodes_at : (file : ℕ) (nodes : List NodeTree) → length (nodes_at file nodes) ≡ length nodes
length-nodes_at file [] = refl
length-nodes_at file (n ∷ nodes) = ap suc (length-nodes_at file nodes)

-- the nodes of one file before those of others
pub files_more : (node behind file next : ℕ) (own : File) (rest : List File) (rows more : List BaseLine) →
    behind ≡ node + length own.nodes → next ≡ file + 1 → more ≡ rows ++ rows_from node (nodes_at file (map node_tree own.nodes)) →
    more ++ rows_from behind (nodes_from next (map file_tree rest)) ≡ rows ++ rows_from node (nodes_from file (map file_tree (own ∷ rest)))
files_more node behind file next own rest rows more e f g =
    let here = nodes_at file (map node_tree own.nodes) in
    let others = nodes_from (suc file) (map file_tree rest) in
    let count : behind ≡ node + length here = e ∙ ap (λ (k : ℕ). node + k) (sym (length-nodes_at file (map node_tree own.nodes) ∙ length-map own.nodes node_tree)) in
    let one : next ≡ suc file = f ∙ add-one file in
    ap (λ (l : List BaseLine). l ++ rows_from behind (nodes_from next (map file_tree rest))) g
    ∙ append_assoc rows (rows_from node here) (rows_from behind (nodes_from next (map file_tree rest)))
    ∙ ap (λ (l : List BaseLine). rows ++ (rows_from node here ++ l)) (rw (count, one) refl)
    ∙ ap (λ (l : List BaseLine). rows ++ l) (sym (nodes-more node here others))

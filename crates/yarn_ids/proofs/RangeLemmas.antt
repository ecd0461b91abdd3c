-- The places of rows are among the files and among the nodes.
use Rattle.std.proofs.Common.{ℕ, suc, ◌+◌, ◌<◌, ◌≤◌, List, [], ◌∷◌, length, map, arith}
use Rattle.std.specs.List.{AllByRecursion}
use Rattle.std.proofs.lemmas.List.Elements.{All-from_recursion}
use Rattle.yarn_blocks.specs.declared.tree.LineText.{LineText}
use Rattle.yarn_tree.specs.Trees.{NodeTree, FileTree}
use Rattle.yarn_meaning.specs.First.{Placed, nodes_at, nodes_from}
use Rattle.yarn_meaning.specs.Texts.{said_in}
use Rattle.yarn_ids.specs.Base.{row_of, rows_from, base_rows}
use Rattle.yarn_ids.specs.BaseLaws.{IsInRange, RowsAreInRange}
use Rattle.yarn_ids.proofs.TextRows.{all_both}

-- the file of a node is one of so many
abbrev IsFiled : ℕ → Placed → Type 0
IsFiled files n = n.file < files

at-filed : (files file : ℕ) (nodes : List NodeTree) → file < files → AllByRecursion (IsFiled files) (nodes_at file nodes)
at-filed files file [] h = tt
at-filed files file (n ∷ nodes) h = (h, at-filed files file nodes h)

from-filed : (files file : ℕ) (trees : List FileTree) → file + length trees ≤ files → AllByRecursion (IsFiled files) (nodes_from file trees)
from-filed files file [] h = tt
from-filed files file (f ∷ trees) h =
    all_both (IsFiled files) (nodes_at file f.nodes) (nodes_from (suc file) trees)
    (at-filed files file f.nodes (omega (arith, h))) (from-filed files (suc file) trees (omega (arith, h)))

module _ (files nodes : ℕ) where
  texts-in_range : (file node : ℕ) (texts : List LineText) → file < files → node < nodes → AllByRecursion (IsInRange files nodes) (map (row_of file node) texts)
  texts-in_range file node [] h g = tt
  texts-in_range file node (text ∷ texts) h g = (record { file = h; node = g }, texts-in_range file node texts h g)

  rows-in_range : (node : ℕ) (ns : List Placed) → node + length ns ≤ nodes → AllByRecursion (IsFiled files) ns → AllByRecursion (IsInRange files nodes) (rows_from node ns)
  rows-in_range node [] h filed = tt
  rows-in_range node (n ∷ ns) h filed =
      all_both (IsInRange files nodes) (map (row_of n.file node) (said_in n.node.body)) (rows_from (suc node) ns)
      (texts-in_range n.file node (said_in n.node.body) filed.0 (omega (arith, h))) (rows-in_range (suc node) ns (omega (arith, h)) filed.1)

pub rows-are_in_range : RowsAreInRange
rows-are_in_range trees =
    All-from_recursion (IsInRange (length trees) (length (nodes_from 0 trees))) (base_rows trees)
    (rows-in_range (length trees) (length (nodes_from 0 trees)) 0 (nodes_from 0 trees) (omega arith) (from-filed (length trees) 0 trees (omega arith)))

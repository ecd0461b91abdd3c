-- The lines and options of a project as rows: the base of its string tables (docs/language.md, Ids).
use Rattle.std.specs.Prelude.{ℕ, suc, List, [], ◌∷◌, ◌++◌, length, map}
use Rattle.yarn_value.specs.declared.base.BaseLine.{BaseLine}
use Rattle.yarn_blocks.specs.declared.tree.LineText.{LineText}
use Rattle.yarn_tree.specs.Trees.{FileTree}
use Rattle.yarn_meaning.specs.First.{Placed, nodes_from}
use Rattle.yarn_meaning.specs.Texts.{said_in}

-- a line or an option of the node at that place among all nodes, in the file at that place
abbrev pub row_of : ℕ → ℕ → LineText → BaseLine
row_of file node text =
    record { id = text.id; holes = length text.holes; text = text.text; file = file; node = node; line = text.line }

-- the lines and options of nodes, of which the first is at that place among all nodes
abbrev pub rows_from : ℕ → List Placed → List BaseLine
rows_from node [] = []
rows_from node (n ∷ nodes) = map (row_of n.file node) (said_in n.node.body) ++ rows_from (suc node) nodes

-- one row for each line and option, in order of the text
abbrev pub base_rows : List FileTree → List BaseLine
base_rows files = rows_from 0 (nodes_from 0 files)

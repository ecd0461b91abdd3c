-- The trees that are built of lines are those that the lines stand for.
use Rattle.std.proofs.Common.{◌≡◌, List, [], ◌∷◌, map, refl}
use Rattle.yarn_blocks.proofs.Viable.{block-read}
use Rattle.yarn_nodes.specs.declared.node.FileLines.{FileLines}
use Rattle.yarn_nodes.specs.declared.node.NodeLines.{NodeLines}
use Rattle.yarn_tree.specs.declared.tree.Node.{Node}
use Rattle.yarn_tree.specs.declared.tree.File.{File}
use Rattle.yarn_tree.specs.Project.{IsNodeOf, AreNodesOf, IsFileOf, AreFilesOf}
use Rattle.yarn_tree.specs.Trees.{node_tree, file_tree, grown_node, grown}

pub node-grown : (lines : NodeLines) (node : Node) → IsNodeOf lines node → node_tree node ≡ grown_node lines
node-grown lines node is = rw (is.title, is.headers, is.line, is.end_line, block-read is.body) refl

pub nodes-grown : (lines : List NodeLines) (nodes : List Node) → AreNodesOf lines nodes → map node_tree nodes ≡ map grown_node lines
nodes-grown [] [] are = refl
nodes-grown [] (n ∷ nodes) are = absurd are
nodes-grown (l ∷ lines) [] are = absurd are
nodes-grown (l ∷ lines) (n ∷ nodes) are = rw (node-grown l n are.0, nodes-grown lines nodes are.1) refl

pub file-grown : (lines : FileLines) (file : File) → IsFileOf lines file → file_tree file ≡ grown lines
file-grown lines file is = rw (is.name, is.tags, nodes-grown lines.nodes file.nodes is.nodes) refl

pub files-grown : (lines : List FileLines) (files : List File) → AreFilesOf lines files → map file_tree files ≡ map grown lines
files-grown [] [] are = refl
files-grown [] (f ∷ files) are = absurd are
files-grown (l ∷ lines) [] are = absurd are
files-grown (l ∷ lines) (f ∷ files) are = rw (file-grown l f are.0, files-grown lines files are.1) refl

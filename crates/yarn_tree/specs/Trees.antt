-- The trees of files as plain data, and those that the lines of files stand for.
use Rattle.std.specs.Prelude.{ℕ, List, map, Option, Some, None}
use Rattle.yarn_items.specs.declared.item.Header.{Header}
use Rattle.yarn_blocks.specs.Tree.{Stmts, Nil}
use Rattle.yarn_blocks.specs.Reading.{read}
use Rattle.yarn_blocks.specs.View.{stmts_of}
use Rattle.yarn_nodes.specs.declared.node.FileLines.{FileLines}
use Rattle.yarn_nodes.specs.declared.node.NodeLines.{NodeLines}
use Rattle.yarn_tree.specs.declared.tree.Node.{Node}
use Rattle.yarn_tree.specs.declared.tree.File.{File}

pub record NodeTree : Type 0 where
  pub title : List ℕ
  pub headers : List Header
  pub line : ℕ
  pub end_line : ℕ
  pub body : Stmts

pub record FileTree : Type 0 where
  pub name : List ℕ
  pub tags : List (List ℕ)
  pub nodes : List NodeTree

-- a tree of the program as plain data
abbrev pub node_tree : Node → NodeTree
node_tree node = record { title = node.title; headers = node.headers; line = node.line; end_line = node.end_line; body = stmts_of node.body }

abbrev pub file_tree : File → FileTree
file_tree file = record { name = file.name; tags = file.tags; nodes = map node_tree file.nodes }

-- the statements of a block; nothing where the lines are none
abbrev pub stmts_or_none : Option Stmts → Stmts
stmts_or_none (Some b) = b
stmts_or_none None = Nil

-- the tree that lines stand for
abbrev pub grown_node : NodeLines → NodeTree
grown_node lines =
    record { title = lines.title; headers = lines.headers; line = lines.line; end_line = lines.end_line; body = stmts_or_none (read lines.body) }

abbrev pub grown : FileLines → FileTree
grown lines = record { name = lines.name; tags = lines.tags; nodes = map grown_node lines.nodes }

-- The trees that files stand for (docs/language.md, Nodes and Structure of a body).
use Rattle.std.specs.Prelude.{◌≡◌, List, [], ◌∷◌, ⊤}
use Rattle.yarn_base.specs.declared.SourceFile.{SourceFile}
use Rattle.yarn_blocks.specs.Block.{Block}
use Rattle.yarn_blocks.specs.View.{stmts_of}
use Rattle.yarn_nodes.specs.declared.node.FileLines.{FileLines}
use Rattle.yarn_nodes.specs.declared.node.NodeLines.{NodeLines}
use Rattle.yarn_nodes.specs.Ids.{Naming, HasIds}
use Rattle.yarn_nodes.specs.Lines.{HasLines}
use Rattle.yarn_tree.specs.declared.tree.Node.{Node}
use Rattle.yarn_tree.specs.declared.tree.File.{File}
use Rattle.yarn_tree.specs.declared.tree.Project.{Project}

-- the node whose lines these are: the lines of its body are a block that stands for its statements
pub record IsNodeOf (lines : NodeLines) (node : Node) : Type 0 where
  pub title : node.title ≡ lines.title
  pub headers : node.headers ≡ lines.headers
  pub line : node.line ≡ lines.line
  pub end_line : node.end_line ≡ lines.end_line
  pub body : Block lines.body [] (stmts_of node.body)

abbrev pub AreNodesOf : List NodeLines → List Node → Type 0
AreNodesOf [] [] = ⊤
AreNodesOf [] (node ∷ nodes) = ⊥
AreNodesOf (lines ∷ rest) [] = ⊥
AreNodesOf (lines ∷ rest) (node ∷ nodes) = IsNodeOf lines node × AreNodesOf rest nodes

pub record IsFileOf (lines : FileLines) (file : File) : Type 0 where
  pub name : file.name ≡ lines.name
  pub tags : file.tags ≡ lines.tags
  pub nodes : AreNodesOf lines.nodes file.nodes

abbrev pub AreFilesOf : List FileLines → List File → Type 0
AreFilesOf [] [] = ⊤
AreFilesOf [] (file ∷ files) = ⊥
AreFilesOf (lines ∷ rest) [] = ⊥
AreFilesOf (lines ∷ rest) (file ∷ files) = IsFileOf lines file × AreFilesOf rest files

-- the bytes of a file stand for the tree
pub record StandsFor (Ids : Naming) (source : SourceFile) (file : File) : Type 0 where
  pub lines : FileLines
  pub has : HasLines Ids source lines
  pub is : IsFileOf lines file

-- each file has its lines
abbrev pub AllHaveLines : List SourceFile → List FileLines → Type 0
AllHaveLines [] [] = ⊤
AllHaveLines [] (lines ∷ rest) = ⊥
AllHaveLines (source ∷ sources) [] = ⊥
AllHaveLines (source ∷ sources) (lines ∷ rest) = HasLines HasIds source lines × AllHaveLines sources rest

-- the files stand for the project
pub record ProjectOf (sources : List SourceFile) (project : Project) : Type 0 where
  pub lines : List FileLines
  pub have : AllHaveLines sources lines
  pub are : AreFilesOf lines project.files

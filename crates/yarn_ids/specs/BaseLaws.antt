-- What the rows of an accepted project are (docs/language.md, Ids; docs/formats.md, Templates).
use Rattle.std.specs.Prelude.{◌≡◌, ◌<◌, ℕ, List, [], ◌∷◌, length, map, nat_eq, if◌then◌else◌, All}
use Rattle.std.specs.Cmp.Lexicographic.{pointwise}
use Rattle.yarn_base.specs.declared.SourceFile.{SourceFile}
use Rattle.yarn_value.specs.declared.base.BaseLine.{BaseLine}
use Rattle.yarn_value.specs.declared.signature.Signature.{Signature}
use Rattle.yarn_nodes.specs.declared.node.FileLines.{FileLines}
use Rattle.yarn_tree.specs.declared.tree.Project.{Project}
use Rattle.yarn_tree.specs.Project.{AreFilesOf}
use Rattle.yarn_tree.specs.Reading.{Reads, reading_of}
use Rattle.yarn_tree.specs.Trees.{FileTree, file_tree}
use Rattle.yarn_code.specs.Fields.{IsText, AreUnique, ids_of}
use Rattle.yarn_meaning.specs.First.{nodes_from}
use Rattle.yarn_meaning.specs.Texts.{Table, base_of}
use Rattle.yarn_ids.specs.Base.{base_rows}

-- the project is what is read of the files with these signatures
pub record IsAcceptedOf (signatures : List Signature) (sources : List SourceFile) (project : Project) : Type 0 where
  pub lines : List FileLines
  pub read : reading_of signatures sources ≡ Reads lines
  pub are : AreFilesOf lines project.files

-- the rows of a project
abbrev pub rows_of : Project → List BaseLine
rows_of project = base_rows (map file_tree project.files)

-- no id of an accepted project comes again
abbrev pub IdsDiffer : Type 0
IdsDiffer = (signatures : List Signature) (sources : List SourceFile) (project : Project) → IsAcceptedOf signatures sources project →
    AreUnique (ids_of (rows_of project))

-- a row whose text is a template with its holes
abbrev pub HasTemplate : BaseLine → Type 0
HasTemplate row = IsText row.text row.holes

-- each text of an accepted project is a template with its row's holes, at most 16
abbrev pub TextsAreTemplates : Type 0
TextsAreTemplates = (signatures : List Signature) (sources : List SourceFile) (project : Project) → IsAcceptedOf signatures sources project →
    All HasTemplate (rows_of project)

-- the text of the first row that has the id, and else none
abbrev pub text_under : List BaseLine → Table
text_under [] id = []
text_under (row ∷ rows) id = if pointwise nat_eq row.id id then row.text else text_under rows id

-- the rows, looked up by ids, are the base table of the meaning
abbrev pub RowsAreTheTable : Type 0
RowsAreTheTable = (files : List FileTree) (id : List ℕ) → text_under (base_rows files) id ≡ base_of files id

-- the places of a row are among so many files and so many nodes
pub record IsInRange (files nodes : ℕ) (row : BaseLine) : Type 0 where
  pub file : row.file < files
  pub node : row.node < nodes

-- the places of each row are among the files and among the nodes of all files
abbrev pub RowsAreInRange : Type 0
RowsAreInRange = (files : List FileTree) → All (IsInRange (length files) (length (nodes_from 0 files))) (base_rows files)

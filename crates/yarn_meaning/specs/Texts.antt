-- The texts of a project's lines and options under their ids (docs/language.md, Ids).
use Rattle.std.specs.Prelude.{◌≡◌, ℕ, List, [], ◌∷◌, ◌++◌, nat_eq, if◌then◌else◌, All}
use Rattle.std.specs.Cmp.Lexicographic.{pointwise}
use Rattle.yarn_blocks.specs.declared.entry.Simple.{Simple}
use Rattle.yarn_blocks.specs.declared.entry.Simple.TheVariants as simple
use Rattle.yarn_blocks.specs.declared.tree.LineText.{LineText}
use Rattle.yarn_blocks.specs.Tree.{Stmt, Leaf, Group, Choice, Stmts, Nil, Cons, Options, NoOptions, AndOption, Clauses, NoClauses, AndClause, Last, NoElse, ElseOf}
use Rattle.yarn_tree.specs.Trees.{NodeTree, FileTree}

-- ---- the lines and options, in order of the text

abbrev pub said_by : Simple → List LineText
said_by (simple.Line text) = text ∷ []
said_by (simple.Command text) = []
said_by (simple.Set head name op e) = []
said_by (simple.Declare head name value kind) = []
said_by (simple.Jump head title) = []
said_by (simple.JumpTo head e) = []
said_by (simple.Stop head) = []
said_by (simple.Call head e) = []

abbrev mutual
  pub said_in : Stmts → List LineText
  said_in Nil = []
  said_in (Cons s b) = said_in_one s ++ said_in b

  pub said_in_one : Stmt → List LineText
  said_in_one (Leaf s) = said_by s
  said_in_one (Group os) = said_in_options os
  said_in_one (Choice cs last e) = said_in_clauses cs ++ said_in_last last

  pub said_in_options : Options → List LineText
  said_in_options NoOptions = []
  said_in_options (AndOption n body os) = n.text ∷ (said_in body ++ said_in_options os)

  pub said_in_clauses : Clauses → List LineText
  said_in_clauses NoClauses = []
  said_in_clauses (AndClause n body cs) = said_in body ++ said_in_clauses cs

  pub said_in_last : Last → List LineText
  said_in_last NoElse = []
  said_in_last (ElseOf head body) = said_in body

abbrev pub said_in_nodes : List NodeTree → List LineText
said_in_nodes [] = []
said_in_nodes (n ∷ ns) = said_in n.body ++ said_in_nodes ns

abbrev pub said_in_files : List FileTree → List LineText
said_in_files [] = []
said_in_files (f ∷ fs) = said_in_nodes f.nodes ++ said_in_files fs

-- ---- tables

-- the text that stands under an id
abbrev pub Table : Type 0
Table = List ℕ → List ℕ

-- the table has the line's own text
abbrev pub Tells : Table → LineText → Type 0
Tells table text = table text.id ≡ text.text

-- the table has the text of each of these lines
abbrev pub TellsAll : Table → List LineText → Type 0
TellsAll table texts = All (Tells table) texts

-- the text of the first of these lines that has the id, and else none
abbrev pub text_under : List LineText → Table
text_under [] id = []
text_under (text ∷ texts) id = if pointwise nat_eq text.id id then text.text else text_under texts id

-- the base table of a project: the texts as they stand in the source
abbrev pub base_of : List FileTree → Table
base_of files = text_under (said_in_files files)

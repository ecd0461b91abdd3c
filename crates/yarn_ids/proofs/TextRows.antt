-- The rows of an accepted project have templates.
use Rattle.std.proofs.Common.{ℕ, suc, List, [], ◌∷◌, ◌++◌, ◌≡◌, map, All, subst, sym}
use Rattle.std.specs.List.{AllByRecursion}
use Rattle.std.proofs.lemmas.List.Elements.{All-from_recursion, recursion_from_All}
use Rattle.yarn_base.specs.declared.SourceFile.{SourceFile}
use Rattle.yarn_value.specs.declared.base.BaseLine.{BaseLine}
use Rattle.yarn_value.specs.declared.signature.Signature.{Signature}
use Rattle.yarn_items.specs.Laws.{ItemsAreFound}
use Rattle.yarn_blocks.specs.declared.entry.Simple.{Simple}
use Rattle.yarn_blocks.specs.declared.entry.Simple.TheVariants as simple
use Rattle.yarn_blocks.specs.declared.tree.LineText.{LineText}
use Rattle.yarn_blocks.specs.Tree as T
use Rattle.yarn_blocks.specs.Tree.{Leaf, Group, Choice, Nil, Cons, NoOptions, AndOption, NoClauses, AndClause, NoElse, ElseOf}
use Rattle.yarn_nodes.specs.declared.node.FileLines.{FileLines}
use Rattle.yarn_tree.specs.Laws.{ReadExactly}
use Rattle.yarn_tree.specs.Trees.{FileTree, grown}
use Rattle.yarn_tree.proofs.GrownLemmas.{files-grown}
use Rattle.yarn_ids.specs.BaseLaws.{TextsAreTemplates}
use Rattle.yarn_meaning.specs.First.{Placed, nodes_from}
use Rattle.yarn_meaning.specs.Texts.{said_by, said_in, said_in_one, said_in_options, said_in_clauses, said_in_last}
use Rattle.yarn_tree.specs.Reading.{Reads, reading_of}
use Rattle.yarn_code.specs.Fields.{IsText}
use Rattle.yarn_ids.specs.Base.{row_of, rows_from, base_rows}
use Rattle.yarn_ids.proofs.Texts.{HasTemplate, SimpleText, AreTexts, TextsOfOne, TextsOfOptions, TextsOfClauses, TextsOfLast}
use Rattle.yarn_ids.proofs.AcceptedTexts.{PlacedTexts, texts_of_accepted}

pub all_both : {A : Type 0} (P : A → Type 0) (a b : List A) → AllByRecursion P a → AllByRecursion P b → AllByRecursion P (a ++ b)
all_both P [] b h g = g
all_both P (x ∷ a) b h g = (h.0, all_both P a b h.1 g)

-- ---- the lines and options of statements

abbrev Templates : List LineText → Type 0
Templates = AllByRecursion HasTemplate

simple_said : (s : Simple) → SimpleText s → Templates (said_by s)
simple_said (simple.Line text) h = (h, tt)
simple_said (simple.Command text) h = tt
simple_said (simple.Set head name op e) h = tt
simple_said (simple.Declare head name value kind) h = tt
simple_said (simple.Jump head title) h = tt
simple_said (simple.JumpTo head e) h = tt
simple_said (simple.Stop head) h = tt
simple_said (simple.Call head e) h = tt

mutual
  pub said_texts : (b : T.Stmts) → AreTexts b → Templates (said_in b)
  said_texts Nil h = tt
  said_texts (Cons s b) h = all_both HasTemplate (said_in_one s) (said_in b) (one_said s h.0) (said_texts b h.1)

  one_said : (s : T.Stmt) → TextsOfOne s → Templates (said_in_one s)
  one_said (Leaf s) h = simple_said s h
  one_said (Group os) h = options_said os h
  one_said (Choice cs last e) h = all_both HasTemplate (said_in_clauses cs) (said_in_last last) (clauses_said cs h.0) (last_said last h.1)

  options_said : (os : T.Options) → TextsOfOptions os → Templates (said_in_options os)
  options_said NoOptions h = tt
  options_said (AndOption n body os) h = (h.0, all_both HasTemplate (said_in body) (said_in_options os) (said_texts body h.1) (options_said os h.2))

  clauses_said : (cs : T.Clauses) → TextsOfClauses cs → Templates (said_in_clauses cs)
  clauses_said NoClauses h = tt
  clauses_said (AndClause n body cs) h = all_both HasTemplate (said_in body) (said_in_clauses cs) (said_texts body h.0) (clauses_said cs h.1)

  last_said : (last : T.Last) → TextsOfLast last → Templates (said_in_last last)
  last_said NoElse h = tt
  last_said (ElseOf head body) h = said_texts body h

-- ---- their rows

abbrev pub RowText : BaseLine → Type 0
RowText l = IsText l.text l.holes

texts_rows : (file node : ℕ) (texts : List LineText) → Templates texts → AllByRecursion RowText (map (row_of file node) texts)
texts_rows file node [] h = tt
texts_rows file node (text ∷ texts) h = (h.0, texts_rows file node texts h.1)

nodes_rows : (node : ℕ) (nodes : List Placed) → AllByRecursion PlacedTexts nodes → AllByRecursion RowText (rows_from node nodes)
nodes_rows node [] h = tt
nodes_rows node (n ∷ nodes) h =
    all_both RowText (map (row_of n.file node) (said_in n.node.body)) (rows_from (suc node) nodes)
    (texts_rows n.file node (said_in n.node.body) (said_texts n.node.body h.0)) (nodes_rows (suc node) nodes h.1)

-- the text of each row of an accepted project is a template for its substitutions
pub rows_of_accepted : ItemsAreFound → ReadExactly →
    (signatures : List Signature) (sources : List SourceFile) (lines : List FileLines) → reading_of signatures sources ≡ Reads lines →
    All RowText (base_rows (map grown lines))
rows_of_accepted items_found exactly signatures sources lines reads =
    let nodes = nodes_from 0 (map grown lines) in
    let texts = texts_of_accepted items_found exactly signatures sources lines reads in
    All-from_recursion RowText (base_rows (map grown lines)) (nodes_rows 0 nodes (recursion_from_All PlacedTexts nodes texts))

pub texts-are-templates : ItemsAreFound → ReadExactly → TextsAreTemplates
texts-are-templates items_found exactly signatures sources project is =
    subst (λ (files : List FileTree). All RowText (base_rows files)) (sym (files-grown is.lines project.files is.are))
    (rows_of_accepted items_found exactly signatures sources is.lines is.read)

-- The lines of an accepted project's code: their ids, their templates, their files and their nodes.
use Rattle.std.proofs.Common.{◌≡◌, ℕ, suc, ◌+◌, ◌<◌, ◌≤◌, List, [], ◌∷◌, ◌++◌, length, map, refl, sym, ap, ◌∙◌, subst, arith, Bool, true, false, All, Option, Some, None, inl, inr, if◌then◌else◌, length-append, append_assoc}
use Rattle.std.specs.Prelude.{codes}
use Rattle.std.specs.Fmt.{decimal}
use Rattle.std.proofs.lemmas.List.Elements.{All-nil, All-cons}
use Rattle.yarn_base.specs.declared.SourceFile.{SourceFile}
use Rattle.yarn_value.specs.declared.base.BaseLine.{BaseLine}
use Rattle.yarn_items.specs.Text.{is_id}
use Rattle.yarn_blocks.specs.declared.entry.Entry.{Entry}
use Rattle.yarn_blocks.specs.declared.entry.Simple.{Simple}
use Rattle.yarn_blocks.specs.declared.entry.Simple.TheVariants as simple
use Rattle.yarn_blocks.specs.declared.tree.LineText.{LineText}
use Rattle.yarn_blocks.specs.LineIds.{line_id}
use Rattle.yarn_blocks.specs.Tree as T
use Rattle.yarn_blocks.specs.Tree.{Leaf, Group, Choice, Nil, Cons, NoOptions, AndOption, NoClauses, AndClause, NoElse, ElseOf}
use Rattle.yarn_nodes.specs.declared.node.FileLines.{FileLines}
use Rattle.yarn_nodes.specs.declared.node.NodeLines.{NodeLines}
use Rattle.yarn_nodes.specs.Entries.{ItemAt, said_by as said_at}
use Rattle.yarn_nodes.specs.Ids.{id_among, HasIds, said_in as said_before}
use Rattle.yarn_nodes.specs.Lines.{AreNodes, no_node, first_node}
use Rattle.yarn_tree.specs.Laws.{IsAmong}
use Rattle.yarn_tree.specs.Project.{AllHaveLines}
use Rattle.yarn_tree.specs.Trees.{NodeTree, FileTree, grown}
use Rattle.yarn_meaning.specs.First.{Placed}
use Rattle.yarn_meaning.specs.Texts.{said_by, said_in, said_in_one, said_in_options, said_in_clauses, said_in_last, said_in_nodes, said_in_files}
use Rattle.yarn_meaning.proofs.BaseLemmas.{and_text, body_texts, text_ids, AreApart, IsPart, nothing, takes, skips, node_texts, file_texts, files-part}
use Rattle.yarn_code.specs.declared.program.Program.{Program}
use Rattle.yarn_code.specs.Fields.{IsNew, AreUnique, ids_of, IsLineField}
use Rattle.yarn_compile.specs.Base.{row_of, rows_from}
use Rattle.yarn_compile.proofs.Parts.{Each, each_append, each_front, each_back}
use Rattle.yarn_compile.proofs.KnownLines.{AreRows, EachNode}
use Rattle.yarn_compile.proofs.Texts.{HasTemplate, SimpleText, AreTexts, TextsOfOne, TextsOfOptions, TextsOfClauses, TextsOfLast}

-- ---- ids

abbrev pub HasId : LineText → Type 0
HasId text = 1 ≤ length text.id

line_id_some : (title : List ℕ) (before : ℕ) → 1 ≤ length (line_id title before)
line_id_some title before = omega (arith, length-append (codes "line:") (title ++ (codes "-" ++ decimal before)))

tag_some : (tag : List ℕ) → is_id tag ≡ true → 1 ≤ length tag
tag_some [] is = absurd cc
tag_some (b ∷ tag) is = omega arith

id_some : (tags : List (List ℕ)) (other : List ℕ) → 1 ≤ length other → 1 ≤ length (id_among tags other)
id_some [] other h = h
id_some (t ∷ ts) other h = by_test (is_id t) refl (id_some ts other h)
  where
    by_test : (b : Bool) → is_id t ≡ b → 1 ≤ length (id_among ts other) → 1 ≤ length (if b then t else id_among ts other)
    by_test true is g = tag_some t is
    by_test false is g = g

body_ids : (title : List ℕ) (whole before body : List Entry) → whole ≡ before ++ body → HasIds title whole → Each HasId (body_texts body)
body_ids title whole before [] e has = tt
body_ids title whole before (x ∷ xs) e has =
    by_said (said_at x.what) refl (body_ids title whole (before ++ x ∷ []) xs (e ∙ sym (append_assoc before (x ∷ []) xs)) has)
  where
    by_said : (o : Option LineText) → said_at x.what ≡ o → Each HasId (body_texts xs) → Each HasId (and_text o (body_texts xs))
    by_said None is more = more
    by_said (Some text) is more =
        (subst (λ (id : List ℕ). 1 ≤ length id) (sym (has before xs x text e is)) (id_some text.tags (line_id title (said_before before)) (line_id_some title (said_before before))), more)

nodes_ids : {items : List ItemAt} {nodes : List NodeLines} → AreNodes HasIds items nodes → Each HasId (node_texts nodes)
nodes_ids no_node = tt
nodes_ids (first_node {node = node} {nodes = nodes} is more) =
    each_append HasId (body_texts node.body) (node_texts nodes) (body_ids node.title node.body [] node.body refl is.ids) (nodes_ids more)

files_ids : (sources : List SourceFile) (files : List FileLines) → AllHaveLines sources files → Each HasId (file_texts files)
files_ids [] [] have = tt
files_ids [] (file ∷ files) have = absurd have
files_ids (source ∷ sources) [] have = absurd have
files_ids (source ∷ sources) (file ∷ files) have =
    each_append HasId (node_texts file.nodes) (file_texts files) (nodes_ids have.0.is_file.are_nodes) (files_ids sources files have.1)

part_has : (P : LineText → Type 0) {some all : List LineText} → IsPart some all → Each P all → Each P some
part_has P nothing h = tt
part_has P (takes part) h = (h.0, part_has P part h.1)
part_has P (skips part) h = part_has P part h.1

module _ (P : LineText → Type 0) where
  in_nodes : (ns : List NodeTree) → Each P (said_in_nodes ns) → Each (λ (n : NodeTree). Each P (said_in n.body)) ns
  in_nodes [] h = tt
  in_nodes (n ∷ ns) h = (each_front P (said_in n.body) (said_in_nodes ns) h, in_nodes ns (each_back P (said_in n.body) (said_in_nodes ns) h))

  in_files : (files : List FileTree) → Each P (said_in_files files) → EachNode (λ n. Each P (said_in n.body)) files
  in_files [] h = tt
  in_files (f ∷ fs) h =
      (in_nodes f.nodes (each_front P (said_in_nodes f.nodes) (said_in_files fs) h), in_files fs (each_back P (said_in_nodes f.nodes) (said_in_files fs) h))

-- each line has an id
pub ids_some : (sources : List SourceFile) (files : List FileLines) → AllHaveLines sources files →
    EachNode (λ n. Each HasId (said_in n.body)) (map grown files)
ids_some sources files have = in_files HasId (map grown files) (part_has HasId (files-part files) (files_ids sources files have))

-- ---- templates

said_simple : (s : Simple) → SimpleText s → Each HasTemplate (said_by s)
said_simple (simple.Line text) h = (h, tt)
said_simple (simple.Command text) h = tt
said_simple (simple.Set head name op e) h = tt
said_simple (simple.Declare head name value kind) h = tt
said_simple (simple.Jump head title) h = tt
said_simple (simple.JumpTo head e) h = tt
said_simple (simple.Stop head) h = tt
said_simple (simple.Call head e) h = tt

mutual
  -- the lines of statements are templates
  pub said_all : (b : T.Stmts) → AreTexts b → Each HasTemplate (said_in b)
  said_all Nil h = tt
  said_all (Cons s b) h = each_append HasTemplate (said_in_one s) (said_in b) (said_one s h.0) (said_all b h.1)

  said_one : (s : T.Stmt) → TextsOfOne s → Each HasTemplate (said_in_one s)
  said_one (Leaf s) h = said_simple s h
  said_one (Group os) h = said_options os h
  said_one (Choice cs last e) h = each_append HasTemplate (said_in_clauses cs) (said_in_last last) (said_clauses cs h.0) (said_last last h.1)

  said_options : (os : T.Options) → TextsOfOptions os → Each HasTemplate (said_in_options os)
  said_options NoOptions h = tt
  said_options (AndOption n body os) h = (h.0, each_append HasTemplate (said_in body) (said_in_options os) (said_all body h.1) (said_options os h.2))

  said_clauses : (cs : T.Clauses) → TextsOfClauses cs → Each HasTemplate (said_in_clauses cs)
  said_clauses NoClauses h = tt
  said_clauses (AndClause n body cs) h = each_append HasTemplate (said_in body) (said_in_clauses cs) (said_all body h.0) (said_clauses cs h.1)

  said_last : (last : T.Last) → TextsOfLast last → Each HasTemplate (said_in_last last)
  said_last NoElse h = tt
  said_last (ElseOf head body) h = said_all body h

-- ---- rows

module _ (p : Program) where
  row_fields : (file node : ℕ) (texts : List LineText) → file < length p.files → node < length p.nodes → Each HasId texts → Each HasTemplate texts →
      Each (IsLineField p) (map (row_of file node) texts)
  row_fields file node [] filed within ids templates = tt
  row_fields file node (text ∷ texts) filed within ids templates =
      (record { named = ids.0; text = templates.0; filed = filed; within = within }, row_fields file node texts filed within ids.1 templates.1)

  -- the rows of nodes are fields
  pub rows_fields : (node : ℕ) (ns : List Placed) → node + length ns ≤ length p.nodes → Each (λ (n : Placed). n.file < length p.files) ns →
      Each (λ (n : Placed). Each HasId (said_in n.node.body)) ns → Each (λ (n : Placed). AreTexts n.node.body) ns → Each (IsLineField p) (rows_from node ns)
  rows_fields node [] within filed ids texts = tt
  rows_fields node (n ∷ ns) within filed ids texts =
      each_append (IsLineField p) (map (row_of n.file node) (said_in n.node.body)) (rows_from (suc node) ns)
      (row_fields n.file node (said_in n.node.body) filed.0 (omega (arith, within)) ids.0 (said_all n.node.body texts.0))
      (rows_fields (suc node) ns (omega (arith, within)) filed.1 ids.1 texts.1)

-- ---- ids differ

new_row : (id : List ℕ) (rows : List BaseLine) (texts : List LineText) → AreRows rows texts → (IsAmong (text_ids texts) id → ⊥) →
    IsNew id (ids_of rows)
new_row id [] [] are new = All-nil (λ other. id ≡ other → ⊥)
new_row id [] (text ∷ texts) are new = absurd are
new_row id (row ∷ rows) [] are new = absurd are
new_row id (row ∷ rows) (text ∷ texts) are new =
    All-cons (λ other. id ≡ other → ⊥) row.id (ids_of rows) (λ e. new (inl (sym (e ∙ are.0)))) (new_row id rows texts are.2 (λ among. new (inr among)))

-- no id of rows comes again
pub ids_unique : (rows : List BaseLine) (texts : List LineText) → AreRows rows texts → AreApart texts → AreUnique (ids_of rows)
ids_unique [] [] are apart = tt
ids_unique [] (text ∷ texts) are apart = absurd are
ids_unique (row ∷ rows) [] are apart = absurd are
ids_unique (row ∷ rows) (text ∷ texts) are apart =
    (new_row row.id rows texts are.2 (λ among. apart.0 (subst (IsAmong (text_ids texts)) are.0 among)), ids_unique rows texts are.2 apart.1)

-- The nodes of an accepted project: their titles, and their files.
use Rattle.std.proofs.Common.{◌≡◌, ℕ, suc, ◌+◌, ◌<◌, ◌≤◌, List, [], ◌∷◌, ◌++◌, length, map, refl, sym, ap, ◌∙◌, subst, arith, Bool, true, false, All, inl, inr, if◌then◌else◌, length-append}
use Rattle.std.specs.Prelude.{codes}
use Rattle.std.specs.Str.{chars, bytes_eq}
use Rattle.std.proofs.lemmas.List.Elements.{All-nil, All-cons}
use Rattle.yarn_base.specs.declared.SourceFile.{SourceFile}
use Rattle.yarn_base.specs.Name.{is_name_of}
use Rattle.yarn_items.specs.declared.item.Header.{Header}
use Rattle.yarn_nodes.specs.declared.node.FileLines.{FileLines}
use Rattle.yarn_nodes.specs.declared.node.NodeLines.{NodeLines}
use Rattle.yarn_nodes.specs.Entries.{ItemAt}
use Rattle.yarn_nodes.specs.Ids.{HasIds}
use Rattle.yarn_nodes.specs.Laws.{titles_among, IsWellTitled}
use Rattle.yarn_nodes.specs.Titles.{is_title}
use Rattle.yarn_nodes.specs.Lines.{title_in, AreNodes, no_node, first_node, HasLines}
use Rattle.yarn_tree.specs.Laws.{nodes_of, titles, IsAmong, AreDistinct}
use Rattle.yarn_tree.specs.Project.{AllHaveLines}
use Rattle.yarn_tree.specs.Trees.{NodeTree, FileTree, grown_node, grown}
use Rattle.yarn_tree.proofs.SightLemmas.{Fresh, among-left, among-right, distinct-fresh}
use Rattle.yarn_meaning.specs.First.{Placed, nodes_at, nodes_from}
use Rattle.yarn_code.specs.declared.program.Coded.{Coded}
use Rattle.yarn_code.specs.declared.program.CodeNode.{CodeNode}
use Rattle.yarn_code.specs.declared.program.Program.{Program}
use Rattle.yarn_code.specs.Fields.{IsName, IsNew, AreUnique, titles_of}
use Rattle.yarn_compile.specs.Base.{names_of}
use Rattle.yarn_compile.specs.Code.{Terms, end_code, stmts_code, body_code, node_code, nodes_code}
use Rattle.yarn_compile.proofs.Parts.{Each, each_append, each_front, each_back, each_weaker}
use Rattle.yarn_compile.proofs.KnownLines.{EachNode}

-- ---- names that differ

new_from : (done xs : List (List ℕ)) (x : List ℕ) → IsAmong done x → Fresh done xs → IsNew x xs
new_from done [] x among fresh = All-nil (λ other. x ≡ other → ⊥)
new_from done (y ∷ xs) x among fresh =
    All-cons (λ other. x ≡ other → ⊥) y xs (λ e. fresh.0 (subst (IsAmong done) e among)) (new_from (done ++ y ∷ []) xs x (among-left done (y ∷ []) x among) fresh.1)

fresh_unique : (done xs : List (List ℕ)) → Fresh done xs → AreUnique xs
fresh_unique done [] fresh = tt
fresh_unique done (x ∷ xs) fresh =
    (new_from (done ++ x ∷ []) xs x (among-right done (x ∷ []) x (inl refl)) fresh.1, fresh_unique (done ++ x ∷ []) xs fresh.1)

-- names that differ are unique
pub distinct_unique : (xs : List (List ℕ)) → AreDistinct xs → AreUnique xs
distinct_unique xs differ = fresh_unique [] xs (distinct-fresh xs differ)

-- ---- a fact of each node

pub by_file : (P : NodeLines → Type 0) (files : List FileLines) → Each P (nodes_of files) → Each (λ (f : FileLines). Each P f.nodes) files
by_file P [] h = tt
by_file P (f ∷ fs) h = (each_front P f.nodes (nodes_of fs) h, by_file P fs (each_back P f.nodes (nodes_of fs) h))

module _ (P : NodeTree → Type 0) where
  placed_at : (file : ℕ) (ns : List NodeTree) → Each P ns → Each (λ (n : Placed). P n.node) (nodes_at file ns)
  placed_at file [] h = tt
  placed_at file (n ∷ ns) h = (h.0, placed_at file ns h.1)

  pub placed_from : (file : ℕ) (fs : List FileTree) → EachNode P fs → Each (λ (n : Placed). P n.node) (nodes_from file fs)
  placed_from file [] h = tt
  placed_from file (f ∷ fs) h = each_append (λ (n : Placed). P n.node) (nodes_at file f.nodes) (nodes_from (suc file) fs) (placed_at file f.nodes h.0) (placed_from (suc file) fs h.1)

-- what holds of the lines of nodes holds of the trees that they stand for
module _ (P : NodeLines → Type 0) (Q : NodeTree → Type 0) (grows : (n : NodeLines) → P n → Q (grown_node n)) where
  nodes_grown : (ns : List NodeLines) → Each P ns → Each Q (map grown_node ns)
  nodes_grown [] h = tt
  nodes_grown (n ∷ ns) h = (grows n h.0, nodes_grown ns h.1)

  pub files_grown : (files : List FileLines) → Each (λ (f : FileLines). Each P f.nodes) files → EachNode Q (map grown files)
  files_grown [] h = tt
  files_grown (f ∷ files) h = (nodes_grown f.nodes h.0, files_grown files h.1)

-- ---- titles

title_is : (hs : List Header) (value : List ℕ) → titles_among hs ≡ value ∷ [] → title_in hs ≡ value
title_is [] value e = absurd cc
title_is (h ∷ hs) value e = by_test (bytes_eq h.key (codes "title")) e (title_is hs value)
  where
    by_test : (b : Bool) → (if b then h.value ∷ titles_among hs else titles_among hs) ≡ value ∷ [] →
        (titles_among hs ≡ value ∷ [] → title_in hs ≡ value) →
        (if b then h.value else title_in hs) ≡ value
    by_test true f g = cc
    by_test false f g = g f

-- the title is that of the headers
abbrev IsTitled : NodeLines → Type 0
IsTitled n = n.title ≡ title_in n.headers

nodes_titled : {items : List ItemAt} {nodes : List NodeLines} → AreNodes HasIds items nodes → Each IsTitled nodes
nodes_titled no_node = tt
nodes_titled (first_node is more) = (is.title, nodes_titled more)

files_titled : (sources : List SourceFile) (files : List FileLines) → AllHaveLines sources files →
    Each (λ (f : FileLines). Each IsTitled f.nodes) files
files_titled [] [] have = tt
files_titled [] (file ∷ files) have = absurd have
files_titled (source ∷ sources) [] have = absurd have
files_titled (source ∷ sources) (file ∷ files) have = (nodes_titled have.0.is_file.are_nodes, files_titled sources files have.1)

title_named : (n : NodeLines) → IsTitled n → IsWellTitled n → IsName n.title
title_named n is well = subst IsName (sym (is ∙ title_is n.headers well.value well.one)) well.named

each_two : {A : Type 0} (P Q R : A → Type 0) → ((x : A) → P x → Q x → R x) → (xs : List A) → Each P xs → Each Q xs → Each R xs
each_two P Q R f [] p q = tt
each_two P Q R f (x ∷ xs) p q = (f x p.0 q.0, each_two P Q R f xs p.1 q.1)

-- titles of nodes are names
pub titles_named : (sources : List SourceFile) (files : List FileLines) → AllHaveLines sources files → Each IsWellTitled (nodes_of files) →
    EachNode (λ n. IsName n.title) (map grown files)
titles_named sources files have well =
    files_grown (λ (n : NodeLines). IsName n.title) (λ n. IsName n.title) (λ n h. h) files
    (each_two (λ (f : FileLines). Each IsTitled f.nodes) (λ (f : FileLines). Each IsWellTitled f.nodes) (λ (f : FileLines). Each (λ (n : NodeLines). IsName n.title) f.nodes)
    (λ f p q. each_two IsTitled IsWellTitled (λ (n : NodeLines). IsName n.title) title_named f.nodes p q)
    files (files_titled sources files have) (by_file IsWellTitled files well))

module _ (terms : Terms) where
  titles_at : (file : ℕ) (ns more : List NodeLines) (behind : List Placed) → titles_of (map (node_code terms) behind) ≡ titles more →
      titles_of (map (node_code terms) (nodes_at file (map grown_node ns) ++ behind)) ≡ titles (ns ++ more)
  titles_at file [] more behind e = e
  titles_at file (n ∷ ns) more behind e = ap (λ (l : List (List ℕ)). n.title ∷ l) (titles_at file ns more behind e)

  titles_from : (file : ℕ) (files : List FileLines) → titles_of (map (node_code terms) (nodes_from file (map grown files))) ≡ titles (nodes_of files)
  titles_from file [] = refl
  titles_from file (f ∷ files) = titles_at file f.nodes (nodes_of files) (nodes_from (suc file) (map grown files)) (titles_from (suc file) files)

  -- no title of code comes again
  pub titles_unique : (files : List FileLines) → AreDistinct (titles (nodes_of files)) → AreUnique (titles_of (nodes_code terms (map grown files)))
  titles_unique files differ = subst AreUnique (sym (titles_from 0 files)) (distinct_unique (titles (nodes_of files)) differ)

-- ---- files

pub names_length : (files : List FileTree) → length (names_of files) ≡ length files
names_length [] = refl
names_length (f ∷ files) = ap suc (names_length files)

filed_at : (most file : ℕ) (ns : List NodeTree) → file < most → Each (λ (n : Placed). n.file < most) (nodes_at file ns)
filed_at most file [] h = tt
filed_at most file (n ∷ ns) h = (h, filed_at most file ns h)

-- the files of nodes are files of the project
pub filed_from : (most file : ℕ) (files : List FileTree) → file + length files ≤ most → Each (λ (n : Placed). n.file < most) (nodes_from file files)
filed_from most file [] h = tt
filed_from most file (f ∷ files) h =
    each_append (λ (n : Placed). n.file < most) (nodes_at file f.nodes) (nodes_from (suc file) files)
    (filed_at most file f.nodes (omega (arith, h))) (filed_from most (suc file) files (omega (arith, h)))

-- ---- code

pub body_some : (terms : Terms) (n : NodeTree) → 1 ≤ length (body_code terms n)
body_some terms n = omega (arith, length-append (stmts_code terms n.title 0 n.body) (end_code terms n.title n.end_line))

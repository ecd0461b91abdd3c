-- The kinds of the variables and of the counts in a store: they hold at the start, and each value that is put keeps them.
use Rattle.std.proofs.Common.{◌≡◌, ℕ, suc, Bool, true, false, if◌then◌else◌, List, [], ◌∷◌, nat_eq, Some, All, sym, ◌∙◌, subst}
use Rattle.std.specs.Cmp.Lexicographic.{pointwise}
use Rattle.yarn_value.specs.declared.value.Value.{Value}
use Rattle.yarn_value.specs.declared.value.Kind.{Kind}
use Rattle.yarn_value.specs.declared.value.Kind.TheVariants as kind
use Rattle.yarn_value.specs.Values.{kind_of}
use Rattle.yarn_value.specs.Pairs.{Pairs, put}
use Rattle.yarn_value.specs.Visits.{count_name}
use Rattle.yarn_tree.specs.Trees.{NodeTree, FileTree}
use Rattle.yarn_types.specs.declared.typed.TypedName.{TypedName}
use Rattle.yarn_code.specs.Kinds.{HasKind}
use Rattle.yarn_meaning.specs.First.{Placed, nodes_at, nodes_from, first_titled, find}
use Rattle.yarn_kinds.specs.Kept.{IsSound, titles_within, titles_of}
use Rattle.yarn_kinds.proofs.Fitting as fitting
use Rattle.yarn_kinds.proofs.Names.{Each, each_append, each_front, each_back, from_all}
use Rattle.yarn_kinds.proofs.Stores.{put_kind}
use Rattle.yarn_compile.specs.Code.{Terms}
use Rattle.yarn_compile.proofs.Texts.{AreTexts}
use Rattle.yarn_compile.proofs.Sound.{FitsAll, fit_all}

-- ---- a value that is put

-- two kinds of one name
one_kind : (store : Pairs) (name other : List ℕ) (a b : Kind) → HasKind store name a → HasKind store other b → other ≡ name → a ≡ b
one_kind store name other a b ha hb e =
    let same : Some a ≡ Some b = sym ha ∙ (subst (λ x. HasKind store x b) e hb) in
    cc

module _ (entries : List TypedName) (titles : List (List ℕ)) where
  pub puts : (store : Pairs) (name : List ℕ) (v : Value) → IsSound entries titles store → HasKind store name (kind_of v) →
      IsSound entries titles (put store name v)
  puts store name v sound k = record {
    keeps = λ other j e. put_kind name v store other j (one_kind store name other (kind_of v) j k (sound.keeps other j e)) (sound.keeps other j e);
    counts = λ i d inside. put_kind name v store (count_name _) kind.Number
        (one_kind store name (count_name _) (kind_of v) kind.Number k (sound.counts i d inside)) (sound.counts i d inside);
  }

-- ---- a node that is found

-- what holds of each node, holds of one that is found
pub each_titled : (P : Placed → Type 0) (title : List ℕ) (ns : List Placed) (node : Placed) → Each P ns → first_titled title ns ≡ Some node → P node
each_titled P title [] node h e = cc
each_titled P title (x ∷ ns) node h e = by_title (pointwise nat_eq x.node.title title) e (λ e1. each_titled P title ns node h.1 e1)
  where
    by_title : (b : Bool) → (if b then Some x else first_titled title ns) ≡ Some node → (first_titled title ns ≡ Some node → P node) → P node
    by_title true e' more = let same : x ≡ node = cc in subst P same h.0
    by_title false e' more = more e'

-- the counts of all nodes are numbers
abbrev Counted : Pairs → Placed → Type 0
Counted store n = HasKind store (count_name n.node.title) kind.Number

abbrev CountNamed : Pairs → List ℕ → Type 0
CountNamed store title = HasKind store (count_name title) kind.Number

counted_at : (store : Pairs) (file : ℕ) (ns : List NodeTree) → Each (CountNamed store) (titles_within ns) → Each (Counted store) (nodes_at file ns)
counted_at store file [] h = tt
counted_at store file (n ∷ ns) h = (h.0, counted_at store file ns h.1)

counted_from : (store : Pairs) (file : ℕ) (files : List FileTree) → Each (CountNamed store) (titles_of files) →
    Each (Counted store) (nodes_from file files)
counted_from store file [] h = tt
counted_from store file (f ∷ files) h =
    each_append (Counted store) (nodes_at file f.nodes) (nodes_from (suc file) files)
    (counted_at store file f.nodes (each_front (CountNamed store) (titles_within f.nodes) (titles_of files) h))
    (counted_from store (suc file) files (each_back (CountNamed store) (titles_within f.nodes) (titles_of files) h))

pub counts_node : (entries : List TypedName) (files : List FileTree) (store : Pairs) → IsSound entries (titles_of files) store →
    (title : List ℕ) (node : Placed) →
    find title files ≡ Some node → HasKind store (count_name node.node.title) kind.Number
counts_node entries files store sound title node e =
    each_titled (Counted store) title (nodes_from 0 files) node
    (counted_from store 0 files (from_all (CountNamed store) (titles_of files) sound.counts)) e

-- ---- files that fit

-- the texts of a node's body are templates
abbrev pub PlacedTexts : Placed → Type 0
PlacedTexts n = AreTexts n.node.body

module _ (terms : Terms) where
  abbrev NodeFits : NodeTree → Type 0
  NodeFits node = fitting.FitsAll terms.signatures terms.entries node.body

  abbrev PlacedNodeFits : Placed → Type 0
  PlacedNodeFits n = fitting.FitsAll terms.signatures terms.entries n.node.body

  abbrev PlacedFits : Placed → Type 0
  PlacedFits n = FitsAll terms n.node.body

  placed_at : (file : ℕ) (ns : List NodeTree) → Each NodeFits ns → Each PlacedNodeFits (nodes_at file ns)
  placed_at file [] h = tt
  placed_at file (n ∷ ns) h = (h.0, placed_at file ns h.1)

  placed_from : (file : ℕ) (files : List FileTree) → Each (λ (f : FileTree). All NodeFits f.nodes) files → Each PlacedNodeFits (nodes_from file files)
  placed_from file [] h = tt
  placed_from file (f ∷ files) h =
      each_append PlacedNodeFits (nodes_at file f.nodes) (nodes_from (suc file) files) (placed_at file f.nodes (from_all NodeFits f.nodes h.0))
      (placed_from (suc file) files h.1)

  with_texts : (ns : List Placed) → Each PlacedNodeFits ns → Each PlacedTexts ns → Each PlacedFits ns
  with_texts [] h texts = tt
  with_texts (n ∷ ns) h texts = (fit_all terms n.node.body h.0 texts.0, with_texts ns h.1 texts.1)

  pub fits_node : (files : List FileTree) → fitting.FitsFiles terms.signatures terms.entries files → All PlacedTexts (nodes_from 0 files) →
      (title : List ℕ) (node : Placed) → find title files ≡ Some node →
      FitsAll terms node.node.body
  fits_node files fits texts title node e =
      each_titled PlacedFits title (nodes_from 0 files) node
      (with_texts (nodes_from 0 files) (placed_from 0 files (from_all (λ (f : FileTree). All NodeFits f.nodes) files fits))
      (from_all PlacedTexts (nodes_from 0 files) texts)) e

-- A map from titles that has one more node at the front.
use Rattle.std.proofs.Common.{◌≡◌, ℕ, suc, map, Bool, true, false, cond, List, [], ◌∷◌, ◌++◌, length, append_assoc, arith, sym, Option, Some, refl, ap, ◌∙◌, subst, Bor}
use Rattle.std.specs.BTreeMap.{BTreeMap, UpdatesBy, get_by}
use Rattle.std.specs.Bool.{nat_eq}
use Rattle.std.specs.Cmp.Lexicographic.{slice_cmp, pointwise}
use Rattle.std.specs.List.{push}
use Rattle.std.specs.Option.{option_map}
use Rattle.std.specs.Ordering.{nat_cmp}
use Rattle.std.proofs.lemmas.List.{length_push}
use Rattle.std.proofs.lemmas.Map.Text.{btree_map_updates_str}
use Rattle.yarn_tree.specs.declared.tree.File.{File}
use Rattle.yarn_tree.specs.declared.tree.Node.{Node}
use Rattle.yarn_tree.specs.Trees.{NodeTree, node_tree, file_tree}
use Rattle.yarn_meaning.specs.First.{Placed, nodes_at, nodes_from, first_titled}
use Rattle.yarn_walker.specs.Titles.{placed, Finds, PutsBefore}
use Rattle.yarn_walker.specs.declared.titles.NodeAt.{NodeAt}

one_more : (is : Bool) (node : NodeAt) (o : Option NodeAt) (p : Option Placed) → option_map placed o ≡ p →
    option_map placed (cond is (Some node) o) ≡ cond is (Some (placed node)) p
one_more true node o p e = refl
one_more false node o p e = e

Finds-more : (m n : BTreeMap (Bor (List ℕ)) NodeAt) (key : Bor (List ℕ)) (node : NodeAt) (later : List Placed) → key.now ≡ node.node.now.title →
    UpdatesBy (λ x y. slice_cmp nat_cmp x.now y.now) (λ k. slice_cmp nat_cmp key.now k.now) m n (Some node) →
    Finds m later → Finds n (placed node ∷ later)
Finds-more m n key node later is updates finds q =
    ap (option_map placed) (btree_map_updates_str key.now m n (Some node) updates q)
    ∙ one_more (pointwise nat_eq key.now q) node (get_by (λ k. slice_cmp nat_cmp q k.now) m) (first_titled q later) (finds q)
    ∙ ap (λ title. cond (pointwise nat_eq title q) (Some (placed node)) (first_titled q later)) is

nodes_at-append : (file : ℕ) (xs ys : List NodeTree) → nodes_at file (xs ++ ys) ≡ nodes_at file xs ++ nodes_at file ys
nodes_at-append file [] ys = refl
nodes_at-append file (n ∷ xs) ys = ap (λ l. record { node = n; file = file } ∷ l) (nodes_at-append file xs ys)

-- the nodes of a file behind a place are put into the map
pub record PutsRest (old new : BTreeMap (Bor (List ℕ)) NodeAt) (file : ℕ) (all before : List Node) : Type 0 where
  pub done : List Node
  pub split : before ++ done ≡ all
  pub puts : PutsBefore old new (nodes_at file (map node_tree done))

pub PutsRest-step : (old m n : BTreeMap (Bor (List ℕ)) NodeAt) (key : Bor (List ℕ)) (file : ℕ) (node : Bor Node) (all before fewer : List Node) →
    PutsRest old m file all before → before ≡ push fewer node.now → key.now ≡ node.now.title →
    UpdatesBy (λ x y. slice_cmp nat_cmp x.now y.now) (λ k. slice_cmp nat_cmp key.now k.now) m n (Some (record { node = node; file = file })) →
    PutsRest old n file all fewer
PutsRest-step old m n key file node all before fewer so_far e is updates = record {
  done = node.now ∷ so_far.done;
  split = sym (append_assoc fewer (node.now ∷ []) so_far.done) ∙ ap (λ l. l ++ so_far.done) (sym e) ∙ so_far.split;
  puts = λ later finds. Finds-more m n key (record { node = node; file = file }) (nodes_at file (map node_tree so_far.done) ++ later) is updates (so_far.puts later finds);
}

pub PutsRest-all : (old new : BTreeMap (Bor (List ℕ)) NodeAt) (file : ℕ) (all before : List Node) → PutsRest old new file all before → length before ≡ 0 →
    PutsBefore old new (nodes_at file (map node_tree all))
PutsRest-all old new file all [] so_far e = subst (λ l. PutsBefore old new (nodes_at file (map node_tree l))) so_far.split so_far.puts
PutsRest-all old new file all (node ∷ before) so_far e = absurd (omega arith)

-- the files behind a place stand in the map
pub record FindsRest (m : BTreeMap (Bor (List ℕ)) NodeAt) (all before : List File) : Type 0 where
  pub later : List File
  pub split : before ++ later ≡ all
  pub finds : Finds m (nodes_from (length before) (map file_tree later))

pub FindsRest-step : (m n : BTreeMap (Bor (List ℕ)) NodeAt) (file : File) (nodes : List Node) (all before fewer : List File) (at : ℕ) →
    FindsRest m all before → before ≡ push fewer file → at ≡ length fewer → nodes ≡ file.nodes → PutsBefore m n (nodes_at at (map node_tree nodes)) → FindsRest n all fewer
FindsRest-step m n file nodes all before fewer at so_far e place own puts = record {
  later = file ∷ so_far.later;
  split = sym (append_assoc fewer (file ∷ []) so_far.later) ∙ ap (λ l. l ++ so_far.later) (sym e) ∙ so_far.split;
  finds = rw (sym place, sym own) (puts (nodes_from (suc at) (map file_tree so_far.later)) (rw one_less (so_far.finds)));
}
  where
    one_less : suc at ≡ length before
    one_less = ap suc place ∙ omega (arith, length_push fewer file) ∙ ap length (sym e)

pub FindsRest-all : (m : BTreeMap (Bor (List ℕ)) NodeAt) (all before : List File) → FindsRest m all before → before ≡ [] → Finds m (nodes_from 0 (map file_tree all))
FindsRest-all m all before so_far e = subst (λ l. Finds m (nodes_from 0 (map file_tree l))) (ap (λ l. l ++ so_far.later) (sym e) ∙ so_far.split) (subst (λ l. Finds m (nodes_from (length l) (map file_tree so_far.later))) e so_far.finds)

-- What the map from titles holds: the nodes of the files, as the meaning has them.
use Rattle.std.specs.Prelude.{◌≡◌, ℕ, List, ◌++◌, map, option_map}
use Rattle.std.specs.Borrow.{Bor}
use Rattle.std.specs.BTreeMap.{BTreeMap, get_by}
use Rattle.std.specs.Cmp.Lexicographic.{slice_cmp}
use Rattle.std.specs.Ordering.{nat_cmp}
use Rattle.yarn_tree.specs.Trees.{node_tree, file_tree}
use Rattle.yarn_meaning.specs.First.{Placed, nodes_from, first_titled}
use Rattle.yarn_walker.specs.declared.titles.NodeAt.{NodeAt}
use Rattle.yarn_walker.specs.declared.titles.Titles.{Titles}

abbrev pub placed : NodeAt → Placed
placed n = record { node = node_tree n.node.now; file = n.file }

-- the map finds the first of these nodes by its title
abbrev pub Finds : BTreeMap (Bor (List ℕ)) NodeAt → List Placed → Type 0
Finds m nodes = (title : List ℕ) → option_map placed (get_by (λ k. slice_cmp nat_cmp title k.now) m) ≡ first_titled title nodes

-- the nodes are put before those that the map has
abbrev pub PutsBefore : BTreeMap (Bor (List ℕ)) NodeAt → BTreeMap (Bor (List ℕ)) NodeAt → List Placed → Type 0
PutsBefore old new nodes = (later : List Placed) → Finds old later → Finds new (nodes ++ later)

-- the nodes of all files are found
abbrev pub HasAll : Titles → Type 0
HasAll titles = Finds titles.first (nodes_from 0 (map file_tree titles.files.now))

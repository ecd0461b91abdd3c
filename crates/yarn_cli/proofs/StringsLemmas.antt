-- The names of a project's files and the titles of its nodes, and that its rows are among them.
use Rattle.std.proofs.Common.{◌≡◌, ℕ, suc, ◌<◌, List, [], ◌∷◌, ◌++◌, length, map, refl, sym, ap, subst, ◌∙◌, arith}
use Rattle.std.specs.List.{All}
use Rattle.std.proofs.lemmas.List.{append_assoc, length-map, map-append}
use Rattle.std.proofs.lemmas.List.Elements.{All-nil, All-cons, All-head, All-tail}
use Rattle.yarn_value.specs.declared.base.BaseLine.{BaseLine}
use Rattle.yarn_tree.specs.declared.tree.File.{File}
use Rattle.yarn_tree.specs.Trees.{NodeTree, FileTree, node_tree, file_tree}
use Rattle.yarn_meaning.specs.First.{Placed, nodes_at, nodes_from}
use Rattle.yarn_ids.specs.Base.{base_rows}
use Rattle.yarn_ids.specs.BaseLaws.{IsInRange}
use Rattle.yarn_ids.proofs.RangeLemmas.{rows-are_in_range}
use Rattle.yarn_table.specs.Written.{IsWithin}
use Rattle.yarn_cli.specs.Strings.{file_names, node_titles}

abbrev title_at : Placed → List ℕ
title_at placed = placed.node.title

abbrev title_in : NodeTree → List ℕ
title_in node = node.title

at-titles : (file : ℕ) (nodes : List NodeTree) → map title_at (nodes_at file nodes) ≡ map title_in nodes
at-titles file [] = refl
at-titles file (n ∷ nodes) = ap (λ l. n.title ∷ l) (at-titles file nodes)

-- the titles of one more file behind those that were put
pub titles-more : (titles longer : List (List ℕ)) (index next : ℕ) (file : File) (rest : List File) → next ≡ suc index →
    longer ≡ titles ++ map (λ node. node.title) (map node_tree file.nodes) →
    longer ++ map (λ placed. placed.node.title) (nodes_from next (map file_tree rest))
    ≡ titles ++ map (λ placed. placed.node.title) (nodes_from index (map file_tree (file ∷ rest)))
titles-more titles longer index next file rest step is =
    let later = nodes_from next (map file_tree rest) in
    let own = nodes_at index (map node_tree file.nodes) in
    ap (λ l. l ++ map title_at later) is
    ∙ append_assoc titles (map title_in (map node_tree file.nodes)) (map title_at later)
    ∙ ap (λ l. titles ++ l) (ap (λ l. l ++ map title_at later) (sym (at-titles index (map node_tree file.nodes))) ∙ sym (map-append title_at own later))
    ∙ ap (λ k. titles ++ map title_at (own ++ nodes_from k (map file_tree rest))) step

all-within : (files nodes : List (List ℕ)) (m n : ℕ) (base : List BaseLine) → m ≡ length files → n ≡ length nodes →
    All (IsInRange m n) base → All (IsWithin (files, nodes)) base
all-within files nodes m n [] f g are = All-nil (IsWithin (files, nodes))
all-within files nodes m n (line ∷ base) f g are =
    let first = All-head (IsInRange m n) line base are in
    All-cons (IsWithin (files, nodes)) line base
    (subst (λ k. line.file < k) f first.file, subst (λ k. line.node < k) g first.node)
    (all-within files nodes m n base f g (All-tail (IsInRange m n) line base are))

-- each row's file and node are among these
pub rows_within : (trees : List FileTree) (files nodes : List (List ℕ)) (base : List BaseLine) →
    files ≡ file_names trees → nodes ≡ node_titles trees → base ≡ base_rows trees → All (IsWithin (files, nodes)) base
rows_within trees files nodes base files_are nodes_are base_is =
    subst (λ (l : List BaseLine). All (IsWithin (files, nodes)) l) (sym base_is)
    (all-within files nodes (length trees) (length (nodes_from 0 trees)) (base_rows trees)
    (sym (ap length files_are ∙ length-map trees (λ file. file.name)))
    (sym (ap length nodes_are ∙ length-map (nodes_from 0 trees) title_at))
    (rows-are_in_range trees))

use Rattle.std.proofs.Common.{◌≡◌, ◌++◌, map, drop}
use Rattle.yarn_tree.specs.Trees.{file_tree}
use Rattle.yarn_meaning.specs.First.{nodes_from}
use Rattle.yarn_cli.specs.Strings.{node_titles}
use Rattle.yarn_cli.proofs.strings.titles_of.Given as goal

abbrev pub invariant-loop-file : goal.invariant-loop-file
invariant-loop-file l =
    l.titles ++ map (λ placed. placed.node.title) (nodes_from l.file-index (map file_tree (drop l.file-index l.files))) ≡ node_titles (map file_tree l.files)

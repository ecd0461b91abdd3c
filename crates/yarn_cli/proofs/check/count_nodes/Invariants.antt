use Rattle.std.proofs.Common.{◌≡◌, ◌+◌, map, drop}
use Rattle.yarn_tree.specs.Trees.{file_tree}
use Rattle.yarn_cli.specs.Check.{nodes_in}
use Rattle.yarn_cli.proofs.check.count_nodes.Given as goal

abbrev pub invariant-loop-file : goal.invariant-loop-file
invariant-loop-file l = l.count + nodes_in (map file_tree (drop l.file-index l.files)) ≡ nodes_in (map file_tree l.files)

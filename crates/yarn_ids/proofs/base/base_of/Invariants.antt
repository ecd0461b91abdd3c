use Rattle.std.proofs.Common.{◌≡◌, ◌++◌, map, drop}
use Rattle.yarn_tree.specs.Trees.{file_tree}
use Rattle.yarn_meaning.specs.First.{nodes_from}
use Rattle.yarn_ids.specs.Base.{rows_from, base_rows}
use Rattle.yarn_ids.proofs.base.base_of.Given as goal

abbrev pub invariant-loop-own : goal.invariant-loop-own
invariant-loop-own l =
    l.rows.items ++ rows_from l.node (nodes_from l.file (map file_tree (drop l.own-index l.project.files))) ≡ base_rows (map file_tree l.project.files)

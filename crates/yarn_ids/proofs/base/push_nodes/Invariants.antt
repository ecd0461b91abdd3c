use Rattle.std.proofs.Common.{◌≡◌, ◌+◌, ◌++◌, map, drop}
use Rattle.yarn_tree.specs.Trees.{node_tree}
use Rattle.yarn_meaning.specs.First.{nodes_at}
use Rattle.yarn_ids.specs.Base.{rows_from}
use Rattle.yarn_ids.proofs.base.push_nodes.Given as goal

abbrev pub invariant-loop-node : goal.invariant-loop-node
invariant-loop-node l = record {
  place : l.place ≡ l.first + l.node-index;
  rows : l.rows.items ++ rows_from l.place (nodes_at l.file (map node_tree (drop l.node-index l.nodes)))
      ≡ l.fn.rows.items ++ rows_from l.first (nodes_at l.file (map node_tree l.nodes));
}

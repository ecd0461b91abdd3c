use Rattle.std.proofs.Common.{◌≡◌, ◌≤◌, length, drop, take}
use Rattle.yarn_check.specs.Pass.{walk as walk_of, beginning}
use Rattle.yarn_check.specs.Views.{cells_of, walked_from}
use Rattle.yarn_check.proofs.node_walk.walk.Given as goal

abbrev pub invariant-loop-place : goal.invariant-loop-place
invariant-loop-place l = record {
  long : length l.cells.items ≡ length l.code;
  rest : walked_from l.end (walk_of l.names (drop l.place (take l.end l.code)) l.place (cells_of l.cells.items)) ≡ walked_from l.end (walk_of l.names (take l.end l.code) 0 (beginning (length l.code)));
}

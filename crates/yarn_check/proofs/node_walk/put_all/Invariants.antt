use Rattle.std.proofs.Common.{◌≡◌, map, length}
use Rattle.std.specs.Vec.Iter.{into_iter_items}
use Rattle.yarn_check.specs.Pass.{put_all as put_all_of}
use Rattle.yarn_check.specs.Views.{cells_of, goal_of}
use Rattle.yarn_check.proofs.node_walk.put_all.Given as goal

abbrev pub invariant-loop-goal : goal.invariant-loop-goal
invariant-loop-goal l = record {
  whole : put_all_of l.place (map goal_of (into_iter_items l.goal-iterator)) (cells_of l.cells.items) ≡ put_all_of l.place (map goal_of l.fn.goals.items) (cells_of l.fn.cells.items);
  count : length l.cells.items ≡ length l.fn.cells.items;
}

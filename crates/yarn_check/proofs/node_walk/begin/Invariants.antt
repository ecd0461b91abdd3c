use Rattle.std.proofs.Common.{◌≡◌, ◌<◌, length}
use Rattle.yarn_check.specs.Pass.{beginning}
use Rattle.yarn_check.specs.Views.{cells_of}
use Rattle.yarn_check.proofs.node_walk.begin.Given as goal

abbrev pub invariant-loop : goal.invariant-loop
invariant-loop l = record {
  positive : 0 < l.counter;
  count : length l.cells.items ≡ l.counter;
  whole : cells_of l.cells.items ≡ beginning l.counter;
}

use Rattle.std.proofs.Common.{◌≤◌, ◌+◌, drop, map, sum}
use Rattle.yarn_types.specs.Classes.{Halfway}
use Rattle.yarn_types.specs.Fits.{node_count}
use Rattle.yarn_types.specs.Founds.{args_under}
use Rattle.yarn_types.proofs.+find.Given as goal

abbrev pub invariant-expression::find_args-loop-at : goal.invariant-expression::find_args-loop-at
invariant-expression::find_args-loop-at g l = record {
  half : Halfway l.fn.classes l.classes (args_under l.scope l.params l.args) (args_under l.scope (drop l.at l.params) (drop l.at l.args));
  steps : l.steps + sum (map node_count (drop l.at l.args)) ≤ l.fn.steps + sum (map node_count l.args);
}

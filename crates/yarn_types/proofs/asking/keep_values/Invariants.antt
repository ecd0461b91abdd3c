use Rattle.std.proofs.Common.{◌≤◌, ◌+◌, drop, map, sum}
use Rattle.yarn_types.specs.Classes.{Halfway}
use Rattle.yarn_types.specs.Fits.{node_count}
use Rattle.yarn_types.specs.Stops.{has_kinds}
use Rattle.yarn_types.proofs.asking.keep_values.Given as goal

abbrev pub invariant-loop-expr : goal.invariant-loop-expr
invariant-loop-expr g l = record {
  half : Halfway l.fn.classes l.classes (has_kinds l.scope l.exprs) (has_kinds l.scope (drop l.expr-index l.exprs));
  steps : l.steps + sum (map node_count (drop l.expr-index l.exprs)) ≤ l.fn.steps + sum (map node_count l.exprs);
}

use Rattle.std.proofs.Common.{◌≡◌, drop}
use Rattle.yarn_types.specs.Names.{with_all}
use Rattle.yarn_types.specs.Units.{names_in_all, at_place}
use Rattle.yarn_types.proofs.collection.+collect.Given as goal

abbrev pub invariant-with_exprs-loop-expr : goal.invariant-with_exprs-loop-expr
invariant-with_exprs-loop-expr l = with_all l.names (at_place l.place (names_in_all (drop l.expr-index l.exprs))) ≡ with_all l.fn.names (at_place l.place (names_in_all l.exprs))

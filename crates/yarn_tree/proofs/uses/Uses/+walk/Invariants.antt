use Rattle.std.proofs.Common.{◌≡◌, ◌++◌, drop}
use Rattle.yarn_tree.specs.Uses.{uses_of_all, at_place}
use Rattle.yarn_tree.proofs.uses.Uses.+walk.Given as goal

abbrev pub invariant-add_exprs-loop-expr : goal.invariant-add_exprs-loop-expr
invariant-add_exprs-loop-expr l =
    l.self ++ at_place l.place (uses_of_all (drop l.expr-index l.exprs)) ≡ l.fn.self ++ at_place l.place (uses_of_all l.exprs)

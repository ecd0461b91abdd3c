use Rattle.std.proofs.Common.{[], ◌∷◌, ◌∙◌, ap, length}
use Rattle.yarn_tree.specs.Uses.{Function, uses_of, uses_of_all, at_place}
use Rattle.yarn_tree.proofs.UsesLemmas.{of_binary, of_call, parts-ok, part-step, expr-parts}
use Rattle.yarn_tree.proofs.uses.Uses.+walk.Goals as goal

pub add_expr-returns-in_ok-add_expr-in-Binary : goal.add_expr-returns-in_ok-add_expr-in-Binary
add_expr-returns-in_ok-add_expr-in-Binary t c =
    parts-ok c.add_expr-in-Binary-2.result c.args.place c.args.self.now c.add_expr-in-Binary.new.self c.add_expr-in-Binary-2.new.self
    (uses_of c.in-Binary.left) (uses_of c.in-Binary.right) (uses_of c.args.expr.now)
    (ap uses_of c.in-Binary.is ∙ of_binary c.in-Binary.field-0 c.in-Binary.left c.in-Binary.right)
    (rw c.get-in-Binary.ensures at c.in_ok-add_expr-in-Binary.ensures) (rw c.get-in-Binary-2.ensures at c.add_expr-in-Binary-2.ensures)

pub add_expr-returns-in_ok-add-in-Call : goal.add_expr-returns-in_ok-add-in-Call
add_expr-returns-in_ok-add-in-Call t c =
    parts-ok c.add_exprs.result c.args.place c.args.self.now c.add-in-Call.new.self c.add_exprs.new.self
    (Function c.in-Call.name (length c.in-Call.arguments) ∷ []) (uses_of_all c.in-Call.arguments) (uses_of c.args.expr.now)
    (ap uses_of c.in-Call.is ∙ of_call c.in-Call.name c.in-Call.arguments)
    (rw c.len.ensures at c.in_ok-add-in-Call.ensures) (rw c.as_slice.ensures at c.add_exprs.ensures)

pub add_exprs-loop-expr-preserved : goal.add_exprs-loop-expr-preserved
add_exprs-loop-expr-preserved t c =
    part-step (λ e. at_place c.args.place (uses_of e)) (λ es. at_place c.args.place (uses_of_all es)) (expr-parts c.args.place)
    c.args.exprs.now c.loop-expr.expr-index c.expr-item.result c.loop-expr.self c.add_expr.new.self _
    c.loop-expr-test.true c.expr-item.is c.in_ok-add_expr.ensures c.loop-expr.invariant

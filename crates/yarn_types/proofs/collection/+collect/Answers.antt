use Rattle.std.proofs.Common.{ap, sym, ◌∙◌, ◌+◌, drop}
use Rattle.yarn_types.specs.Names.{with_all}
use Rattle.yarn_types.specs.Units.{names_in_all, at_place}
use Rattle.yarn_types.proofs.NameLemmas.{with_binary, with_call, exprs_on}
use Rattle.yarn_types.proofs.collection.+collect.Goals as goal

pub with_expr-returns-in_ok-names-in-Binary : goal.with_expr-returns-in_ok-names-in-Binary
with_expr-returns-in_ok-names-in-Binary t c = with_binary c.with_expr-in-Binary-2.result c.args.names c.in_ok-names-in-Binary.names c.args.place c.args.expr.now c.in-Binary.field-0 c.in-Binary.left c.in-Binary.right c.in-Binary.is
    (rw c.get-in-Binary.ensures at c.in_ok-names-in-Binary.ensures) (rw c.get-in-Binary-2.ensures at c.with_expr-in-Binary-2.ensures)

pub with_expr-returns-in-Call : goal.with_expr-returns-in-Call
with_expr-returns-in-Call t c = with_call c.with_exprs.result c.args.names c.args.place c.args.expr.now c.in-Call.field-0 c.in-Call.args c.in-Call.is (rw c.as_slice.ensures at c.with_exprs.ensures)

pub with_exprs-loop-expr-preserved : goal.with_exprs-loop-expr-preserved
with_exprs-loop-expr-preserved t c =
    ap (λ known. with_all known (at_place c.args.place (names_in_all (drop (c.loop-expr.expr-index + 1) c.args.exprs.now)))) c.in_ok-names.ensures
    ∙ sym (exprs_on c.args.exprs.now c.loop-expr.expr-index c.expr-item.result c.args.place c.loop-expr.names c.loop-expr-test.true c.expr-item.is) ∙ c.loop-expr.invariant

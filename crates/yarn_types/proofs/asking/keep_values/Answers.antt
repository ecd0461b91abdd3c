use Rattle.std.proofs.Common.{arith, is_some}
use Rattle.yarn_types.specs.Fits.{node_count}
use Rattle.yarn_types.specs.Founds.{kind_under}
use Rattle.yarn_types.proofs.Narrowing.{at_error}
use Rattle.yarn_types.proofs.AskingLemmas.{each_on, each_stops, each_ends, sum_next}
use Rattle.yarn_types.proofs.asking.keep_values.Goals as goal

pub loop-expr-preserved : goal.loop-expr-preserved
loop-expr-preserved g c = record {
  half = each_on (λ e t. is_some (kind_under c.args.scope.now e t)) c.args.exprs.now c.args.classes.now c.loop-expr.classes c.keep_value.new.classes c.loop-expr.expr-index c.expr-item.result c.loop-expr-test.true c.expr-item.is c.loop-expr.invariant.half c.in_ok-keep_value.ensures.ok;
  steps = omega (arith, c.in_ok-keep_value.ensures.steps, c.loop-expr.invariant.steps, sum_next node_count c.args.exprs.now c.loop-expr.expr-index c.expr-item.result c.loop-expr-test.true c.expr-item.is);
}

pub returns-in_err-keep_value-clause-err : goal.returns-in_err-keep_value-clause-err
returns-in_err-keep_value-clause-err g c =
    at_error c.from_residual.result (each_stops (λ e t. is_some (kind_under c.args.scope.now e t)) c.args.exprs.now c.args.classes.now c.loop-expr.classes c.loop-expr.classes c.loop-expr.expr-index c.expr-item.result c.loop-expr-test.true c.expr-item.is c.loop-expr.invariant.half c.in_err-keep_value.ensures.err)

pub returns-in_err-keep_value-clause-steps : goal.returns-in_err-keep_value-clause-steps
returns-in_err-keep_value-clause-steps g c = omega (arith, c.in_err-keep_value.ensures.steps, c.loop-expr.invariant.steps, sum_next node_count c.args.exprs.now c.loop-expr.expr-index c.expr-item.result c.loop-expr-test.true c.expr-item.is)

pub returns-clause-ok : goal.returns-clause-ok
returns-clause-ok g c = each_ends (λ e t. is_some (kind_under c.args.scope.now e t)) c.args.exprs.now c.args.classes.now c.loop-expr.classes c.loop-expr.expr-index c.loop-expr-test.false c.loop-expr.invariant.half

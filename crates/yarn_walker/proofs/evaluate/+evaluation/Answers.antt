use Rattle.std.proofs.Common.{◌≡◌, ◌+◌, drop, [], ◌∷◌, ◌++◌, ◌∙◌, sym, ap, Err, arith}
use Rattle.std.proofs.lemmas.Grind.{common_steps}
use Rattle.std.proofs.lemmas.Result.{err_from_is_err_and}
use Rattle.yarn_meaning.specs.Eval.{eval_all}
use Rattle.yarn_walker.specs.States.{no_hosts}
use Rattle.yarn_walker.proofs.EvaluateLemmas.{call-halted, call-made, behind, behind-item}
use Rattle.yarn_walker.proofs.evaluate.+evaluation.Goals as goal

pub evaluate-returns-in_err-values-in-Call : goal.evaluate-returns-in_err-values-in-Call
evaluate-returns-in_err-values-in-Call t c =
    let returned = c.from_residual-in_err-values-in-Call.result in
    let p = err_from_is_err_and returned c.from_residual-in_err-values-in-Call.ensures.1 in
    call-halted c.args.store.now c.args.expr.now c.in-Call.name c.in-Call.args c.as_slice.result.now returned _
    c.in-Call.is c.as_slice.ensures (p.1 ∙ ap (λ e. Err e) p.2) c.in_err-values-in-Call.ensures

pub evaluate-returns-in_ok-values-in-Call : goal.evaluate-returns-in_ok-values-in-Call
evaluate-returns-in_ok-values-in-Call t c =
    call-made c.args.store.now c.args.expr.now c.in-Call.name c.in-Call.args c.as_slice.result.now c.in_ok-values-in-Call.values
    c.as_slice-in-Call.result.now c.call.result c.in-Call.is c.as_slice.ensures c.in_ok-values-in-Call.ensures c.as_slice-in-Call.ensures c.call.ensures

pub evaluate_all-loop-expr-preserved : goal.evaluate_all-loop-expr-preserved
evaluate_all-loop-expr-preserved t c =
    let at = c.loop-expr.expr-index in
    let before = c.loop-expr.values in
    let next = behind-item c.args.store.now before c.args.exprs.now at c.expr-item.result c.in_ok-value.value
    c.loop-expr-test.true c.expr-item.is c.in_ok-value.ensures in
    let pushed : c.push.new.self ≡ before ++ c.in_ok-value.value ∷ [] = grind (arith, common_steps) in
    c.loop-expr.invariant ∙ next ∙ sym (ap (λ values. behind values (eval_all no_hosts c.args.store.now (drop (at + 1) c.args.exprs.now) [])) pushed)

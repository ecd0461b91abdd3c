use Rattle.std.proofs.Common.{◌≡◌, OnOk, ap, sym, subst, ◌∙◌, arith}
use Rattle.std.proofs.lemmas.Grind.{common_steps}
use Rattle.yarn_blocks.specs.View.{stmt_of, clauses_of, last_of}
use Rattle.yarn_blocks.proofs.Views.{options_view, if_view}
use Rattle.yarn_meaning.specs.Variables.{declared_in_one, declared_in_clauses, declared_in_last}
use Rattle.yarn_value.specs.Pairs.{with_missing}
use Rattle.yarn_walker.proofs.VariableLemmas.{with_missing-append}
use Rattle.yarn_walker.proofs.variables.+declaring.Goals as goal

pub declare-returns-in-Options : goal.declare-returns-in-Options
declare-returns-in-Options t c =
    rw (ap stmt_of c.in-Options.is ∙ options_view c.in-Options.options, sym c.as_slice.ensures) c.declare_options.ensures

pub declare-returns-in_ok-declare_clauses-in-If : goal.declare-returns-in_ok-declare_clauses-in-If
declare-returns-in_ok-declare_clauses-in-If t c =
    let store = c.args.store.now in
    let clauses = declared_in_clauses (clauses_of c.in-If.clauses) in
    let last = declared_in_last (last_of c.in-If.last) in
    let declared : c.declare_clauses.new.store ≡ with_missing store clauses =
    c.in_ok-declare_clauses-in-If.ensures ∙ ap (λ cs. with_missing store (declared_in_clauses (clauses_of cs))) c.as_slice-in-If.ensures in
    subst (λ s. OnOk c.declare_last.result (c.declare_last.new.store ≡ s)) (
    ap (λ s. with_missing s last) declared
    ∙ sym (with_missing-append store clauses last)
    ∙ sym (ap (λ s. with_missing store (declared_in_one s)) (ap stmt_of c.in-If.is ∙ if_view c.in-If.clauses c.in-If.last c.in-If.field-2))
    ) c.declare_last.ensures

pub declare_body-loop-statement-preserved : goal.declare_body-loop-statement-preserved
declare_body-loop-statement-preserved t c = grind (arith, common_steps, with_missing-append)

pub declare_clauses-loop-clause-preserved : goal.declare_clauses-loop-clause-preserved
declare_clauses-loop-clause-preserved t c = grind (arith, common_steps, with_missing-append)

pub declare_options-loop-option-preserved : goal.declare_options-loop-option-preserved
declare_options-loop-option-preserved t c = grind (arith, common_steps, with_missing-append)

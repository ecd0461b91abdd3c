use Rattle.std.proofs.Common.{◌≡◌, OnOk, ap, sym, subst, ◌∙◌, ◌++◌, append_assoc, map}
use Rattle.yarn_blocks.specs.View.{stmt_of, clauses_of, last_of}
use Rattle.yarn_blocks.proofs.Views.{options_view, if_view}
use Rattle.yarn_types.specs.Units.{unit_of}
use Rattle.yarn_infer.specs.Units.{stmt_units, clauses_units, last_units}
use Rattle.yarn_infer.proofs.units.+walk.Goals as goal

pub push_statement-returns-in-Options : goal.push_statement-returns-in-Options
push_statement-returns-in-Options t c =
    rw (ap stmt_of c.in-Options.is ∙ options_view c.in-Options.options, sym c.as_slice.ensures) c.push_options.ensures

pub push_statement-returns-in_ok-push_clauses-in-If : goal.push_statement-returns-in_ok-push_clauses-in-If
push_statement-returns-in_ok-push_clauses-in-If t c =
    let clauses = clauses_units c.args.file (clauses_of c.in-If.clauses) in
    let last = last_units c.args.file (last_of c.in-If.last) in
    let pushed : map unit_of c.push_clauses.new.units.items ≡ map unit_of c.args.units.now.items ++ clauses =
    c.in_ok-push_clauses-in-If.ensures ∙ ap (λ cs. map unit_of c.args.units.now.items ++ clauses_units c.args.file (clauses_of cs)) c.as_slice-in-If.ensures in
    subst (λ units. OnOk c.push_last.result (map unit_of c.push_last.new.units.items ≡ units)) (
    ap (λ units. units ++ last) pushed
    ∙ append_assoc (map unit_of c.args.units.now.items) clauses last
    ∙ sym (ap (λ s. map unit_of c.args.units.now.items ++ stmt_units c.args.file s) (ap stmt_of c.in-If.is ∙ if_view c.in-If.clauses c.in-If.last c.in-If.field-2))
    ) c.push_last.ensures

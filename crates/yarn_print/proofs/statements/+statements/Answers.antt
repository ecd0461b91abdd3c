use Rattle.std.proofs.Common.{◌≡◌, ◌++◌, OnOk, sym, ap, ◌∙◌, subst, arith}
use Rattle.std.proofs.lemmas.Grind.{common_steps}
use Rattle.yarn_blocks.specs.Layout.{laid_one}
use Rattle.yarn_blocks.specs.Tree as T
use Rattle.yarn_blocks.specs.View.{stmt_of, options_of, clauses_of, last_of}
use Rattle.yarn_blocks.proofs.Views.{options_view, if_view}
use Rattle.yarn_print.specs.Print.{entries_text}
use Rattle.yarn_print.proofs.Laying.{choice-text}
use Rattle.yarn_print.proofs.statements.+statements.Goals as goal

pub write_statement-returns-in-Options : goal.write_statement-returns-in-Options
write_statement-returns-in-Options t c =
    subst (λ s. OnOk c.write_options.result (c.write_options.new.out ≡ c.args.out.now ++ entries_text (laid_one c.args.depth s)))
    (sym (ap stmt_of c.in-Options.is ∙ options_view c.in-Options.options ∙ ap (λ l. T.Group (options_of l)) (sym c.as_slice.ensures))) c.write_options.ensures

pub write_statement-returns-in_ok-write_else-in-If : goal.write_statement-returns-in_ok-write_else-in-If
write_statement-returns-in_ok-write_else-in-If t c =
    let view = ap stmt_of c.in-If.is ∙ if_view c.in-If.clauses c.in-If.last c.in-If.end in
    let text = choice-text c.args.depth (clauses_of c.in-If.clauses) (last_of c.in-If.last) c.in-If.end in
    rw view (grind (arith, common_steps))

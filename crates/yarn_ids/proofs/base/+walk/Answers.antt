use Rattle.std.proofs.Common.{◌≡◌, OnOk, ap, sym, subst, ◌∙◌, ◌++◌, map}
use Rattle.yarn_blocks.specs.View.{stmt_of, clauses_of, last_of}
use Rattle.yarn_blocks.proofs.Views.{options_view, if_view}
use Rattle.yarn_meaning.specs.Texts.{said_in_one, said_in_clauses, said_in_last}
use Rattle.yarn_ids.specs.Base.{row_of}
use Rattle.yarn_ids.proofs.BaseLemmas.{rows-more}
use Rattle.yarn_ids.proofs.base.+walk.Goals as goal

pub push_statement-returns-in-Options : goal.push_statement-returns-in-Options
push_statement-returns-in-Options t c =
    rw (ap stmt_of c.in-Options.is ∙ options_view c.in-Options.options, sym c.as_slice.ensures) c.push_options.ensures

pub push_statement-returns-in_ok-push_clauses-in-If : goal.push_statement-returns-in_ok-push_clauses-in-If
push_statement-returns-in_ok-push_clauses-in-If t c =
    let row = row_of c.args.site.file c.args.site.node in
    let clauses = said_in_clauses (clauses_of c.in-If.clauses) in
    let last = said_in_last (last_of c.in-If.last) in
    let pushed : c.push_clauses.new.rows.items ≡ c.args.rows.now.items ++ map row clauses =
    c.in_ok-push_clauses-in-If.ensures ∙ ap (λ cs. c.args.rows.now.items ++ map row (said_in_clauses (clauses_of cs))) c.as_slice-in-If.ensures in
    subst (λ rows. OnOk c.push_last.result (c.push_last.new.rows.items ≡ rows)) (
    ap (λ rows. rows ++ map row last) pushed
    ∙ sym (rows-more c.args.site.file c.args.site.node c.args.rows.now.items clauses last)
    ∙ sym (ap (λ s. c.args.rows.now.items ++ map row (said_in_one s)) (ap stmt_of c.in-If.is ∙ if_view c.in-If.clauses c.in-If.last c.in-If.field-2))
    ) c.push_last.ensures

use Rattle.std.proofs.Common.{◌≡◌, OnOk, ap, sym, subst, ◌∙◌, ◌++◌, map}
use Rattle.yarn_blocks.specs.View.{stmt_of, clauses_of, last_of}
use Rattle.yarn_blocks.proofs.Views.{options_view, if_view}
use Rattle.yarn_meaning.specs.Texts.{said_in_one, said_in_clauses, said_in_last}
use Rattle.yarn_tag.specs.Tagged.{spoken_of}
use Rattle.yarn_tag.proofs.SpokenLemmas.{spoken-more}
use Rattle.yarn_tag.proofs.spoken.+spoken.Goals as goal

pub push_statement-returns-in-Options : goal.push_statement-returns-in-Options
push_statement-returns-in-Options t c =
    rw (ap stmt_of c.in-Options.is ∙ options_view c.in-Options.options, sym c.as_slice.ensures) c.push_options.ensures

pub push_statement-returns-in_ok-push_clauses-in-If : goal.push_statement-returns-in_ok-push_clauses-in-If
push_statement-returns-in_ok-push_clauses-in-If t c =
    let clauses = said_in_clauses (clauses_of c.in-If.clauses) in
    let last = said_in_last (last_of c.in-If.last) in
    let pushed : c.push_clauses.new.said.items ≡ c.args.said.now.items ++ map spoken_of clauses =
    c.in_ok-push_clauses-in-If.ensures ∙ ap (λ cs. c.args.said.now.items ++ map spoken_of (said_in_clauses (clauses_of cs))) c.as_slice-in-If.ensures in
    subst (λ said. OnOk c.push_last.result (c.push_last.new.said.items ≡ said)) (
    ap (λ said. said ++ map spoken_of last) pushed
    ∙ sym (spoken-more c.args.said.now.items clauses last)
    ∙ sym (ap (λ s. c.args.said.now.items ++ map spoken_of (said_in_one s)) (ap stmt_of c.in-If.is ∙ if_view c.in-If.clauses c.in-If.last c.in-If.field-2))
    ) c.push_last.ensures

use Rattle.std.specs.Prelude.{Err}
use Rattle.std.proofs.Common.{◌∙◌, ap, sym, subst, map}
use Rattle.std.proofs.lemmas.Result.{err_from_is_err_and}
use Rattle.yarn_tree.specs.Names.{has}
use Rattle.yarn_tree.specs.Order.{project_checked}
use Rattle.yarn_tree.specs.Reading.{Answers}
use Rattle.yarn_tree.specs.Uses.{use_at}
use Rattle.yarn_tree.proofs.OrderLemmas.{names-stop, names-go, project-named}
use Rattle.yarn_tree.proofs.order.check_project.Goals as goal

pub returns-in_err-check_names : goal.returns-in_err-check_names
returns-in_err-check_names c =
    let p = err_from_is_err_and c.from_residual-in_err-check_names.result c.from_residual-in_err-check_names.ensures.1 in
    subst (Answers (project_checked c.args.signatures.now c.args.reads.now)) (sym (p.1 ∙ ap Err p.2))
    (names-stop c.args.signatures.now c.args.reads.now (has c.in_ok-titles.titles) (map use_at c.as_slice-2.result.now) c.in_err-check_names.field-0.0
    c.in_ok-check_structure.ensures c.in_ok-check_counts.ensures c.in_ok-titles.ensures.0 c.in_ok-titles.ensures.1
    (c.as_slice-2.ensures ∙ c.in_ok-uses.ensures) c.in_err-check_names.ensures)

pub returns : goal.returns
returns c =
    names-go c.args.signatures.now c.args.reads.now (has c.in_ok-titles.titles) (map use_at c.as_slice-2.result.now) c.check_ids.result
    c.in_ok-check_structure.ensures c.in_ok-check_counts.ensures c.in_ok-titles.ensures.0 c.in_ok-titles.ensures.1
    (c.as_slice-2.ensures ∙ c.in_ok-uses.ensures) c.in_ok-check_names.ensures c.check_ids.ensures

pub check_ids-requires : goal.check_ids-requires
check_ids-requires c = project-named c.args.reads.now c.requires c.in_ok-check_structure.ensures c.in_ok-titles.ensures.0

use Rattle.std.specs.Prelude.{Err}
use Rattle.std.proofs.Common.{◌≡◌, ◌∙◌, ap, sym, subst}
use Rattle.std.proofs.lemmas.Result.{err_from_is_err_and}
use Rattle.yarn_tree.specs.Order.{AreRead, project_checked}
use Rattle.yarn_tree.specs.Reading.{IsProjectRead, splits_read, no_fault, IsFault}
use Rattle.yarn_tree.proofs.GrowLemmas.{reads_shallow}
use Rattle.yarn_tree.proofs.OrderLemmas.{project-stopped, project-shallow, project-grown}
use Rattle.yarn_tree.proofs.read.finish_project.Goals as goal

pub returns-in_err-check_project : goal.returns-in_err-check_project
returns-in_err-check_project c =
    let p = err_from_is_err_and c.from_residual-in_err-check_project.result c.from_residual-in_err-check_project.ensures.1 in
    subst (IsProjectRead (splits_read c.args.signatures.now c.args.splits)) (sym (p.1 ∙ ap Err p.2))
    (project-stopped c.args.signatures.now c.args.splits c.in_ok-reads.reads c.in_err-check_project.field-0.0 c.in_ok-reads.ensures
    (subst (λ reads. IsFault (project_checked c.args.signatures.now reads) c.in_err-check_project.field-0.0) c.as_slice.ensures c.in_err-check_project.ensures))

pub grow_files-requires : goal.grow_files-requires
grow_files-requires c =
    reads_shallow _ c.in_ok-reads.reads
    (project-shallow c.args.signatures.now c.args.splits c.in_ok-reads.reads c.in_ok-reads.ensures
    (subst (λ reads. project_checked c.args.signatures.now reads ≡ no_fault) c.as_slice.ensures c.in_ok-check_project.ensures))

pub returns : goal.returns
returns c =
    project-grown c.args.signatures.now c.args.splits c.in_ok-reads.reads c.in_ok-files.files c.in_ok-reads.ensures
    (subst (λ reads. project_checked c.args.signatures.now reads ≡ no_fault) c.as_slice.ensures c.in_ok-check_project.ensures) c.in_ok-files.ensures

pub check_project-requires : goal.check_project-requires
check_project-requires c = subst AreRead (sym c.as_slice.ensures) (c.args.splits, c.in_ok-reads.ensures)

use Rattle.std.specs.Prelude.{Err}
use Rattle.std.proofs.Common.{◌≡◌, ◌∷◌, [], ◌∙◌, ap, sym, subst}
use Rattle.std.proofs.lemmas.Result.{err_from_is_err_and}
use Rattle.std.proofs.lemmas.List.Elements.{All-head}
use Rattle.yarn_tree.specs.Growing.{HasShallowBodies}
use Rattle.yarn_tree.specs.Order.{lines_checked}
use Rattle.yarn_tree.specs.Reading.{IsFileRead, split_read, no_fault, IsFault}
use Rattle.yarn_tree.proofs.GrowLemmas.{reads_shallow}
use Rattle.yarn_tree.proofs.OrderLemmas.{file-stopped, file-shallow}
use Rattle.yarn_tree.proofs.read.finish_file.Goals as goal

pub returns-in_err-check_lines : goal.returns-in_err-check_lines
returns-in_err-check_lines c =
    let p = err_from_is_err_and c.from_residual-in_err-check_lines.result c.from_residual-in_err-check_lines.ensures.1 in
    subst (IsFileRead (split_read c.args.split)) (sym (p.1 ∙ ap Err p.2))
    (file-stopped c.args.split c.in_ok-read.read c.in_err-check_lines.field-0.0 c.in_ok-read.ensures
    (subst (λ reads. IsFault (lines_checked reads) c.in_err-check_lines.field-0.0) c.from_ref.ensures.value c.in_err-check_lines.ensures))

pub grow_file-requires : goal.grow_file-requires
grow_file-requires c =
    All-head HasShallowBodies c.in_ok-read.read []
    (reads_shallow _ (c.in_ok-read.read ∷ [])
    (file-shallow _ c.args.split c.in_ok-read.read c.in_ok-read.ensures
    (subst (λ reads. lines_checked reads ≡ no_fault) c.from_ref.ensures.value c.in_ok-check_lines.ensures)))

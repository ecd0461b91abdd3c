use Rattle.std.proofs.Common.{◌∙◌, ap, subst, IsUtf8}
use Rattle.yarn_lines.proofs.MarkLemmas.{utf8_with_mark}
use Rattle.yarn_lines.proofs.file.split_own.Goals as goal

pub first_bad_line-requires-clause-bad : goal.first_bad_line-requires-clause-bad
first_bad_line-requires-clause-bad c =
    λ utf8.
    let same = c.as_slice.ensures.value ∙ ap (λ v. v.items) (c.into_bytes-bytes.ensures.value ∙ c.in-Err.ensures.err) in
    let no = c.in-Err.ensures.succeeds (subst IsUtf8 same (utf8_with_mark c.as_slice.result.now (subst IsUtf8 c.past_mark.ensures.value utf8))) in
    absurd cc

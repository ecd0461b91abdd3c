use Rattle.std.proofs.Common.{◌≡◌, ◌-◌, ◌∙◌, ap, sym, subst, drop, length, arith, IsUtf8}
use Rattle.yarn_lines.specs.Lines.{mark_length}
use Rattle.yarn_lines.proofs.FileLemmas.{splits-text}
use Rattle.yarn_lines.proofs.MarkLemmas.{utf8_behind_mark}
use Rattle.yarn_lines.proofs.file.split_whole.Goals as goal

pub split_body-requires-clause-utf8 : goal.split_body-requires-clause-utf8
split_body-requires-clause-utf8 c =
    let whole = c.args.whole in
    let same = c.as_bytes-bytes.ensures.value ∙ c.as_str.ensures in
    let start : length c.as_bytes-bytes.result.now - length c.past_mark.result.now ≡ mark_length whole =
    omega (arith, c.past_mark.ensures.len, ap mark_length same) in
    subst (λ n. IsUtf8 (drop n whole)) (sym start) (utf8_behind_mark whole (subst IsUtf8 same c.as_bytes-bytes.ensures.utf8))

pub returns : goal.returns
returns c =
    let whole = c.args.whole in
    let same = c.as_bytes-bytes.ensures.value ∙ c.as_str.ensures in
    let start : length c.as_bytes-bytes.result.now - length c.past_mark.result.now ≡ mark_length whole =
    omega (arith, c.past_mark.ensures.len, ap mark_length same) in
    let utf8 = utf8_behind_mark whole (subst IsUtf8 same c.as_bytes-bytes.ensures.utf8) in
    splits-text whole (drop (length c.as_bytes-bytes.result.now - length c.past_mark.result.now) whole)
    (length c.as_bytes-bytes.result.now - length c.past_mark.result.now) c.split_body.result (ap (λ n. drop n whole) start) start
    (subst (λ n. IsUtf8 (drop n whole)) (sym start) utf8) c.split_body.ensures

use Rattle.std.proofs.Common.{◌∙◌, refl, sym, ap, length, string_bytes}
use Rattle.std.proofs.lemmas.Str.{IsUtf8-string_bytes}
use Rattle.yarn_base.proofs.PartLemmas.{whole-fits}
use Rattle.yarn_base.proofs.text.Text.from_string.Goals as goal

pub invariant_of-result : goal.invariant_of-result
invariant_of-result c =
    let kept = c.in-Ok-new.ensures.ok in
    let all = c.in-Ok.ensures.1 ∙ c.len.ensures ∙ c.args.text.bytes.ok.0 ∙ ap (λ s. length (string_bytes s)) (sym kept) in
    whole-fits _ 0 c.in-Ok.len refl all (IsUtf8-string_bytes c.in-Ok-new.whole.value)

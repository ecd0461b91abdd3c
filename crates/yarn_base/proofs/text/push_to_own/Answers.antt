use Rattle.std.proofs.Common.{◌≡◌, ◌++◌, ◌∙◌, ap, length, string_bytes, arith}
use Rattle.std.specs.String.{string_len}
use Rattle.std.proofs.lemmas.List.{length-append}
use Rattle.yarn_base.proofs.text.push_to_own.Goals as goal

pub returns : goal.returns
returns c =
    let old = c.args.whole.now.value in
    let more = c.args.more.now in
    let before : c.args.len.now ≡ length (string_bytes old) = c.if-len.false ∙ c.len.ensures ∙ ap string_len c.as_ref.ensures ∙ old.bytes.ok.0 in
    let pushed : string_bytes c.push_str.new.self ≡ string_bytes old ++ more = c.in_ok-push_str.ensures.bytes ∙ ap (λ s. string_bytes s ++ more) c.in-Some.ensures.value in (
      c.if-from-ne0.false,
      before,
      pushed,
      omega (arith, c.in_ok-sum.ensures, before, ap length pushed, length-append (string_bytes old) more),
    )

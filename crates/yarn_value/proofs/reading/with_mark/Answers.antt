use Rattle.std.proofs.Common.{◌≡◌, ◌∙◌, ap, sym, encode_utf8}
use Rattle.std.proofs.lemmas.Str.{length-encode}
use Rattle.yarn_value.specs.Templates.{size, placeholders}
use Rattle.yarn_value.specs.TemplateSteps.{marks_in}
use Rattle.yarn_value.proofs.ReadingLemmas.{size-stands, placeholders-stands}
use Rattle.yarn_value.proofs.reading.with_mark.Goals as goal

pub returns-in-Char : goal.returns-in-Char
returns-in-Char c =
    let bytes : size (marks_in c.args.mark) ≡ c.len_utf8.result = ap (λ m. size (marks_in m)) c.in-Char.is ∙ size-stands (encode_utf8 c.in-Char.c) ∙ length-encode c.in-Char.c ∙ sym c.len_utf8.ensures.value in
    let none : placeholders (marks_in c.args.mark) ≡ 0 = ap (λ m. placeholders (marks_in m)) c.in-Char.is ∙ placeholders-stands (encode_utf8 c.in-Char.c) in
    rw (bytes, none) c.within.ensures

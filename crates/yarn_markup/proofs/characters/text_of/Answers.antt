use Rattle.std.proofs.Common.{ℕ, ◌++◌, ap, ◌∙◌, take, encode_utf8, encode_utf8_all}
use Rattle.yarn_markup.proofs.ReadingLemmas.{encode_more}
use Rattle.yarn_markup.proofs.characters.text_of.Goals as goal

pub loop-c-preserved : goal.loop-c-preserved
loop-c-preserved c = encode_more _ _ c.c-item.result _ c.loop-c-test.true
    (c.in_ok-push_char.ensures.ok ∙ ap (λ l. l ++ encode_utf8 c.c-item.result) c.loop-c.invariant
    ∙ ap (λ (x : ℕ). encode_utf8_all (take c.loop-c.c-index c.args.characters.now) ++ encode_utf8 x) c.c-item.is)

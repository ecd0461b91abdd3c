use Rattle.std.proofs.Common.{ap, sym, ◌∙◌, nat_eq, List, ℕ}
use Rattle.std.specs.Cmp.Lexicographic.{pointwise}
use Rattle.yarn_plural.specs.declared.token.TheConstants.{WORDS}
use Rattle.yarn_plural.proofs.TokenLemmas.{find-step}
use Rattle.yarn_plural.proofs.token.Word.find.Goals as goal

pub loop-word-preserved : goal.loop-word-preserved
loop-word-preserved c =
    let text = c.args.text.now in
    let other = ap (λ (w : List ℕ). pointwise nat_eq text w) (sym c.text.ensures) ∙ sym c.eq.ensures ∙ c.if-eq.false in
    find-step text WORDS c.loop-word.word-index _ c.loop-word-test.true other ∙ c.loop-word.invariant

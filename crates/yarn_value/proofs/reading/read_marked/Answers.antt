use Rattle.std.proofs.Common.{sym, subst, arith}
use Rattle.yarn_value.specs.Templates.{Plain}
use Rattle.yarn_value.specs.TemplateSteps.{IsStep}
use Rattle.yarn_value.proofs.ReadingLemmas.{IsReading, IsReading-start, IsReading-step, IsReading-too_much}
use Rattle.yarn_value.proofs.reading.read_marked.Goals as goal

pub loop-first-init : goal.loop-first-init
loop-first-init c = subst (λ rest. IsReading c.args.holes c.args.text.now rest c.in_ok-builder.builder.pieces c.in_ok-builder.builder.run 0 0) (sym c.as_str-rest.ensures.value)
    (IsReading-start c.args.holes c.args.text.now c.in_ok-builder.builder.pieces c.in_ok-builder.builder.run c.as_str-rest.ensures.utf8 c.in_ok-builder.ensures)

pub returns-in-None-clause-parts : goal.returns-in-None-clause-parts
returns-in-None-clause-parts c =
    IsReading-too_much _ _ _ _ _ _ _ c.loop-first.invariant c.in-Some-mark_at.step (subst (λ text. IsStep c.args.holes Plain text c.in-Some-mark_at.step) (sym c.in-Some.ensures.bytes) c.in-Some-mark_at.ensures.step) c.in-None.ensures

pub loop-first-smaller : goal.loop-first-smaller
loop-first-smaller c = omega (arith, c.in-Some.ensures.shorter, c.in-Some-mark_at.ensures.shorter)

pub loop-first-preserved : goal.loop-first-preserved
loop-first-preserved c =
    IsReading-step _ _ _ _ _ _ _ c.loop-first.invariant c.in-Some-mark_at.step _ _ _ _ (subst (λ text. IsStep c.args.holes Plain text c.in-Some-mark_at.step) (sym c.in-Some.ensures.bytes) c.in-Some-mark_at.ensures.step)
    c.in_ok-push.ensures c.in-Some-with_mark.ensures.0 c.in-Some-with_mark.ensures.1 c.in-Some-with_mark.more.short c.in-Some-with_mark.more.few

use Rattle.std.proofs.Common.{◌∙◌, sym, ap, arith, length}
use Rattle.yarn_value.specs.Templates.{Digits, marks}
use Rattle.yarn_value.proofs.MarkLemmas.{opened, longer_is, refused}
use Rattle.yarn_value.proofs.mark.hole.Goals as goal

pub loop-digit-init : goal.loop-digit-init
loop-digit-init c = record { goes = opened _ _ _ _ c.in_ok-first.ensures; utf8 = c.in_ok-first.ensures.utf8; shorter = omega (arith, ap length c.in_ok-first.ensures.bytes) }

pub returns-in-None : goal.returns-in-None
returns-in-None c = c.loop-digit.invariant.goes ∙ refused _ _ _ _ _ c.in-Some.ensures c.in-None.ensures

pub loop-digit-preserved : goal.loop-digit-preserved
loop-digit-preserved c = record {
  goes = c.loop-digit.invariant.goes ∙ longer_is _ _ _ _ _ c.in-Some.ensures c.in-Some-longer.ensures.1 ∙ ap (λ n. marks c.args.holes (Digits n) c.in-Some.after.now) (sym c.in-Some-longer.ensures.0);
  utf8 = c.in-Some.ensures.utf8;
  shorter = omega (arith, ap length c.in-Some.ensures.bytes);
}

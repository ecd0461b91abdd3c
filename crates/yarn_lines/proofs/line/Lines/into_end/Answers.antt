use Rattle.std.proofs.Common.{length, ap, arith}
use Rattle.yarn_lines.proofs.TakingLemmas.{step}
use Rattle.yarn_lines.proofs.line.Lines.into_end.Goals as goal

pub loop-at-init : goal.loop-at-init
loop-at-init c = record { left = c.self.invariant; same = ap (λ l. l.end) c.self.view_is }

pub loop-at-preserved : goal.loop-at-preserved
loop-at-preserved c =
    let next = step c.self.inside.whole c.piece_at.result.now c.loop-at.at c.loop-at.end c.loop-at.invariant.left
    (omega (arith, c.loop-at-test.true, ap length c.as_str.ensures)) c.piece_at.ensures in
    record { left = next.left; same = omega (arith, c.loop-at.invariant.same, next.count) }

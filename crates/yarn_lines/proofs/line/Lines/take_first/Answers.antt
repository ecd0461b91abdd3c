use Rattle.std.proofs.Common.{length, sym, ap, ◌∙◌, arith}
use Rattle.yarn_lines.proofs.TakingLemmas.{step, takes, skips}
use Rattle.yarn_lines.proofs.line.Lines.take_first.Goals as goal

pub line_in-requires-clause-short : goal.line_in-requires-clause-short
line_in-requires-clause-short c =
    let next = step c.loop-self.self-inside.whole c.piece_at-piece.result.now c.loop-self.self-inside.at c.loop-self.self-inside.number
    c.loop-self.invariant.left (omega (arith, ap length c.as_str.ensures)) c.piece_at-piece.ensures in
    next.short

pub line_in-requires-clause-utf8 : goal.line_in-requires-clause-utf8
line_in-requires-clause-utf8 c =
    let next = step c.loop-self.self-inside.whole c.piece_at-piece.result.now c.loop-self.self-inside.at c.loop-self.self-inside.number
    c.loop-self.invariant.left (omega (arith, ap length c.as_str.ensures)) c.piece_at-piece.ensures in
    next.utf8

pub invariant_of-self-then-is_some : goal.invariant_of-self-then-is_some
invariant_of-self-then-is_some c =
    let next = step c.loop-self.self-inside.whole c.piece_at-piece.result.now c.loop-self.self-inside.at c.loop-self.self-inside.number
    c.loop-self.invariant.left (omega (arith, ap length c.as_str.ensures)) c.piece_at-piece.ensures in
    next.left

pub returns-then-is_some : goal.returns-then-is_some
returns-then-is_some c =
    let next = step c.loop-self.self-inside.whole c.piece_at-piece.result.now c.loop-self.self-inside.at c.loop-self.self-inside.number
    c.loop-self.invariant.left (omega (arith, ap length c.as_str.ensures)) c.piece_at-piece.ensures in
    record {
      lines = takes c.loop-self.self-inside.whole c.piece_at-piece.result.now c.loop-self.self-inside.at c.loop-self.self-inside.number
          c.args.self.now.lines c.in_ok-line.line next c.loop-self.invariant.same c.in_ok-line.ensures (sym c.is_some.ensures ∙ c.if-is_some.true);
      end = omega (arith, c.loop-self.invariant.end, next.count);
    }

pub loop-self-preserved : goal.loop-self-preserved
loop-self-preserved c =
    let next = step c.loop-self.self-inside.whole c.piece_at-piece.result.now c.loop-self.self-inside.at c.loop-self.self-inside.number
    c.loop-self.invariant.left (omega (arith, ap length c.as_str.ensures)) c.piece_at-piece.ensures in
    record {
      left = next.left;
      same = skips c.loop-self.self-inside.whole c.piece_at-piece.result.now c.loop-self.self-inside.at c.loop-self.self-inside.number
          c.args.self.now.lines c.in_ok-line.line next c.loop-self.invariant.same c.in_ok-line.ensures (sym c.is_some.ensures ∙ c.if-is_some.false);
      end = omega (arith, c.loop-self.invariant.end, next.count);
    }

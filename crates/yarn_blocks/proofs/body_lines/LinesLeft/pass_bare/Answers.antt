use Rattle.std.proofs.Common.{◌≡◌, ◌∷◌, ◌++◌, length, true, ap, subst, arith}
use Rattle.yarn_blocks.specs.BodyLine.{Passed}
use Rattle.yarn_blocks.specs.BodyLines.{entries_at, AreMarked}
use Rattle.yarn_blocks.proofs.BodyLineLemmas.{pass_more}
use Rattle.yarn_blocks.proofs.body_lines.LinesLeft.pass_bare.Goals as goal

pub loop-stmts-preserved : goal.loop-stmts-preserved
loop-stmts-preserved c =
    let before = c.loop-stmts.self-inside in
    let first = c.in-Some-Some.field-0-0-0.now in
    let stmts_are = c.in-Some-Some.ensures.cases.0 in
    let spots_are = c.in-Some-Some.ensures'.cases.0 in
    let marked : AreMarked (first ∷ c.in-Some-Some.stmts.now) (c.in-Some-Some.spot.now ∷ c.in-Some-Some.spots.now) = rw (stmts_are, spots_are) at c.loop-stmts.invariant.marked in
    let passed : Passed c.args.self.now (entries_at (first ∷ c.in-Some-Some.stmts.now) (c.in-Some-Some.spot.now ∷ c.in-Some-Some.spots.now) ++ before.rest.now) = rw (stmts_are, spots_are) at c.loop-stmts.invariant.passed in
    record {
      passed = pass_more c.args.self.now first c.in-Some-Some.stmts.now c.in-Some-Some.spot.now c.in-Some-Some.spots.now before.rest.now passed (marked.0 c.if-not-spot.false);
      as_many = omega (arith, ap length stmts_are, ap length spots_are, c.loop-stmts.invariant.as_many);
      marked = marked.1;
    }

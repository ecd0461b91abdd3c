use Rattle.std.proofs.Common.{◌≡◌, ◌++◌, length}
use Rattle.yarn_blocks.specs.BodyLine.{Passed}
use Rattle.yarn_blocks.specs.BodyLines.{entries_at, AreMarked}
use Rattle.yarn_blocks.proofs.body_lines.LinesLeft.pass_bare.Given as goal

abbrev pub invariant-loop-stmts : goal.invariant-loop-stmts
invariant-loop-stmts l = record {
  passed : Passed l.fn.self (entries_at l.self-inside.stmts.now l.self-inside.spots.now ++ l.self-inside.rest.now);
  as_many : length l.self-inside.stmts.now ≡ length l.self-inside.spots.now;
  marked : AreMarked l.self-inside.stmts.now l.self-inside.spots.now;
}

abbrev pub decreases-loop-stmts : goal.decreases-loop-stmts
decreases-loop-stmts l = length l.self-inside.stmts.now

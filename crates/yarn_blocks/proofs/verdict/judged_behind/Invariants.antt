use Rattle.std.proofs.Common.{◌≡◌, ◌+◌, drop}
use Rattle.yarn_blocks.specs.Outline.{verdict_from, verdict_behind}
use Rattle.yarn_blocks.proofs.verdict.judged_behind.Given as goal

abbrev pub invariant-loop-at : goal.invariant-loop-at
invariant-loop-at l = verdict_from (l.before + l.at) l.outline (drop l.at l.marks) ≡ verdict_behind l.before l.marks

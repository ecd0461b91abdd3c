use Rattle.std.proofs.Common.{length}
use Rattle.yarn_walker.proofs.Found.{FindsRest}
use Rattle.yarn_walker.proofs.titles.Titles.new.Given as goal

abbrev pub invariant-loop-file : goal.invariant-loop-file
invariant-loop-file l = FindsRest l.first l.files l.rest

abbrev pub decreases-loop-file : goal.decreases-loop-file
decreases-loop-file l = length l.rest

use Rattle.std.proofs.Common.{◌≡◌, length}
use Rattle.yarn_markup.specs.Tags.{before}
use Rattle.yarn_markup.specs.Pieces.{verbatim}
use Rattle.yarn_markup.proofs.verbatim.read_verbatim.Given as goal

abbrev pub invariant-loop-c : goal.invariant-loop-c
invariant-loop-c l = verbatim l.text ≡ before l.value (verbatim l.rest)

abbrev pub decreases-loop-c : goal.decreases-loop-c
decreases-loop-c l = length l.rest

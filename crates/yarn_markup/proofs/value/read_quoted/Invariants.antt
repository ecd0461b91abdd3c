use Rattle.std.proofs.Common.{◌≡◌, length, false}
use Rattle.yarn_markup.specs.Tags.{before, quoted}
use Rattle.yarn_markup.proofs.value.read_quoted.Given as goal

abbrev pub invariant-loop-rest : goal.invariant-loop-rest
invariant-loop-rest l = quoted false l.text ≡ before l.value (quoted l.skips l.rest)

abbrev pub decreases-loop-rest : goal.decreases-loop-rest
decreases-loop-rest l = length l.rest

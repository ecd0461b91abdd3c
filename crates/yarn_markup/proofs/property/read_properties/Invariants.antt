use Rattle.std.proofs.Common.{◌≡◌, List, ℕ, length}
use Rattle.yarn_markup.proofs.ReadingLemmas.{GoesOn}
use Rattle.yarn_markup.proofs.property.read_properties.Given as goal

abbrev pub invariant-loop-read : goal.invariant-loop-read
invariant-loop-read l = GoesOn l.text l.initial.properties l.rest l.properties

abbrev pub decreases-loop-read : goal.decreases-loop-read
decreases-loop-read l = length l.rest

use Rattle.std.proofs.Common.{◌≡◌, drop}
use Rattle.yarn_table.specs.Gathering.{missing_among}
use Rattle.yarn_table.proofs.gathered.first_missing.Given as goal

abbrev pub invariant-loop-at : goal.invariant-loop-at
invariant-loop-at l = missing_among l.ids l.held ≡ missing_among (drop l.at l.ids) (drop l.at l.held)

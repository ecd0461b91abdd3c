use Rattle.std.proofs.Common.{◌≡◌, drop}
use Rattle.yarn_table.specs.Gathering.{refused_among}
use Rattle.yarn_table.proofs.gathered.first_refused.Given as goal

abbrev pub invariant-loop-at : goal.invariant-loop-at
invariant-loop-at l = refused_among l.ids l.held ≡ refused_among (drop l.at l.ids) (drop l.at l.held)

use Rattle.std.proofs.Common.{◌≡◌, take, drop}
use Rattle.yarn_plural.specs.Steps.{pieces}
use Rattle.yarn_plural.proofs.parse.cut.Given as goal
use Rattle.yarn_plural.proofs.PieceLemmas.{onto_all}

abbrev pub invariant-loop-at : goal.invariant-loop-at
invariant-loop-at l = pieces l.joint l.tokens ≡ onto_all (take l.at l.tokens) (pieces l.joint (drop l.at l.tokens))

use Rattle.std.proofs.Common.{◌≡◌}
use Rattle.std.specs.Option.{option_copied}
use Rattle.yarn_plural.specs.declared.token.Joint.TheVariants.{Or}
use Rattle.yarn_plural.specs.Steps.{and_condition_of, pieces, pieces_behind, each, left}
use Rattle.yarn_plural.proofs.EachLemmas.{behind}
use Rattle.yarn_plural.proofs.parse.read_condition.Given as goal

abbrev pub invariant-loop-rest : goal.invariant-loop-rest
invariant-loop-rest l = each and_condition_of (pieces Or l.fn.tokens) ≡ behind l.condition (each and_condition_of (pieces_behind Or (option_copied l.rest)))

abbrev pub decreases-loop-rest : goal.decreases-loop-rest
decreases-loop-rest l = left (option_copied l.rest)

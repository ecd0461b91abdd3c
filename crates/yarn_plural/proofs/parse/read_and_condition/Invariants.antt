use Rattle.std.proofs.Common.{◌≡◌}
use Rattle.std.specs.Option.{option_copied}
use Rattle.yarn_plural.specs.declared.token.Joint.TheVariants.{And}
use Rattle.yarn_plural.specs.Steps.{relation_of, pieces, pieces_behind, each, left}
use Rattle.yarn_plural.proofs.EachLemmas.{behind}
use Rattle.yarn_plural.proofs.parse.read_and_condition.Given as goal

abbrev pub invariant-loop-rest : goal.invariant-loop-rest
invariant-loop-rest l = each relation_of (pieces And l.fn.tokens) ≡ behind l.relations (each relation_of (pieces_behind And (option_copied l.rest)))

abbrev pub decreases-loop-rest : goal.decreases-loop-rest
decreases-loop-rest l = left (option_copied l.rest)

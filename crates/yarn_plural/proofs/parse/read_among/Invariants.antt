use Rattle.std.proofs.Common.{◌≡◌}
use Rattle.std.specs.Option.{option_copied}
use Rattle.yarn_plural.specs.declared.token.Joint.TheVariants.{Comma}
use Rattle.yarn_plural.specs.Steps.{listed_of, pieces, pieces_behind, each, left}
use Rattle.yarn_plural.proofs.EachLemmas.{behind}
use Rattle.yarn_plural.proofs.parse.read_among.Given as goal

abbrev pub invariant-loop-rest : goal.invariant-loop-rest
invariant-loop-rest l = each listed_of (pieces Comma l.fn.tokens) ≡ behind l.among (each listed_of (pieces_behind Comma (option_copied l.rest)))

abbrev pub decreases-loop-rest : goal.decreases-loop-rest
decreases-loop-rest l = left (option_copied l.rest)

use Rattle.std.proofs.Common.{length}
use Rattle.yarn_value.proofs.QuotingLemmas.{IsUnquoting}
use Rattle.yarn_value.proofs.quoting.unquote_body.Given as goal

abbrev pub invariant-loop-value : goal.invariant-loop-value
invariant-loop-value l = IsUnquoting l.body l.value l.rest

abbrev pub decreases-loop-value : goal.decreases-loop-value
decreases-loop-value l = length l.rest

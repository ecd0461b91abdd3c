use Rattle.yarn_value.proofs.QuotingLemmas.{pushed}
use Rattle.yarn_value.proofs.quoting.push_escaped.Goals as goal

pub loop-c-preserved : goal.loop-c-preserved
loop-c-preserved c = (c.in-Some.ensures.utf8, pushed _ _ _ _ _ _ c.loop-c.invariant.1 c.in-Some.ensures.bytes c.in_ok-push_char.ensures)

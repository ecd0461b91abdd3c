use Rattle.yarn_check.proofs.Stuck.{takes_reply}
use Rattle.yarn_check.proofs.laws.replies_are_taken.Goals as goal

pub returns : goal.returns
returns c = takes_reply

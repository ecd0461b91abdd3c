use Rattle.yarn_blocks.proofs.Views.{if_view}
use Rattle.yarn_blocks.proofs.reading.whole_if.Goals as goal

pub returns : goal.returns
returns c = if_view c.args.clauses c.args.last c.args.head

use Rattle.std.proofs.Common.{map, reverse}
use Rattle.yarn_check.specs.Views.{entry_of}
use Rattle.yarn_check.proofs.Taken.{took}
use Rattle.yarn_check.proofs.flow.take_values.Goals as goal

pub returns : goal.returns
returns c = λ place.
    took c.args.count (reverse (map entry_of c.args.stack.now.entries.items)) (reverse (map entry_of c.take.new.entries.items)) c.in_ok-kinds.kinds c.in_ok-kinds.ensures
    c.is_some.result c.is_some.ensures place c.args.stack.now.pending

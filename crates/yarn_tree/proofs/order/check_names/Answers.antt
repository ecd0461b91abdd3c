use Rattle.std.proofs.Common.{map}
use Rattle.yarn_tree.specs.Names.{has}
use Rattle.yarn_tree.specs.Uses.{use_at}
use Rattle.yarn_tree.proofs.OrderLemmas.{targets-go}
use Rattle.yarn_tree.proofs.order.check_names.Goals as goal

pub returns : goal.returns
returns c =
    targets-go c.args.signatures.now (has c.args.titles.now) (map use_at c.args.uses.now) c.check_targets.result c.in_ok-check_variables.ensures
    (rw c.in_ok-functions.ensures at c.check_targets.ensures)

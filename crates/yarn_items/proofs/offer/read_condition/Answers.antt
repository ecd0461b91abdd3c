use Rattle.yarn_items.proofs.ContentBytes.{command-utf8}
use Rattle.yarn_items.proofs.offer.read_condition.Goals as goal

pub read_condition_in-requires : goal.read_condition_in-requires
read_condition_in-requires c = rw c.in-Some.ensures.cases.1 (command-utf8 c.args.rest.now c.in-Some.ensures.cases.0 c.requires)

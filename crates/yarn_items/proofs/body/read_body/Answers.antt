use Rattle.yarn_items.proofs.ContentBytes.{command-utf8, option-utf8}
use Rattle.yarn_items.proofs.body.read_body.Goals as goal

pub read_offer-requires : goal.read_offer-requires
read_offer-requires c = rw c.in-Some.ensures.cases.1 (option-utf8 c.args.text.now c.in-Some.ensures.cases.0 c.requires)

pub read_command_line-requires : goal.read_command_line-requires
read_command_line-requires c =
    rw c.in-Some-strip_prefix.ensures.cases.1 (command-utf8 c.args.text.now c.in-Some-strip_prefix.ensures.cases.0 c.requires)

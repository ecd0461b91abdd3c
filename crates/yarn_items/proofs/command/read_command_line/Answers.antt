use Rattle.yarn_items.proofs.Utf8Lemmas.{past_leading-utf8}
use Rattle.yarn_items.proofs.command.read_command_line.Goals as goal

pub text_of-requires : goal.text_of-requires
text_of-requires c = rw c.without_blanks_before.ensures (past_leading-utf8 c.args.bytes.now c.requires)

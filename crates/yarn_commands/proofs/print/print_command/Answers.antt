use Rattle.yarn_commands.proofs.Printed.{again_law}
use Rattle.yarn_commands.proofs.print.print_command.Goals as goal

pub returns-clause-again : goal.returns-clause-again
returns-clause-again c = again_law _ _ c.command_text.ensures

use Rattle.yarn_commands.proofs.ReadLaws.{commands_law}
use Rattle.yarn_commands.proofs.law.commands_are_found.Goals as goal

pub returns : goal.returns
returns c = commands_law

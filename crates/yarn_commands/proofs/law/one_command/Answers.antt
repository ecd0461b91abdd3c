use Rattle.yarn_commands.proofs.ReadLaws.{one_law}
use Rattle.yarn_commands.proofs.law.one_command.Goals as goal

pub returns : goal.returns
returns c = one_law

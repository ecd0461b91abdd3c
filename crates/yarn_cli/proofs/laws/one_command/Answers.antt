use Rattle.yarn_cli.proofs.CommandLineLemmas.{one_command}
use Rattle.yarn_cli.proofs.laws.one_command.Goals as goal

pub returns : goal.returns
returns c = one_command

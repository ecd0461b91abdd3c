use Rattle.yarn_cli.proofs.CommandLineLemmas.{no_command, no_command-only}
use Rattle.yarn_cli.proofs.laws.no_command_is_left.Goals as goal

pub returns : goal.returns
returns c = λ words. (no_command words, no_command-only words)

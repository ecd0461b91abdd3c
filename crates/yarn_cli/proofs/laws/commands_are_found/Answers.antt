use Rattle.yarn_cli.proofs.CommandLineLemmas.{command-found, command-only}
use Rattle.yarn_cli.proofs.laws.commands_are_found.Goals as goal

pub returns : goal.returns
returns c = λ words play. (command-only words play, command-found words play)

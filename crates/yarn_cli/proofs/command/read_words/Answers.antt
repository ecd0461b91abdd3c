use Rattle.yarn_cli.proofs.CommandLineLemmas.{read-Says}
use Rattle.yarn_cli.proofs.command.read_words.Goals as goal

pub returns-clause-says : goal.returns-clause-says
returns-clause-says c = read-Says c.args.words.now c.find_command.result (rw c.as_slice.ensures at c.find_command.ensures)

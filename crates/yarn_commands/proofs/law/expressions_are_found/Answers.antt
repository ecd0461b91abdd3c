use Rattle.yarn_commands.proofs.ReadLaws.{expressions_law}
use Rattle.yarn_commands.proofs.law.expressions_are_found.Goals as goal

pub returns : goal.returns
returns c = expressions_law

use Rattle.yarn_commands.proofs.Braces.{braced}
use Rattle.yarn_commands.proofs.read.before_brace.Goals as goal

pub returns : goal.returns
returns c = braced _ _ c.utf8.text c.strip_suffix.ensures.cases

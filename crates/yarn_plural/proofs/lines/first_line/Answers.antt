use Rattle.std.proofs.Common.{arith}
use Rattle.std.proofs.lemmas.Grind.{common_steps}
use Rattle.yarn_plural.proofs.LineLemmas.{lines_of-cut, lines_of-last}
use Rattle.yarn_plural.proofs.lines.first_line.Goals as goal

pub returns-then-end-bytes-clause-lines : goal.returns-then-end-bytes-clause-lines
returns-then-end-bytes-clause-lines c = grind (arith, common_steps, lines_of-cut c.args.bytes.now)

pub returns-else-end-bytes-clause-lines : goal.returns-else-end-bytes-clause-lines
returns-else-end-bytes-clause-lines c = grind (arith, common_steps, lines_of-last c.args.bytes.now)

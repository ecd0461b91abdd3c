use Rattle.yarn_check.proofs.JudgeLemmas.{judged}
use Rattle.yarn_check.proofs.checked.judge.Goals as goal

pub returns-clause-judged : goal.returns-clause-judged
returns-clause-judged c = judged c.args.program.now c.requires c.first_fault.result c.first_fault.ensures

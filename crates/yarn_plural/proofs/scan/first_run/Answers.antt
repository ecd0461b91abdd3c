use Rattle.std.proofs.Common.{arith}
use Rattle.std.proofs.lemmas.Grind.{common_steps}
use Rattle.yarn_plural.specs.Steps.{in_run}
use Rattle.yarn_plural.proofs.ScanLemmas.{front-take, past-drop}
use Rattle.yarn_plural.proofs.scan.first_run.Goals as goal

pub returns-clause-front : goal.returns-clause-front
returns-clause-front c = grind (arith, common_steps, front-take (in_run c.args.run) c.args.text.now)

pub returns-clause-past : goal.returns-clause-past
returns-clause-past c = grind (arith, common_steps, past-drop (in_run c.args.run) c.args.text.now)

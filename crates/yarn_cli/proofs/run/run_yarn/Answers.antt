use Rattle.std.proofs.Common.{sym, ◌∙◌}
use Rattle.yarn_cli.specs.Found.{command_of}
use Rattle.yarn_cli.proofs.RunLemmas.{found-runs}
use Rattle.yarn_cli.proofs.run.run_yarn.Goals as goal

pub returns-in-Ok-Some-clause-runs : goal.returns-in-Ok-Some-clause-runs
returns-in-Ok-Some-clause-runs g c =
    found-runs (command_of c.args.words.now) c.in-Ok-Some.command c.run_command.result _ _ _ _ _ _ _ _ (sym c.in-Ok-Some.ensures.found ∙ c.in-Ok-Some.field-0-is)
    c.run_command.ensures.runs

use Rattle.std.proofs.Common.{arith}
use Rattle.yarn_value.proofs.MarkLemmas.{plain_step}
use Rattle.yarn_value.proofs.mark.mark_at.Goals as goal

pub returns-in_default-clause-step : goal.returns-in_default-clause-step
returns-in_default-clause-step c = plain_step c.args.holes c.args.first c.args.behind c.utf8.behind (λ e. omega arith) (λ e. omega arith)

use Rattle.yarn_expr.proofs.TextLaw.{again_law}
use Rattle.yarn_expr.proofs.print.print_expr.Goals as goal

pub returns-clause-again : goal.returns-clause-again
returns-clause-again c = again_law _ _ c.canonical_text.ensures

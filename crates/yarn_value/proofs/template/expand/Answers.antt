use Rattle.yarn_value.proofs.TemplateLemmas.{expanded-step}
use Rattle.yarn_value.proofs.template.expand.Goals as goal

pub loop-piece-preserved : goal.loop-piece-preserved
loop-piece-preserved c = expanded-step _ _ _ _ _ _ _ c.loop-piece-test.true c.piece-item.is c.loop-piece.invariant c.in_ok-push_piece.ensures

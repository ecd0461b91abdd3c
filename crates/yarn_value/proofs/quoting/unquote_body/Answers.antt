use Rattle.std.proofs.Common.{subst, sym}
use Rattle.yarn_value.proofs.QuotingLemmas.{IsUnquoting, IsUnquoting-step}
use Rattle.yarn_value.proofs.quoting.unquote_body.Goals as goal

pub loop-value-preserved : goal.loop-value-preserved
loop-value-preserved c = subst (λ v. IsUnquoting c.args.body.now v c.in-Char.after.now) (sym c.in_ok-push_char-in-Char.ensures.ok) (IsUnquoting-step _ _ _ _ _ c.loop-value.invariant c.in-Char.ensures)

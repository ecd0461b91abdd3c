use Rattle.std.proofs.Common.{subst}
use Rattle.yarn_items.specs.Step.{IsStep}
use Rattle.yarn_items.proofs.HashtagLemmas.{step-leading}
use Rattle.yarn_items.proofs.Utf8Lemmas.{past_leading-utf8, past_leading-solid}
use Rattle.yarn_items.proofs.hashtags.step_in.Goals as goal

pub step_at-requires-clause-utf8 : goal.step_at-requires-clause-utf8
step_at-requires-clause-utf8 c = rw c.without_blanks_before.ensures (past_leading-utf8 c.args.bytes.now c.requires)

pub step_at-requires-clause-solid : goal.step_at-requires-clause-solid
step_at-requires-clause-solid c = rw c.without_blanks_before.ensures (past_leading-solid c.args.bytes.now)

pub returns : goal.returns
returns c =
    step-leading c.args.bytes.now c.step_at.result (subst (λ l. IsStep l c.step_at.result) c.without_blanks_before.ensures c.step_at.ensures)

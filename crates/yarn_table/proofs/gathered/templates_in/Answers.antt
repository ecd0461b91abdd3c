use Rattle.std.proofs.Common.{◌∙◌, ap, sym, ◌++◌, ◌∷◌, []}
use Rattle.yarn_table.proofs.HeldLemmas.{read-more, read-other}
use Rattle.yarn_table.proofs.gathered.templates_in.Goals as goal

pub loop-one-preserved-in-Continue-branch-2 : goal.loop-one-preserved-in-Continue-branch-2
loop-one-preserved-in-Continue-branch-2 c =
    c.in_ok-push.ensures.items ∙ ap (λ all. all ++ c.in-Read.template ∷ []) c.loop-one.invariant ∙ sym (read-more c.loop-one.yielded c.in-Some.one c.in-Read.template c.in-Read.is)

pub loop-one-preserved : goal.loop-one-preserved
loop-one-preserved c = c.loop-one.invariant ∙ sym (read-other c.loop-one.yielded c.in-Some.one c.in_default.not-Read)

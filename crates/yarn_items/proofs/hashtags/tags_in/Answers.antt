use Rattle.std.proofs.Common.{sym, ap, ◌∙◌}
use Rattle.yarn_items.specs.Hashtags.{tags_of}
use Rattle.yarn_items.proofs.HashtagLemmas.{joined, joined-tag}
use Rattle.yarn_items.proofs.hashtags.tags_in.Goals as goal

pub loop-own-preserved : goal.loop-own-preserved
loop-own-preserved c =
    let tags = tags_of c.in-Tag.behind.now in
    let step = c.in-Tag.ensures in (
      ap (λ done. joined done tags) c.in_ok-push_tag-in-Tag.ensures ∙ joined-tag c.loop-own.tags c.in-Tag.own.now tags
          ∙ ap (joined c.loop-own.tags) (sym step.0) ∙ c.loop-own.invariant.0,
      step.3,
    )

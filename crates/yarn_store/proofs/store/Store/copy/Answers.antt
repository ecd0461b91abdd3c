use Rattle.std.proofs.Common.{◌≡◌, ap, ◌∙◌, rules}
use Rattle.yarn_value.specs.Pairs.{put}
use Rattle.yarn_store.proofs.WritingLemmas.{copied-step, pair_in_store}
use Rattle.yarn_store.proofs.store.Store.copy.Goals as goal

pub loop-at-preserved : goal.loop-at-preserved
loop-at-preserved c =
    let copy = c.loop-at.copy in
    let name = c.pair_at.result.0.now in
    let made : c.set.new.self ≡ put copy c.in_ok-copy.field-0 c.in_ok-copy-2.field-0 = search rules in
    let same = ap (λ n. put copy n c.in_ok-copy-2.field-0) c.in_ok-copy.ensures ∙ ap (λ v. put copy name v) c.in_ok-copy-2.ensures.equal in
    copied-step c.args.self.now copy c.set.new.self c.loop-at.at (name, c.pair_at.result.1.now) c.len-at-end.ensures.store c.loop-at.invariant c.pair_at.ensures (made ∙ same)

pub set-requires : goal.set-requires
set-requires c =
    let pair = pair_in_store c.args.self.now c.loop-at.at (c.pair_at.result.0.now, c.pair_at.result.1.now) c.len-at-end.ensures.store c.pair_at.ensures in
    rw (c.in_ok-copy.ensures, c.in_ok-copy-2.ensures.equal) pair

use Rattle.std.proofs.Common.{refl}
use Rattle.yarn_tree.specs.Checks.{titles_in, titles_of}
use Rattle.yarn_tree.specs.Names.{sight_of}
use Rattle.yarn_tree.proofs.ChecksLemmas.{parts-step}
use Rattle.yarn_tree.proofs.checks.see_titles.Goals as goal

pub loop-read-preserved : goal.loop-read-preserved
loop-read-preserved c =
    parts-step (λ read. titles_in read.number read.titles) titles_of (λ read reads. refl) c.args.reads.now c.loop-read.read-index c.read-item.result
    (sight_of c.loop-read.seen) _ _ c.loop-read-test.true c.read-item.is (rw c.as_slice.ensures at c.in_ok-see_titles_in.ensures) c.loop-read.invariant

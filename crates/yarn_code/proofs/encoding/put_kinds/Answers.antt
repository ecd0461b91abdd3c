use Rattle.yarn_code.specs.Layout.{kinds}
use Rattle.yarn_code.proofs.WritingLemmas.{HasWritten-end}
use Rattle.yarn_code.proofs.EncodingLemmas.{kinds_next}
use Rattle.yarn_code.proofs.encoding.put_kinds.Goals as goal

pub loop-kind-preserved : goal.loop-kind-preserved
loop-kind-preserved c =
    kinds_next c.args.all.now c.as_slice-kind-items.result.now c.loop-kind.kind-index _ c.args.out.now c.loop-kind.out c.put_kind.new.out
    c.as_slice-kind-items.ensures c.loop-kind-test.true c.loop-kind.invariant c.in_ok-put_kind.ensures

pub returns : goal.returns
returns c =
    HasWritten-end kinds c.args.all.now c.as_slice-kind-items.result.now c.loop-kind.kind-index c.args.out.now c.loop-kind.out c.as_slice-kind-items.ensures c.loop-kind-test.false c.loop-kind.invariant

use Rattle.yarn_code.specs.Layout.{instructions}
use Rattle.yarn_code.proofs.WritingLemmas.{HasWritten-next, HasWritten-end}
use Rattle.yarn_code.proofs.encoded_code.put_instructions.Goals as goal

pub loop-one-preserved : goal.loop-one-preserved
loop-one-preserved c =
    HasWritten-next instructions c.args.code.now c.as_slice-one-items.result.now c.loop-one.one-index c.one-item.result c.args.out.now c.loop-one.out c.put_coded.new.out
    c.as_slice-one-items.ensures c.loop-one-test.true c.one-item.is c.loop-one.invariant c.in_ok-put_coded.ensures

pub returns : goal.returns
returns c =
    HasWritten-end instructions c.args.code.now c.as_slice-one-items.result.now c.loop-one.one-index c.args.out.now c.loop-one.out
    c.as_slice-one-items.ensures c.loop-one-test.false c.loop-one.invariant

use Rattle.std.proofs.Common.{◌≡◌, ◌++◌, subst}
use Rattle.yarn_code.specs.Format.{U32, number_bytes}
use Rattle.std.proofs.Common.{take}
use Rattle.yarn_code.specs.Layout.{function}
use Rattle.yarn_code.proofs.WritingLemmas.{HasWritten-next, HasWritten-end, item_here, many_written}
use Rattle.yarn_code.proofs.EncodingLemmas.{function_new}
use Rattle.yarn_code.proofs.encoding.put_functions.Goals as goal

pub loop-function-preserved : goal.loop-function-preserved
loop-function-preserved c =
    HasWritten-next function c.args.functions.now c.as_slice-function-items.result.now c.loop-function.function-index c.function-item.result c.put_count.new.out c.loop-function.out c.put_function.new.out
    c.as_slice-function-items.ensures c.loop-function-test.true c.function-item.is c.loop-function.invariant
    (c.in_ok-put_function.ensures (take c.loop-function.function-index c.args.functions.now) (function_new c.args.functions.now c.loop-function.function-index c.function-item.result c.requires.differ (item_here c.args.functions.now c.as_slice-function-items.result.now c.loop-function.function-index c.function-item.result c.as_slice-function-items.ensures c.loop-function-test.true c.function-item.is)))

pub returns : goal.returns
returns c =
    many_written function c.args.functions.now c.args.out.now c.put_count.new.out c.loop-function.out c.requires.count
    (subst (λ k. c.put_count.new.out ≡ c.args.out.now ++ number_bytes U32 k) c.len.ensures c.in_ok-put_count.ensures)
    (HasWritten-end function c.args.functions.now c.as_slice-function-items.result.now c.loop-function.function-index c.put_count.new.out c.loop-function.out c.as_slice-function-items.ensures c.loop-function-test.false c.loop-function.invariant)

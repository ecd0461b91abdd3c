use Rattle.std.proofs.Common.{◌≡◌, ◌++◌, subst}
use Rattle.yarn_code.specs.Format.{U32, number_bytes}
use Rattle.std.proofs.Common.{take}
use Rattle.yarn_code.specs.Layout.{variable}
use Rattle.yarn_code.proofs.WritingLemmas.{HasWritten-next, HasWritten-end, item_here, many_written}
use Rattle.yarn_code.proofs.EncodingLemmas.{variable_new}
use Rattle.yarn_code.proofs.encoding.put_variables.Goals as goal

pub loop-variable-preserved : goal.loop-variable-preserved
loop-variable-preserved c =
    HasWritten-next variable c.args.variables.now c.as_slice-variable-items.result.now c.loop-variable.variable-index c.variable-item.result c.put_count.new.out c.loop-variable.out c.put_variable.new.out
    c.as_slice-variable-items.ensures c.loop-variable-test.true c.variable-item.is c.loop-variable.invariant
    (c.in_ok-put_variable.ensures (take c.loop-variable.variable-index c.args.variables.now) (variable_new c.args.variables.now c.loop-variable.variable-index c.variable-item.result c.requires.differ (item_here c.args.variables.now c.as_slice-variable-items.result.now c.loop-variable.variable-index c.variable-item.result c.as_slice-variable-items.ensures c.loop-variable-test.true c.variable-item.is)))

pub returns : goal.returns
returns c =
    many_written variable c.args.variables.now c.args.out.now c.put_count.new.out c.loop-variable.out c.requires.count
    (subst (λ k. c.put_count.new.out ≡ c.args.out.now ++ number_bytes U32 k) c.len.ensures c.in_ok-put_count.ensures)
    (HasWritten-end variable c.args.variables.now c.as_slice-variable-items.result.now c.loop-variable.variable-index c.put_count.new.out c.loop-variable.out c.as_slice-variable-items.ensures c.loop-variable-test.false c.loop-variable.invariant)

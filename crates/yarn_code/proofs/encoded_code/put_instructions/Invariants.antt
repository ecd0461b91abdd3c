use Rattle.yarn_code.specs.Layout.{instructions}
use Rattle.yarn_code.specs.Writing.{HasWritten}
use Rattle.yarn_code.proofs.encoded_code.put_instructions.Given as goal

abbrev pub invariant-loop-one : goal.invariant-loop-one
invariant-loop-one l = HasWritten instructions l.code l.one-index l.fn.out l.out

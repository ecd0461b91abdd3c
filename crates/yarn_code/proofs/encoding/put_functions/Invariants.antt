use Rattle.yarn_code.specs.Layout.{function}
use Rattle.yarn_code.specs.Writing.{HasWritten}
use Rattle.yarn_code.proofs.encoding.put_functions.Given as goal

abbrev pub invariant-loop-function : goal.invariant-loop-function
invariant-loop-function l = HasWritten function l.functions l.function-index l.initial.out l.out

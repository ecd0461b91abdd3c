use Rattle.yarn_code.specs.Layout.{variable}
use Rattle.yarn_code.specs.Writing.{HasWritten}
use Rattle.yarn_code.proofs.encoding.put_variables.Given as goal

abbrev pub invariant-loop-variable : goal.invariant-loop-variable
invariant-loop-variable l = HasWritten variable l.variables l.variable-index l.initial.out l.out

use Rattle.yarn_code.specs.Layout.{kinds}
use Rattle.yarn_code.specs.Writing.{HasWritten}
use Rattle.yarn_code.proofs.encoding.put_kinds.Given as goal

abbrev pub invariant-loop-kind : goal.invariant-loop-kind
invariant-loop-kind l = HasWritten kinds l.all l.kind-index l.initial.out l.out

use Rattle.std.proofs.Common.{◌≡◌}
use Rattle.yarn_value.specs.Pairs.{with_missing}
use Rattle.yarn_walker.specs.Variables.{pairs_of}
use Rattle.yarn_walker.proofs.variables.first_store.Given as goal

abbrev pub invariant-loop-variable : goal.invariant-loop-variable
invariant-loop-variable l = l.store ≡ with_missing l.fn.pairs (pairs_of l.yielded)

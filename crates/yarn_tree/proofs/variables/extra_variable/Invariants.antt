use Rattle.std.proofs.Common.{◌≡◌, drop, map}
use Rattle.yarn_tree.specs.Checks.{variables_in, extra_name}
use Rattle.yarn_tree.specs.Names.{no_name}
use Rattle.yarn_tree.specs.Uses.{use_at}
use Rattle.yarn_tree.specs.Variables.{extra_in}
use Rattle.yarn_tree.proofs.variables.extra_variable.Given as goal

abbrev pub invariant-loop-one : goal.invariant-loop-one
invariant-loop-one l =
    extra_in l.room (variables_in (map use_at (drop l.one-index l.uses))) ≡ extra_name 65536 no_name (variables_in (map use_at l.uses))

use Rattle.std.proofs.Common.{◌≡◌, drop, map}
use Rattle.yarn_tree.specs.Trees.{file_tree}
use Rattle.yarn_meaning.specs.Variables.{first_other, variables_of}
use Rattle.yarn_walker.specs.Variables.{pairs_of}
use Rattle.yarn_walker.proofs.variables.first_other.Given as goal

abbrev pub invariant-loop-variable : goal.invariant-loop-variable
invariant-loop-variable l =
    first_other l.pairs (pairs_of (drop l.variable-index l.variable-items)) ≡ first_other l.pairs (variables_of l.typing.entries (map file_tree l.files))

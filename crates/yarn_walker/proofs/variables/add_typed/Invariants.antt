use Rattle.std.proofs.Common.{◌≡◌, ◌++◌, drop}
use Rattle.yarn_meaning.specs.Variables.{typed_pairs}
use Rattle.yarn_walker.specs.Variables.{pairs_of}
use Rattle.yarn_walker.proofs.variables.add_typed.Given as goal

abbrev pub invariant-loop-entry : goal.invariant-loop-entry
invariant-loop-entry l =
    pairs_of l.all.items ++ typed_pairs l.declared (drop l.entry-index l.entries) ≡ pairs_of l.fn.all.items ++ typed_pairs l.declared l.entries

use Rattle.std.proofs.Common.{◌≡◌, [], drop, map}
use Rattle.yarn_tree.specs.Trees.{file_tree}
use Rattle.yarn_meaning.specs.Variables.{declared_in_files}
use Rattle.yarn_value.specs.Pairs.{with_missing}
use Rattle.yarn_walker.proofs.variables.declared.Given as goal

abbrev pub invariant-loop-file : goal.invariant-loop-file
invariant-loop-file l =
    with_missing l.store (declared_in_files (map file_tree (drop l.file-index l.files))) ≡ with_missing [] (declared_in_files (map file_tree l.files))

use Rattle.std.proofs.Common.{◌≡◌, ◌++◌, drop, map}
use Rattle.yarn_tree.specs.Trees.{file_tree}
use Rattle.yarn_meaning.specs.Variables.{variables_of, counts_of}
use Rattle.yarn_walker.specs.Variables.{pairs_of}
use Rattle.yarn_walker.proofs.variables.variables.Given as goal

abbrev pub invariant-loop-file : goal.invariant-loop-file
invariant-loop-file l =
    pairs_of l.all.items ++ counts_of (map file_tree (drop l.file-index l.files)) ≡ variables_of l.typing.entries (map file_tree l.files)

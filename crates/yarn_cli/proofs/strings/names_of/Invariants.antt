use Rattle.std.proofs.Common.{◌≡◌, map, take}
use Rattle.yarn_tree.specs.Trees.{file_tree}
use Rattle.yarn_cli.specs.Strings.{file_names}
use Rattle.yarn_cli.proofs.strings.names_of.Given as goal

abbrev pub invariant-loop-file : goal.invariant-loop-file
invariant-loop-file l = l.names ≡ file_names (map file_tree (take l.file-index l.files))

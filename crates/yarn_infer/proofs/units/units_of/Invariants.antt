use Rattle.std.proofs.Common.{◌≡◌, ◌++◌, map, drop}
use Rattle.yarn_tree.specs.Trees.{file_tree}
use Rattle.yarn_types.specs.Units.{unit_of}
use Rattle.yarn_infer.specs.Units.{files_units, units_of}
use Rattle.yarn_infer.proofs.units.units_of.Given as goal

abbrev pub invariant-loop-own : goal.invariant-loop-own
invariant-loop-own l =
    map unit_of l.units.items ++ files_units l.file (map file_tree (drop l.own-index l.project.files)) ≡ units_of (map file_tree l.project.files)

-- What the reading of a project answers, in words of trees.
use Rattle.std.specs.Prelude.{◌≡◌, List, map, Result, Ok, Err}
use Rattle.yarn_tree.specs.declared.refusal.ProjectFault.{ProjectFault}
use Rattle.yarn_tree.specs.declared.tree.Project.{Project}
use Rattle.yarn_tree.specs.Reading.{Reading, Reads, IsFault}
use Rattle.yarn_tree.specs.Trees.{FileTree, file_tree}

-- the project's trees are those that are read
abbrev pub IsTreeAnswer : Reading (List FileTree) → Result Project ProjectFault → Type 0
IsTreeAnswer reading (Ok project) = reading ≡ Reads (map file_tree project.files)
IsTreeAnswer reading (Err fault) = IsFault reading fault

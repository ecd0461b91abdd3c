-- What `check` has to do (docs/commands.md, check): read last to first.
use Rattle.std.specs.Prelude.{ℕ, ◌+◌, List, [], ◌∷◌, ◌++◌, length, codes}
use Rattle.std.specs.Fmt.{decimal}
use Rattle.yarn_base.specs.Outside.{Named}
use Rattle.yarn_types.specs.declared.typed.TypedName.{TypedName}
use Rattle.yarn_tree.specs.Trees.{FileTree}
use Rattle.yarn_tree.specs.Reading.{Reading, Reads, Refuses, reading_of}
use Rattle.yarn_cli.specs.Command.{Command}
use Rattle.yarn_cli.specs.Messages.{kind_text}
use Rattle.yarn_cli.specs.Outcome.{Outcome, of_done, of_refusal, of_kinding, of_all, kinds_of, trees_of}
use Rattle.yarn_cli.specs.Sources.{sources_of}

-- the numbers of files, nodes and variables
abbrev pub nodes_in : List FileTree → ℕ
nodes_in [] = 0
nodes_in (file ∷ files) = length file.nodes + nodes_in files

abbrev pub counts_text : List FileTree → List TypedName → List ℕ
counts_text files entries =
    codes "ok " ++ (decimal (length files) ++ (codes " " ++ (decimal (nodes_in files) ++ (codes " " ++ (decimal (length entries) ++ 10 ∷ [])))))

abbrev pub of_counts : List FileTree → List TypedName → Outcome
of_counts files entries = of_done (counts_text files entries)

abbrev pub of_checked : Command → Reading (List FileTree) → Outcome
of_checked command (Refuses kind place) = of_refusal command.names (kind_text kind) place
of_checked command (Reads files) = of_kinding command.names (kinds_of files) (of_counts files)

-- `check`: the numbers of the project's files, nodes and variables, or the refusal
abbrev pub of_check : Command → Named → Outcome
of_check command named = of_all (λ files. of_checked command (trees_of (reading_of [] files))) (sources_of named command.names)

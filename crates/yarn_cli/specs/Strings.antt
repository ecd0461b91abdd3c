-- What `strings` has to do (docs/commands.md, strings): read last to first.
use Rattle.std.specs.Prelude.{ℕ, List, [], map}
use Rattle.yarn_base.specs.Outside.{Named}
use Rattle.yarn_tree.specs.Trees.{FileTree}
use Rattle.yarn_tree.specs.Reading.{Reading, Reads, Refuses, reading_of}
use Rattle.yarn_meaning.specs.First.{nodes_from}
use Rattle.yarn_ids.specs.Base.{base_rows}
use Rattle.yarn_table.specs.Written.{Names, table_text}
use Rattle.yarn_cli.specs.Command.{Command}
use Rattle.yarn_cli.specs.Messages.{kind_text}
use Rattle.yarn_cli.specs.Outcome.{Outcome, of_done, of_refusal, of_kinding, of_all, kinds_of, trees_of}
use Rattle.yarn_cli.specs.Sources.{sources_of}

-- the names of the files, and the titles of the nodes of all files
abbrev pub file_names : List FileTree → List (List ℕ)
file_names files = map (λ file. file.name) files

abbrev pub node_titles : List FileTree → List (List ℕ)
node_titles files = map (λ placed. placed.node.title) (nodes_from 0 files)

abbrev pub names_in : List FileTree → Names
names_in files = (file_names files, node_titles files)

-- the table of the project's lines and options
abbrev pub strings_text : List FileTree → List ℕ
strings_text files = table_text (names_in files) (base_rows files)

abbrev pub of_listed : Command → Reading (List FileTree) → Outcome
of_listed command (Refuses kind place) = of_refusal command.names (kind_text kind) place
of_listed command (Reads files) = of_kinding command.names (kinds_of files) (λ entries. of_done (strings_text files))

-- `strings`: the table of the project's lines and options, or the refusal
abbrev pub of_strings : Command → Named → Outcome
of_strings command named = of_all (λ files. of_listed command (trees_of (reading_of [] files))) (sources_of named command.names)

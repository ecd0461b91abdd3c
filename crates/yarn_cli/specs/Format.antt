-- What `format` has to do (docs/commands.md, format): read last to first.
use Rattle.std.specs.Prelude.{ℕ, List, ◌++◌, codes}
use Rattle.std.specs.List.{flat_map}
use Rattle.yarn_base.specs.declared.SourceFile.{SourceFile}
use Rattle.yarn_base.specs.Outside.{Named}
use Rattle.yarn_blocks.specs.Layout.{laid}
use Rattle.yarn_nodes.specs.declared.node.FileLines.{FileLines}
use Rattle.yarn_print.specs.Print.{file_tags_text, headers_text, ended, entries_text}
use Rattle.yarn_tree.specs.Trees.{NodeTree, FileTree, grown}
use Rattle.yarn_tree.specs.Reading.{Reading, Reads, Refuses, file_reading_of}
use Rattle.yarn_cli.specs.Command.{Command}
use Rattle.yarn_cli.specs.Messages.{name_at, kind_text}
use Rattle.yarn_cli.specs.Outcome.{Outcome, of_done, of_refusal, of_one}

-- the canonical text of a file that was read
abbrev pub node_text : NodeTree → List ℕ
node_text node = headers_text node.headers ++ (ended (codes "---") ++ (entries_text (laid 0 node.body) ++ ended (codes "===")))

abbrev pub tree_text : FileTree → List ℕ
tree_text tree = file_tags_text tree.tags ++ flat_map node_text tree.nodes

abbrev pub printed : Reading FileLines → Reading (List ℕ)
printed (Refuses kind place) = Refuses kind place
printed (Reads file) = Reads (tree_text (grown file))

abbrev pub of_text : List (List ℕ) → Reading (List ℕ) → Outcome
of_text names (Refuses kind place) = of_refusal names (kind_text kind) place
of_text names (Reads text) = of_done text

-- the canonical text of a file, or its refusal
abbrev pub of_formatted : Command → SourceFile → Outcome
of_formatted command file = of_text command.names (printed (file_reading_of file))

-- `format`: the canonical text of its one file, which is judged alone
abbrev pub of_format : Command → Named → Outcome
of_format command named = of_one (of_formatted command) (name_at command.names 0) (named (name_at command.names 0))

-- What `tag` has to do (docs/commands.md, tag): read last to first.
use Rattle.std.specs.Prelude.{ℕ, List, codes}
use Rattle.yarn_base.specs.declared.Place.{Place}
use Rattle.yarn_base.specs.declared.SourceFile.{SourceFile}
use Rattle.yarn_base.specs.Outside.{Named}
use Rattle.yarn_tree.specs.Reading.{Reading, Reads, Refuses}
use Rattle.yarn_tag.specs.Tagging.{Tagging, Tags, UsesUp, Exceeds, tagging_of}
use Rattle.yarn_cli.specs.Command.{Command, from_of}
use Rattle.yarn_cli.specs.Messages.{name_at, kind_text}
use Rattle.yarn_cli.specs.Outcome.{Outcome, of_done, of_refusal, of_one}

-- a line of the one file
abbrev pub at_line : ℕ → Place
at_line line = record { file = 0; line = line }

abbrev pub of_tagging : List (List ℕ) → Tagging → Outcome
of_tagging names (Tags text) = of_done text
of_tagging names UsesUp = of_refusal names (codes "IdsUsedUp") (at_line 0)
of_tagging names (Exceeds line) = of_refusal names (codes "TooLong") (at_line line)

abbrev pub of_tags : List (List ℕ) → Reading Tagging → Outcome
of_tags names (Refuses kind place) = of_refusal names (kind_text kind) place
of_tags names (Reads told) = of_tagging names told

-- the text of a file with tags, or its refusal
abbrev pub of_tagged : Command → SourceFile → Outcome
of_tagged command file = of_tags command.names (tagging_of file (from_of command))

-- `tag`: the text of its one file, in which each line and option has an id
abbrev pub of_tag : Command → Named → Outcome
of_tag command named = of_one (of_tagged command) (name_at command.names 0) (named (name_at command.names 0))

-- What the words of a call have to do: `outcome_of`, by the commands that they may be (docs/commands.md).
use Rattle.std.specs.Prelude.{ℕ, List, [], ◌∷◌, ◌++◌, Bool, true, false, Option, Some, None}
use Rattle.yarn_base.specs.Outside.{Named}
use Rattle.yarn_cli.specs.declared.command.CommandKind.{CommandKind}
use Rattle.yarn_cli.specs.declared.command.CommandKind.TheVariants.{Check, Format, Strings, Tag, Play}
use Rattle.yarn_cli.specs.declared.command.CommandKind.TheVariants as kinds
use Rattle.yarn_cli.specs.declared.status.Status.TheVariants.{Usage}
use Rattle.yarn_cli.specs.Command.{Command, vars_name_of, save_vars_of}
use Rattle.yarn_cli.specs.Found.{command_of}
use Rattle.yarn_cli.specs.Messages.{usage}
use Rattle.yarn_cli.specs.Outcome.{Whole, untouched}
use Rattle.yarn_cli.specs.Check.{of_check}
use Rattle.yarn_cli.specs.Format.{of_format}
use Rattle.yarn_cli.specs.List.{of_list}
use Rattle.yarn_cli.specs.Play.{of_play}
use Rattle.yarn_cli.specs.Strings.{of_strings}
use Rattle.yarn_cli.specs.Tag.{of_tag}

abbrev pub of_kind : CommandKind → Command → Named → List ℕ → Whole
of_kind Check command named input = untouched named input (of_check command named)
of_kind Play command named input = of_play command named input
of_kind Format command named input = untouched named input (of_format command named)
of_kind Strings command named input = untouched named input (of_strings command named)
of_kind Tag command named input = untouched named input (of_tag command named)
of_kind kinds.List command named input = untouched named input (of_list command named)

abbrev pub of_command : Command → Named → List ℕ → Whole
of_command command = of_kind command.kind command

abbrev pub of_words : Option Command → Named → List ℕ → Whole
of_words None named input = untouched named input (record { status = Usage; out = []; err = usage })
of_words (Some command) named input = of_command command named input

abbrev pub outcome_of : List (List ℕ) → Named → List ℕ → Whole
outcome_of words = of_words (command_of words)

-- ---- what the words name

-- the files that are read, in order
abbrev pub with_vars_name : List (List ℕ) → Option (List ℕ) → List (List ℕ)
with_vars_name names None = names
with_vars_name names (Some name) = names ++ name ∷ []

abbrev pub read_names : Command → List (List ℕ)
read_names command = with_vars_name command.names (vars_name_of command)

abbrev pub reads_of : Option Command → List (List ℕ)
reads_of None = []
reads_of (Some command) = read_names command

-- the file that is written
abbrev pub saved_by : Option Command → Option (List ℕ)
saved_by None = None
saved_by (Some command) = save_vars_of command

-- whether the input is taken
abbrev pub takes_input_of : CommandKind → Bool
takes_input_of Play = true
takes_input_of Check = false
takes_input_of Format = false
takes_input_of Strings = false
takes_input_of Tag = false
takes_input_of kinds.List = false

abbrev pub takes_input : Option Command → Bool
takes_input None = false
takes_input (Some command) = takes_input_of command.kind

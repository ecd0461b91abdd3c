-- Laws that tie the command that is found of words to what the words say.
use Rattle.std.specs.Prelude.{◌≡◌, ◌↔◌, ℕ, List, Option, Some, None}
use Rattle.yarn_cli.specs.Command.{Command}
use Rattle.yarn_cli.specs.CommandLine.{CommandLine}
use Rattle.yarn_cli.specs.Found.{command_of}

-- a command is found exactly where the words say it
abbrev pub CommandsAreFound : Type 0
CommandsAreFound = (words : List (List ℕ)) (command : Command) → (command_of words ≡ Some command) ↔ CommandLine words command

-- words say at most one command
abbrev pub OneCommand : Type 0
OneCommand = (words : List (List ℕ)) (a b : Command) → CommandLine words a → CommandLine words b → a ≡ b

-- no command is found exactly where the words say none
abbrev pub NoCommandIsLeft : Type 0
NoCommandIsLeft = (words : List (List ℕ)) → (command_of words ≡ None) ↔ ((command : Command) → CommandLine words command → ⊥)

-- the words say the command, or none where none is given
abbrev pub WordsSay : List (List ℕ) → Option Command → Type 0
WordsSay words None = (command : Command) → CommandLine words command → ⊥
WordsSay words (Some command) = CommandLine words command

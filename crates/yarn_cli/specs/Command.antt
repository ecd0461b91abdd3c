-- A command: its kind, its pairs and its names (docs/commands.md, Words).
use Rattle.std.specs.Prelude.{ℕ, List, [], ◌∷◌, if◌then◌else◌, Option, Some, None, codes}
use Rattle.std.specs.Str.{bytes_eq}
use Rattle.yarn_cli.specs.declared.command.CommandKind.{CommandKind}
use Rattle.yarn_cli.specs.declared.command.Pair.{Pair}
use Rattle.yarn_cli.specs.Words.{number_in}

pub record Command : Type 0 where
  pub kind : CommandKind
  -- names without their `--`, in the order in which they were given
  pub pairs : List Pair
  pub names : List (List ℕ)

-- the value that was given under a name
abbrev pub value_of : List ℕ → List Pair → Option (List ℕ)
value_of name [] = None
value_of name (pair ∷ pairs) = if bytes_eq pair.name name then Some pair.value else value_of name pairs

abbrev pub or_default : {A : Type 0} → A → Option A → A
or_default x None = x
or_default x (Some y) = y

-- the title of the node to start from
abbrev pub start_of : Command → List ℕ
start_of command = or_default (codes "Start") (value_of (codes "start") command.pairs)

-- the number of a word that was given for a limit
abbrev pub limit_in : Option (List ℕ) → Option ℕ
limit_in None = None
limit_in (Some word) = number_in 1 1000000000 word

-- the most events of the run
abbrev pub limit_of : Command → ℕ
limit_of command = or_default 100000 (limit_in (value_of (codes "limit") command.pairs))

-- the number of a word that was given for the first number of a tag
abbrev pub from_in : Option (List ℕ) → Option ℕ
from_in None = None
from_in (Some word) = number_in 0 268435455 word

-- the first number of a tag
abbrev pub from_of : Command → ℕ
from_of command = or_default 0 (from_in (value_of (codes "from") command.pairs))

-- the file with the variables to begin with
abbrev pub vars_name_of : Command → Option (List ℕ)
vars_name_of command = value_of (codes "vars") command.pairs

-- the file to which the variables are written
abbrev pub save_vars_of : Command → Option (List ℕ)
save_vars_of command = value_of (codes "save-vars") command.pairs

-- Private values of the code, as the definitions have them.
use Rattle.std.specs.Prelude.{ℕ, List, Option, Some, None}
use Rattle.yarn_cli.specs.declared.command.CommandKind.{CommandKind}
use Rattle.yarn_cli.specs.declared.command.Pair.{Pair}
use Rattle.yarn_cli.specs.declared.row.Row.{Row as RowFound}
use Rattle.yarn_cli.specs.Command.{Command}
use Rattle.yarn_cli.specs.CommandLine.{Row}

abbrev pub row_seen : RowFound → Row
row_seen row = record { name = row.name.now; form = row.form }

abbrev pub more_rows : Option RowFound → Option Row
more_rows None = None
more_rows (Some row) = Some (row_seen row)

-- a command of these parts
abbrev pub made : CommandKind → List Pair → List (List ℕ) → Command
made kind pairs names = record { kind = kind; pairs = pairs; names = names }

-- The rows that a table holds.
use Rattle.std.specs.Prelude.{ℕ, List}
use Rattle.yarn_value.specs.declared.builtin.Builtins.{Builtins}
use Rattle.yarn_value.specs.Builtins.{Row, rows_of}

abbrev pub rows_in : {N : ℕ} → Builtins N → List Row
rows_in table = rows_of table.rows.now

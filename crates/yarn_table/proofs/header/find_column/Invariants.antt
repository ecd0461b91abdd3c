use Rattle.csv.specs.Records.{fields_of}
use Rattle.yarn_table.proofs.ColumnLemmas.{NoneBefore}
use Rattle.yarn_table.proofs.header.find_column.Given as goal

abbrev pub invariant-loop-at : goal.invariant-loop-at
invariant-loop-at l = NoneBefore l.name (fields_of l.header) l.at

use Rattle.std.proofs.Common.{sym}
use Rattle.csv.specs.Records.{fields_of}
use Rattle.csv.proofs.RecordFacts.{field-get}
use Rattle.yarn_table.proofs.ColumnLemmas.{no_field}
use Rattle.yarn_table.proofs.header.field.Goals as goal

pub returns-in-Some : goal.returns-in-Some
returns-in-Some c = sym (field-get (fields_of c.args.from.now) c.args.at c.in-Some.text.now (sym (rw c.in-Some.is at c.get.ensures.value)))

pub returns-in-None : goal.returns-in-None
returns-in-None c = sym (no_field (fields_of c.args.from.now) c.args.at (sym (rw c.in-None.is at c.get.ensures.value)))

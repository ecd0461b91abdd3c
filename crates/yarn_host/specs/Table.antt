-- How contracts see a table, by what is told of what it holds (docs/guide-hosts.md, The table).
use Rattle.std.specs.Prelude.{map}
use Rattle.yarn_host.specs.Meaning.{Meaning}
use Rattle.yarn_host.specs.Hosts.{Hosts}
use Rattle.yarn_host.specs.declared.table.Table.{Table}

abbrev pub hosts_of : {B : Type 0} → (B → Meaning) → Table B → Hosts
hosts_of meaning table = record {
  signatures = table.signatures;
  meanings = map meaning table.functions.items;
  tape = table.tape;
}

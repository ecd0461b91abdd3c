use Rattle.std.proofs.Common.{◌≡◌, ◌-◌, []}
use Rattle.yarn_code.specs.Decoding.{is_free}
use Rattle.yarn_code.specs.Fields.{titles_of}
use Rattle.yarn_code.specs.Format.{times}
use Rattle.yarn_code.specs.FormatReading.{read}
use Rattle.yarn_code.specs.Layout.{node, is_new}
use Rattle.yarn_code.proofs.decoding.read_each_node.Given as goal

abbrev pub invariant-loop : goal.invariant-loop
invariant-loop l = (read (times (l.count - l.counter) (node l.files) l.nodes.items) l.rest ≡ read (times l.count (node l.files) []) l.bytes) × (is_free l.titles ≡ is_new (titles_of l.nodes.items))

use Rattle.std.proofs.Common.{◌≡◌, ◌-◌, []}
use Rattle.yarn_code.specs.Decoding.{is_free}
use Rattle.yarn_code.specs.Fields.{ids_of}
use Rattle.yarn_code.specs.Format.{times}
use Rattle.yarn_code.specs.FormatReading.{read}
use Rattle.yarn_code.specs.Layout.{base_line, is_new}
use Rattle.yarn_code.proofs.decoding.read_each_line.Given as goal

abbrev pub invariant-loop : goal.invariant-loop
invariant-loop l = (read (times (l.count - l.counter) (base_line l.files l.nodes) l.lines.items) l.rest ≡ read (times l.count (base_line l.files l.nodes) []) l.bytes) × (is_free l.ids ≡ is_new (ids_of l.lines.items))

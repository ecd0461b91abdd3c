use Rattle.std.proofs.Common.{◌≡◌, ◌-◌, []}
use Rattle.yarn_code.specs.Format.{times}
use Rattle.yarn_code.specs.FormatReading.{read}
use Rattle.yarn_code.specs.Layout.{kinds}
use Rattle.yarn_code.proofs.decoding.read_kinds.Given as goal

abbrev pub invariant-loop : goal.invariant-loop
invariant-loop l = read (times (l.count - l.counter) kinds l.all.items) l.rest ≡ read (times l.count kinds []) l.bytes

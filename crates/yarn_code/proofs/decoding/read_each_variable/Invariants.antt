use Rattle.std.proofs.Common.{◌≡◌, ◌-◌, []}
use Rattle.yarn_code.specs.Decoding.{is_free}
use Rattle.yarn_code.specs.Fields.{names_of}
use Rattle.yarn_code.specs.Format.{times}
use Rattle.yarn_code.specs.FormatReading.{read}
use Rattle.yarn_code.specs.Layout.{variable, is_new}
use Rattle.yarn_code.proofs.decoding.read_each_variable.Given as goal

abbrev pub invariant-loop : goal.invariant-loop
invariant-loop l = (read (times (l.count - l.counter) variable l.variables.items) l.rest ≡ read (times l.count variable []) l.bytes) × (is_free l.names ≡ is_new (names_of l.variables.items))

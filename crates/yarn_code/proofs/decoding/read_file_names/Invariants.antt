use Rattle.std.proofs.Common.{◌≡◌, ◌-◌, []}
use Rattle.yarn_code.specs.Format.{times}
use Rattle.yarn_code.specs.FormatReading.{read}
use Rattle.yarn_code.specs.Layout.{file_name}
use Rattle.yarn_code.proofs.decoding.read_file_names.Given as goal

abbrev pub invariant-loop : goal.invariant-loop
invariant-loop l = read (times (l.count - l.counter) file_name l.files.items) l.rest ≡ read (times l.count file_name []) l.bytes

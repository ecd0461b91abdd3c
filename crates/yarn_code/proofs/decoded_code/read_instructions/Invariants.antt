use Rattle.std.proofs.Common.{◌≡◌, ◌-◌, []}
use Rattle.yarn_code.specs.Format.{times}
use Rattle.yarn_code.specs.FormatReading.{read}
use Rattle.yarn_code.specs.Layout.{instructions}
use Rattle.yarn_code.proofs.decoded_code.read_instructions.Given as goal

abbrev pub invariant-loop : goal.invariant-loop
invariant-loop l = read (times (l.count - l.counter) instructions l.code.items) l.rest ≡ read (times l.count instructions []) l.bytes

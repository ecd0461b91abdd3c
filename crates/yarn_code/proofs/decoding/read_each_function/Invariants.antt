use Rattle.std.proofs.Common.{◌≡◌, ◌-◌, []}
use Rattle.yarn_code.specs.Decoding.{is_free}
use Rattle.yarn_code.specs.Fields.{function_names}
use Rattle.yarn_code.specs.Format.{times}
use Rattle.yarn_code.specs.FormatReading.{read}
use Rattle.yarn_code.specs.Layout.{function, is_new}
use Rattle.yarn_code.proofs.decoding.read_each_function.Given as goal

abbrev pub invariant-loop : goal.invariant-loop
invariant-loop l = (read (times (l.count - l.counter) function l.functions.items) l.rest ≡ read (times l.count function []) l.bytes) × (is_free l.names ≡ is_new (function_names l.functions.items))

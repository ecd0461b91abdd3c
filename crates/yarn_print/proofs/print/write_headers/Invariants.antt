use Rattle.std.proofs.Common.{◌≡◌, ◌++◌, drop}
use Rattle.yarn_print.specs.Print.{headers_text}
use Rattle.yarn_print.proofs.print.write_headers.Given as goal

abbrev pub invariant-loop-header : goal.invariant-loop-header
invariant-loop-header l = l.out ++ headers_text (drop l.header-index l.header-items) ≡ l.initial.out ++ headers_text l.header-items

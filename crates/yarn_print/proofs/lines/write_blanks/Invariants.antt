use Rattle.std.proofs.Common.{◌≡◌, ◌*◌, ◌++◌}
use Rattle.yarn_print.specs.Print.{blanks}
use Rattle.yarn_print.proofs.lines.write_blanks.Given as goal

abbrev pub invariant-loop : goal.invariant-loop
invariant-loop l = l.out ≡ l.initial.out ++ blanks (4 * l.counter)

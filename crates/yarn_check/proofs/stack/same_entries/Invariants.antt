use Rattle.std.proofs.Common.{◌≡◌, map, drop, length}
use Rattle.std.specs.Cmp.Lexicographic.{pointwise}
use Rattle.yarn_check.specs.Pass.{same_entry}
use Rattle.yarn_check.specs.Views.{entry_of}
use Rattle.yarn_check.proofs.stack.same_entries.Given as goal

abbrev pub invariant-loop-at : goal.invariant-loop-at
invariant-loop-at l = record {
  long : length l.a ≡ length l.b;
  rest : pointwise same_entry (map entry_of l.a) (map entry_of l.b) ≡ pointwise same_entry (drop l.at (map entry_of l.a)) (drop l.at (map entry_of l.b));
}

use Rattle.std.proofs.Common.{length}
use Rattle.yarn_value.proofs.TableLemmas.{IsLeft}
use Rattle.yarn_value.proofs.builtin.Builtins.find.Given as goal

abbrev pub invariant-loop-front : goal.invariant-loop-front
invariant-loop-front g l = IsLeft l.rows l.self.rows.now l.name

abbrev pub decreases-loop-front : goal.decreases-loop-front
decreases-loop-front g l = length l.rows

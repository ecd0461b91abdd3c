use Rattle.std.proofs.Common.{◌≡◌, ◌++◌, length, IsUtf8}
use Rattle.yarn_value.specs.Quoting.{escape}
use Rattle.yarn_value.proofs.quoting.push_escaped.Given as goal

abbrev pub invariant-loop-c : goal.invariant-loop-c
invariant-loop-c l = IsUtf8 l.rest × (l.out ++ escape l.rest ≡ l.fn.out ++ escape l.text)

abbrev pub decreases-loop-c : goal.decreases-loop-c
decreases-loop-c l = length l.rest

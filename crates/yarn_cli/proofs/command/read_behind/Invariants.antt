use Rattle.std.proofs.Common.{◌≡◌, [], length}
use Rattle.yarn_cli.specs.Found.{found_behind}
use Rattle.yarn_cli.proofs.command.read_behind.Given as goal

abbrev pub invariant-loop-next : goal.invariant-loop-next
invariant-loop-next l = found_behind l.kind l.pairs l.rest ≡ found_behind l.kind [] l.words

abbrev pub decreases-loop-next : goal.decreases-loop-next
decreases-loop-next l = length l.rest

use Rattle.std.proofs.Common.{◌≡◌, drop}
use Rattle.yarn_cli.specs.Command.{value_of}
use Rattle.yarn_cli.proofs.command.value_in.Given as goal

abbrev pub invariant-loop-pair : goal.invariant-loop-pair
invariant-loop-pair l = value_of l.name (drop l.pair-index l.pairs) ≡ value_of l.name l.pairs

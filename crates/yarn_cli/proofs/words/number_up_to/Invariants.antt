use Rattle.std.proofs.Common.{◌≡◌, ◌≤◌, drop}
use Rattle.yarn_cli.specs.Words.{number_behind}
use Rattle.yarn_cli.proofs.words.number_up_to.Given as goal

abbrev pub invariant-loop-byte : goal.invariant-loop-byte
invariant-loop-byte l =
    (number_behind l.number (drop l.byte-index l.digits) ≡ number_behind 0 l.digits) × (l.number ≤ l.most)

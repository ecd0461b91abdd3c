use Rattle.std.proofs.Common.{◌≡◌, ◌+◌, drop}
use Rattle.yarn_print.specs.Pieces.{plain_length}
use Rattle.yarn_print.proofs.texts.plain_length_in.Given as goal

abbrev pub invariant-loop-at : goal.invariant-loop-at
invariant-loop-at l = plain_length l.bytes ≡ l.at + plain_length (drop l.at l.bytes)

use Rattle.std.proofs.Common.{◌≡◌, ◌+◌, drop, false}
use Rattle.yarn_items.specs.Run.{game_length}
use Rattle.yarn_items.proofs.run.game_length_in.Given as goal

abbrev pub invariant-loop-at : goal.invariant-loop-at
invariant-loop-at l = game_length false l.bytes ≡ l.at + game_length l.skips (drop l.at l.bytes)

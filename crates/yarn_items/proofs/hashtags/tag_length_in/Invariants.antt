use Rattle.std.proofs.Common.{◌≡◌, ◌+◌, drop}
use Rattle.yarn_items.specs.Hashtags.{tag_length}
use Rattle.yarn_items.proofs.hashtags.tag_length_in.Given as goal

abbrev pub invariant-loop-at : goal.invariant-loop-at
invariant-loop-at l = tag_length l.bytes ≡ l.at + tag_length (drop l.at l.bytes)

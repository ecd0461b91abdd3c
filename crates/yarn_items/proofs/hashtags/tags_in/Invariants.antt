use Rattle.std.proofs.Common.{◌≡◌, length, IsUtf8}
use Rattle.yarn_items.specs.Hashtags.{tags_of}
use Rattle.yarn_items.proofs.HashtagLemmas.{joined}
use Rattle.yarn_items.proofs.hashtags.tags_in.Given as goal

abbrev pub invariant-loop-own : goal.invariant-loop-own
invariant-loop-own l = (joined l.tags (tags_of l.rest) ≡ tags_of l.bytes) × IsUtf8 l.rest

abbrev pub decreases-loop-own : goal.decreases-loop-own
decreases-loop-own l = length l.rest

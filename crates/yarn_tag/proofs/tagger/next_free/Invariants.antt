use Rattle.std.proofs.Common.{◌≡◌, ℕ, ◌≤◌, ◌<◌, ◌-◌, true}
use Rattle.yarn_tag.specs.Sets.{has}
use Rattle.yarn_tag.specs.Tagged.{id_of}
use Rattle.yarn_tag.proofs.tagger.next_free.Given as goal

abbrev pub invariant-loop-number : goal.invariant-loop-number
invariant-loop-number l = record {
  rises : l.next ≤ l.number;
  skipped : (m : ℕ) → l.next ≤ m → m < l.number → has l.taken (id_of m) ≡ true;
}

abbrev pub decreases-loop-number : goal.decreases-loop-number
decreases-loop-number l = 268435456 - l.number

use Rattle.std.proofs.Common.{◌≡◌, take}
use Rattle.yarn_tag.specs.Sets.{has}
use Rattle.yarn_tag.specs.Tagged.{has_id}
use Rattle.yarn_tag.proofs.tag.ids_in.Given as goal

abbrev pub invariant-loop-spoken : goal.invariant-loop-spoken
invariant-loop-spoken l = has l.ids ≡ has_id (take l.spoken-index l.said)

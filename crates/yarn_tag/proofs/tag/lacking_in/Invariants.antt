use Rattle.std.proofs.Common.{◌≡◌, take}
use Rattle.yarn_tag.specs.Sets.{has_line}
use Rattle.yarn_tag.specs.Tagged.{lacks}
use Rattle.yarn_tag.proofs.tag.lacking_in.Given as goal

abbrev pub invariant-loop-spoken : goal.invariant-loop-spoken
invariant-loop-spoken l = has_line l.lines ≡ lacks (take l.spoken-index l.said)

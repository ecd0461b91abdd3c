use Rattle.std.proofs.Common.{◌≡◌, drop}
use Rattle.yarn_tag.specs.Tagged.{own_id}
use Rattle.yarn_tag.proofs.spoken.own_id.Given as goal

abbrev pub invariant-loop-tag : goal.invariant-loop-tag
invariant-loop-tag l = own_id (drop l.tag-index l.tags) ≡ own_id l.tags

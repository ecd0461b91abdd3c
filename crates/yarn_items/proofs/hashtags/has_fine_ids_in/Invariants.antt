use Rattle.std.proofs.Common.{◌≡◌, drop, if◌then◌else◌}
use Rattle.yarn_items.specs.Text.{has_no_id, has_fine_ids}
use Rattle.yarn_items.proofs.hashtags.has_fine_ids_in.Given as goal

abbrev pub invariant-loop-tag : goal.invariant-loop-tag
invariant-loop-tag l = has_fine_ids l.tags ≡ (if l.has_id then has_no_id (drop l.tag-index l.tags) else has_fine_ids (drop l.tag-index l.tags))

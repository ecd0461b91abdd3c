use Rattle.std.proofs.Common.{◌≡◌, drop}
use Rattle.std.specs.List.{list_any}
use Rattle.yarn_items.specs.Text.{is_id}
use Rattle.yarn_tree.proofs.checks.has_id_tag.Given as goal

abbrev pub invariant-loop-tag : goal.invariant-loop-tag
invariant-loop-tag l = list_any is_id (drop l.tag-index l.tags) ≡ list_any is_id l.tags

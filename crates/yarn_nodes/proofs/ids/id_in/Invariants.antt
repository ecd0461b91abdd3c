use Rattle.std.proofs.Common.{◌≡◌, drop}
use Rattle.yarn_blocks.specs.LineIds.{line_id}
use Rattle.yarn_nodes.specs.Ids.{id_among}
use Rattle.yarn_nodes.specs.Nodes.{titled_of}
use Rattle.yarn_nodes.proofs.ids.id_in.Given as goal

abbrev pub invariant-loop-tag : goal.invariant-loop-tag
invariant-loop-tag l =
    id_among (drop l.tag-index l.tags) (line_id (titled_of l.title).title l.before) ≡ id_among l.tags (line_id (titled_of l.title).title l.before)

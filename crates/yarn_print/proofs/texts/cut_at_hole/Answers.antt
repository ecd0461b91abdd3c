use Rattle.std.proofs.Common.{◌∙◌, ap, false}
use Rattle.yarn_print.specs.Pieces.{length_to_hole}
use Rattle.yarn_print.proofs.Pieces.{boundary_before_hole}
use Rattle.yarn_print.proofs.texts.cut_at_hole.Goals as goal

pub range-requires-clause-end_boundary : goal.range-requires-clause-end_boundary
range-requires-clause-end_boundary c =
    boundary_before_hole c.args.text.now c.length_to_hole_in-end.result (c.length_to_hole_in-end.ensures ∙ ap (length_to_hole false) c.as_bytes.ensures.value)

pub range_from-requires : goal.range_from-requires
range_from-requires c _ =
    boundary_before_hole c.args.text.now c.length_to_hole_in-end.result (c.length_to_hole_in-end.ensures ∙ ap (length_to_hole false) c.as_bytes.ensures.value)

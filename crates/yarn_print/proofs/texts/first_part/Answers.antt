use Rattle.std.proofs.Common.{◌∙◌, ap, arith}
use Rattle.std.proofs.lemmas.Grind.{common_steps}
use Rattle.yarn_print.specs.Pieces.{plain_length}
use Rattle.yarn_print.proofs.Pieces.{boundary_before_marked, boundary_behind_marked, printed_text-plain}
use Rattle.yarn_print.proofs.texts.first_part.Goals as goal

pub range-requires-clause-end_boundary : goal.range-requires-clause-end_boundary
range-requires-clause-end_boundary c =
    let is = c.plain_length_in-end.ensures.value ∙ ap plain_length c.as_bytes.ensures.value in
    boundary_behind_marked c.args.text.now c.utf8.text c.requires (cc)

pub range_from-requires : goal.range_from-requires
range_from-requires c _ =
    let is = c.plain_length_in-end.ensures.value ∙ ap plain_length c.as_bytes.ensures.value in
    boundary_behind_marked c.args.text.now c.utf8.text c.requires (cc)

pub range-requires-else-end-eq0-clause-end_boundary : goal.range-requires-else-end-eq0-clause-end_boundary
range-requires-else-end-eq0-clause-end_boundary c =
    let is = c.plain_length_in-end.ensures.value ∙ ap plain_length c.as_bytes.ensures.value in
    boundary_before_marked c.args.text.now c.plain_length_in-end.result is (omega arith)

pub range_from-requires-else-end-eq0 : goal.range_from-requires-else-end-eq0
range_from-requires-else-end-eq0 c _ =
    let is = c.plain_length_in-end.ensures.value ∙ ap plain_length c.as_bytes.ensures.value in
    boundary_before_marked c.args.text.now c.plain_length_in-end.result is (omega arith)

pub returns-else-end-eq0-clause-spelled : goal.returns-else-end-eq0-clause-spelled
returns-else-end-eq0-clause-spelled c =
    let is = c.plain_length_in-end.ensures.value ∙ ap plain_length c.as_bytes.ensures.value in
    let whole = printed_text-plain c.args.text.now c.plain_length_in-end.result is in
    grind (arith, common_steps)

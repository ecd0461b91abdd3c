use Rattle.std.proofs.Common.{◌+◌, sym, ap, ◌∙◌, arith}
use Rattle.yarn_lines.specs.Lines.{counts}
use Rattle.yarn_lines.proofs.LineLemmas.{found, line_of-none, line_of-some}
use Rattle.yarn_lines.proofs.line.line_in.Goals as goal

pub returns-then-not-counts_in : goal.returns-then-not-counts_in
returns-then-not-counts_in c =
    let parts = found c.args.whole.now c.args.piece.now c.content_in-content.result.now c.split_at.result.0.now c.split_at.result.1.now c.args.at
    c.leading_length-front.result c.requires.utf8 c.requires.cut c.content_in-content.ensures c.leading_length-front.ensures.value
    c.leading_length-front.ensures.within c.split_at.ensures.front c.split_at.ensures.back in
    line_of-none c.args.number c.args.at c.args.piece.now c.split_at.result.1.now parts.is (sym c.counts_in.ensures ∙ c.if-not-counts_in.true)

pub width_in-requires : goal.width_in-requires
width_in-requires c =
    let parts = found c.args.whole.now c.args.piece.now c.content_in-content.result.now c.split_at.result.0.now c.split_at.result.1.now c.args.at
    c.leading_length-front.result c.requires.utf8 c.requires.cut c.content_in-content.ensures c.leading_length-front.ensures.value
    c.leading_length-front.ensures.within c.split_at.ensures.front c.split_at.ensures.back in
    omega (arith, parts.within)

pub part_of-requires : goal.part_of-requires
part_of-requires c =
    let parts = found c.args.whole.now c.args.piece.now c.content_in-content.result.now c.split_at.result.0.now c.split_at.result.1.now c.args.at
    c.leading_length-front.result c.requires.utf8 c.requires.cut c.content_in-content.ensures c.leading_length-front.ensures.value
    c.leading_length-front.ensures.within c.split_at.ensures.front c.split_at.ensures.back in
    record { within = (omega (arith, parts.within), c.requires.place.1); cut = parts.place; utf8 = parts.utf8 }

pub returns : goal.returns
returns c =
    let parts = found c.args.whole.now c.args.piece.now c.content_in-content.result.now c.split_at.result.0.now c.split_at.result.1.now c.args.at
    c.leading_length-front.result c.requires.utf8 c.requires.cut c.content_in-content.ensures c.leading_length-front.ensures.value
    c.leading_length-front.ensures.within c.split_at.ensures.front c.split_at.ensures.back in
    let some = ap counts c.in_ok-part_of.ensures ∙ sym c.counts_in.ensures ∙ c.if-not-counts_in.false in
    line_of-some c.args.number c.args.at c.width_in.result (c.args.at + c.leading_length-front.result) c.args.piece.now c.in_ok-part_of.field-0
    (c.in_ok-part_of.ensures ∙ parts.is) some (c.width_in.ensures ∙ parts.indent) (ap (λ n. c.args.at + n) parts.begins)

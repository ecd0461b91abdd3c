use Rattle.std.proofs.Common.{◌∙◌, ◌<◌, ◌≤◌, ℕ, List, [], ap, arith, length, refl, subst, sym}
use Rattle.yarn_table.specs.Written.{IsReadAgain, Names}
use Rattle.yarn_table.proofs.WritingLemmas.{name_at, within_at, writing_start, writing_more, writing_end}
use Rattle.yarn_table.proofs.write.write_table.Goals as goal

pub loop-line-init : goal.loop-line-init
loop-line-init c =
    let made = c.from_writer-writer.ensures in
    writing_start _ c.write_record.new.writer (c.args.files.now, c.args.nodes.now)
    (c.in_ok-write_record.ensures [] (made.cfg ∙ c.new.ensures, made.fields, made.wrote, rw (made.wtr, made.empty, c.new-2.ensures.items) refl))

pub loop-line-preserved : goal.loop-line-preserved
loop-line-preserved c =
    let names : Names = (c.args.files.now, c.args.nodes.now) in
    let base = c.args.base.now in
    let i = c.loop-line.line-index in
    let line = c.line-item.result in
    let item = rw c.as_slice-line-items.ensures at c.line-item.is in
    let l : i < length base = omega (arith, ap length c.as_slice-line-items.ensures) in
    let (file, node) = within_at names base i line c.requires l item in
    writing_more _ c.loop-line.writer c.write_line.new.writer names base i line c.index-as_slice-line.result c.index-as_slice-line-in-loop-line.result
    c.loop-line.invariant l item
    (name_at c.args.files.now line.file c.index-as_slice-line.result file (rw c.as_slice.ensures at c.index-as_slice-line.is))
    (name_at c.args.nodes.now line.node c.index-as_slice-line-in-loop-line.result node (rw c.as_slice-in-loop-line.ensures at c.index-as_slice-line-in-loop-line.is))
    c.in_ok-write_line.ensures.texts c.in_ok-write_line.ensures.bytes

pub returns-in-Ok : goal.returns-in-Ok
returns-in-Ok c =
    let l : length c.args.base.now ≤ c.loop-line.line-index = omega (arith, ap length c.as_slice-line-items.ensures) in
    let made = writing_end _ c.loop-line.writer (c.args.files.now, c.args.nodes.now) c.args.base.now c.loop-line.line-index c.in-Ok.bytes.items c.loop-line.invariant l c.in-Ok.ensures.ok in
    record { bytes = c.from_vec.ensures ∙ made.0; read_again = subst (λ (t : List ℕ). IsReadAgain t c.args.base.now) (sym c.from_vec.ensures) made.1 }

use Rattle.std.proofs.Common.{◌≡◌, ◌++◌, subst}
use Rattle.yarn_code.specs.Format.{U32, number_bytes}
use Rattle.std.proofs.Common.{take, length}
use Rattle.yarn_code.specs.Fields.{IsLineField}
use Rattle.yarn_code.specs.Layout.{base_line}
use Rattle.yarn_code.proofs.WritingLemmas.{HasWritten-none, HasWritten-next, HasWritten-end, item_here, many_written}
use Rattle.yarn_code.proofs.EncodingLemmas.{id_new, item_of}
use Rattle.yarn_code.proofs.encoding.put_lines.Goals as goal

pub loop-line-init : goal.loop-line-init
loop-line-init c p fields = HasWritten-none (base_line (length p.files) (length p.nodes)) c.args.lines.now c.put_count.new.out

pub loop-line-preserved : goal.loop-line-preserved
loop-line-preserved c p fields =
    let here = (item_here c.args.lines.now c.as_slice-line-items.result.now c.loop-line.line-index c.line-item.result c.as_slice-line-items.ensures c.loop-line-test.true c.line-item.is) in
    HasWritten-next (base_line (length p.files) (length p.nodes)) c.args.lines.now c.as_slice-line-items.result.now c.loop-line.line-index c.line-item.result c.put_count.new.out c.loop-line.out c.put_line.new.out
    c.as_slice-line-items.ensures c.loop-line-test.true c.line-item.is (c.loop-line.invariant p fields)
    (c.in_ok-put_line.ensures p (take c.loop-line.line-index c.args.lines.now) (item_of (IsLineField p) c.args.lines.now c.loop-line.line-index c.line-item.result here fields)
    (id_new c.args.lines.now c.loop-line.line-index c.line-item.result c.requires.differ here))

pub returns : goal.returns
returns c p fields =
    many_written (base_line (length p.files) (length p.nodes)) c.args.lines.now c.args.out.now c.put_count.new.out c.loop-line.out c.requires.count
    (subst (λ k. c.put_count.new.out ≡ c.args.out.now ++ number_bytes U32 k) c.len.ensures c.in_ok-put_count.ensures)
    (HasWritten-end (base_line (length p.files) (length p.nodes)) c.args.lines.now c.as_slice-line-items.result.now c.loop-line.line-index c.put_count.new.out c.loop-line.out c.as_slice-line-items.ensures c.loop-line-test.false (c.loop-line.invariant p fields))

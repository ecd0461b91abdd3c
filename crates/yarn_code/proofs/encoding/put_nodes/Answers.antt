use Rattle.std.proofs.Common.{◌≡◌, ◌++◌, subst}
use Rattle.yarn_code.specs.Format.{U32, number_bytes}
use Rattle.std.proofs.Common.{take, length}
use Rattle.yarn_code.specs.Fields.{IsNodeField}
use Rattle.yarn_code.specs.Layout.{node}
use Rattle.yarn_code.proofs.WritingLemmas.{HasWritten-none, HasWritten-next, HasWritten-end, item_here, many_written}
use Rattle.yarn_code.proofs.EncodingLemmas.{title_new, item_of}
use Rattle.yarn_code.proofs.encoding.put_nodes.Goals as goal

pub loop-node-init : goal.loop-node-init
loop-node-init c p fields = HasWritten-none (node (length p.files)) c.args.nodes.now c.put_count.new.out

pub loop-node-preserved : goal.loop-node-preserved
loop-node-preserved c p fields =
    let here = (item_here c.args.nodes.now c.as_slice-node-items.result.now c.loop-node.node-index c.node-item.result c.as_slice-node-items.ensures c.loop-node-test.true c.node-item.is) in
    HasWritten-next (node (length p.files)) c.args.nodes.now c.as_slice-node-items.result.now c.loop-node.node-index c.node-item.result c.put_count.new.out c.loop-node.out c.put_node.new.out
    c.as_slice-node-items.ensures c.loop-node-test.true c.node-item.is (c.loop-node.invariant p fields)
    (c.in_ok-put_node.ensures p (take c.loop-node.node-index c.args.nodes.now) (item_of (IsNodeField p) c.args.nodes.now c.loop-node.node-index c.node-item.result here fields)
    (title_new c.args.nodes.now c.loop-node.node-index c.node-item.result c.requires.differ here))

pub returns : goal.returns
returns c p fields =
    many_written (node (length p.files)) c.args.nodes.now c.args.out.now c.put_count.new.out c.loop-node.out c.requires.count
    (subst (λ k. c.put_count.new.out ≡ c.args.out.now ++ number_bytes U32 k) c.len.ensures c.in_ok-put_count.ensures)
    (HasWritten-end (node (length p.files)) c.args.nodes.now c.as_slice-node-items.result.now c.loop-node.node-index c.put_count.new.out c.loop-node.out c.as_slice-node-items.ensures c.loop-node-test.false (c.loop-node.invariant p fields))

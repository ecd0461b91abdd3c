use Rattle.std.proofs.Common.{refl}
use Rattle.yarn_code.specs.Listing.{node_lines}
use Rattle.yarn_code.proofs.ListingLemmas.{Awaits-next, Awaits-none}
use Rattle.yarn_code.proofs.listing.list_nodes.Goals as goal

pub loop-node-init : goal.loop-node-init
loop-node-init c words tell = refl

pub loop-node-preserved : goal.loop-node-preserved
loop-node-preserved c words tell =
    Awaits-next (node_lines words) c.args.nodes.now c.as_slice-node-items.result.now c.loop-node.node-index c.node-item.result c.args.out.now c.loop-node.out c.list_node.new.out
    c.as_slice-node-items.ensures c.loop-node-test.true c.node-item.is (c.loop-node.invariant words tell) (c.in_ok-list_node.ensures words tell)

pub returns : goal.returns
returns c words tell =
    Awaits-none (node_lines words) c.args.nodes.now c.as_slice-node-items.result.now c.loop-node.node-index c.args.out.now c.loop-node.out
    c.as_slice-node-items.ensures c.loop-node-test.false (c.loop-node.invariant words tell)

use Rattle.std.proofs.Common.{subst}
use Rattle.yarn_tree.proofs.GrowLemmas.{NodesGrow, nodes_grow}
use Rattle.yarn_tree.proofs.grow.grow_nodes.Goals as goal

pub loop-node-preserved : goal.loop-node-preserved
loop-node-preserved c =
    nodes_grow c.args.nodes c.next.new.self.rest.items c.loop-node.grown.items c.push.new.self.items c.in-Some.node c.in_ok-grow_node.field-0
    (subst (λ rest. NodesGrow c.args.nodes rest c.loop-node.grown.items) c.in-Some.ensures.steps.0 c.loop-node.invariant)
    c.in_ok-grow_node.ensures c.in_ok-push.ensures.items

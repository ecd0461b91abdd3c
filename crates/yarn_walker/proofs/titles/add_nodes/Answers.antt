use Rattle.yarn_walker.proofs.Found.{PutsRest-step}
use Rattle.yarn_walker.proofs.titles.add_nodes.Goals as goal

pub loop-node-preserved : goal.loop-node-preserved
loop-node-preserved c =
    PutsRest-step c.args.first.now c.loop-node.first c.insert.new.self c.as_str.result c.in_ok-file.file c.in-Some.node c.args.nodes.now
    c.loop-node.node-iterator.iter.rest.now c.next.new.self.iter.rest.now c.loop-node.invariant c.in-Some.ensures.steps c.as_str.ensures.value c.in_ok-insert.ensures.updates

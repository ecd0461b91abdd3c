use Rattle.yarn_walker.proofs.Found.{PutsRest}
use Rattle.yarn_walker.proofs.titles.add_nodes.Given as goal

abbrev pub invariant-loop-node : goal.invariant-loop-node
invariant-loop-node l = PutsRest l.initial.first l.first l.file l.nodes l.node-iterator.iter.rest.now

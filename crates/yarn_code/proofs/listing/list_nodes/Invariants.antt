use Rattle.yarn_code.specs.declared.program.Instr.{Instr}
use Rattle.yarn_code.specs.Listing.{Words, Tells, node_lines}
use Rattle.yarn_code.proofs.ListingLemmas.{Awaits}
use Rattle.yarn_code.proofs.listing.list_nodes.Given as goal

abbrev pub invariant-loop-node : goal.invariant-loop-node
invariant-loop-node l = (words : Instr → Words) → ((i : Instr) → Tells i (words i)) → Awaits (node_lines words) l.nodes l.node-index l.initial.out l.out

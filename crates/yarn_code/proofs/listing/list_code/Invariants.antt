use Rattle.yarn_code.specs.declared.program.Instr.{Instr}
use Rattle.yarn_code.specs.Listing.{Words, Tells, instruction_line}
use Rattle.yarn_code.proofs.ListingLemmas.{Awaits}
use Rattle.yarn_code.proofs.listing.list_code.Given as goal

abbrev pub invariant-loop-at : goal.invariant-loop-at
invariant-loop-at l = (words : Instr → Words) → ((i : Instr) → Tells i (words i)) → Awaits (instruction_line words) l.code l.at l.initial.out l.out

use Rattle.yarn_code.specs.Listing.{base_line}
use Rattle.yarn_code.proofs.ListingLemmas.{Awaits}
use Rattle.yarn_code.proofs.listing.list_lines.Given as goal

abbrev pub invariant-loop-line : goal.invariant-loop-line
invariant-loop-line l = Awaits base_line l.lines l.line-index l.initial.out l.out

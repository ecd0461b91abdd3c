use Rattle.yarn_code.specs.Listing.{variable_line}
use Rattle.yarn_code.proofs.ListingLemmas.{Awaits}
use Rattle.yarn_code.proofs.listing.list_variables.Given as goal

abbrev pub invariant-loop-variable : goal.invariant-loop-variable
invariant-loop-variable l = Awaits variable_line l.variables l.variable-index l.initial.out l.out

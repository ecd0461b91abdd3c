use Rattle.yarn_code.specs.Listing.{function_line}
use Rattle.yarn_code.proofs.ListingLemmas.{Awaits}
use Rattle.yarn_code.proofs.listing.list_functions.Given as goal

abbrev pub invariant-loop-function : goal.invariant-loop-function
invariant-loop-function l = Awaits function_line l.functions l.function-index l.initial.out l.out

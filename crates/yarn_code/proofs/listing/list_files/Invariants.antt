use Rattle.yarn_code.specs.Listing.{file_line}
use Rattle.yarn_code.proofs.ListingLemmas.{Awaits}
use Rattle.yarn_code.proofs.listing.list_files.Given as goal

abbrev pub invariant-loop-at : goal.invariant-loop-at
invariant-loop-at l = Awaits file_line l.files l.at l.initial.out l.out

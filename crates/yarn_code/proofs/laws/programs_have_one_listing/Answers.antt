use Rattle.yarn_code.proofs.ListingLemmas.{one_listing}
use Rattle.yarn_code.proofs.laws.programs_have_one_listing.Goals as goal

pub returns : goal.returns
returns c = one_listing

use Rattle.yarn_code.proofs.ListingLemmas.{listing_is, listing_lists}
use Rattle.yarn_code.proofs.laws.listings_are_written_out.Goals as goal

pub returns : goal.returns
returns c = λ p text. (listing_is p text, listing_lists p text)

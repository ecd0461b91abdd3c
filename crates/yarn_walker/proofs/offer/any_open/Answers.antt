use Rattle.std.proofs.Common.{◌∙◌, rules, tests}
use Rattle.std.proofs.lemmas.Iterator.{YieldsList-from_slice}
use Rattle.std.proofs.lemmas.Iterator.Search.{any_from_yields_List}
use Rattle.yarn_walker.specs.declared.offer.Offer.{Offer}
use Rattle.yarn_walker.proofs.OfferLemmas.{any_shown}
use Rattle.yarn_walker.proofs.offer.any_open.Goals as goal

pub returns : goal.returns
returns c =
    let offers = c.args.offers.now in
    any_from_yields_List (λ (offer : Offer). offer.available) _ _ _ c.any.ensures.ran (YieldsList-from_slice offers cc) (λ x b q k. search (rules, tests))
    ∙ any_shown offers

use Rattle.std.proofs.Common.{◌+◌, drop}
use Rattle.std.proofs.lemmas.Result.{err_from_is_err_and}
use Rattle.yarn_blocks.specs.View.{options_of}
use Rattle.yarn_walker.specs.Offers.{all_shown}
use Rattle.yarn_walker.proofs.OfferLemmas.{options_left, offers_halt}
use Rattle.yarn_walker.proofs.offer.offers_of.Goals as goal

pub returns-in_err-offer-clause-meaning : goal.returns-in_err-offer-clause-meaning
returns-in_err-offer-clause-meaning c =
    let p = err_from_is_err_and c.from_residual.result c.from_residual.ensures.1 in
    let options = c.args.options.now in
    let i = c.loop-option.option-index in
    rw (p.1, p.2)
    (offers_halt (options_of options) (options_of (drop i options)) (all_shown c.loop-option.offers.items) c.option-item.result
    (options_of (drop (i + 1) options)) c.args.store.now c.offer_of.result c.in_err-offer.field-0.0 c.loop-option.invariant.meaning
    (options_left options i c.option-item.result c.loop-option-test.true c.option-item.is) c.offer_of.ensures.meaning c.in_err-offer.ensures)

use Rattle.std.proofs.Common.{◌≡◌, IfOk, subst}
use Rattle.yarn_items.specs.TextForm.{text_found, IsTextAnswer}
use Rattle.yarn_items.proofs.ReadLemmas.{offer-read}
use Rattle.yarn_items.proofs.offer.read_offer.Goals as goal

pub returns-in-Some : goal.returns-in-Some
returns-in-Some c =
    let read = subst (IsTextAnswer (text_found c.args.bytes.now)) c.in-Some.is c.in_ok-read.ensures in
    let same = offer-read (text_found c.args.bytes.now) c.in-Some.read read in
    subst (λ x. IfOk c.read_offer_of.result (λ found. found ≡ x)) same c.read_offer_of.ensures

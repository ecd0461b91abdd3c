use Rattle.std.proofs.Common.{subst, ◌∙◌}
use Rattle.yarn_items.specs.Body.{condition_found, IsAskedAnswer}
use Rattle.yarn_items.proofs.ReadLemmas.{offer-asked, some-text}
use Rattle.yarn_items.proofs.offer.read_offer_of.Goals as goal

pub returns-in_ok-tags-in-Some : goal.returns-in_ok-tags-in-Some
returns-in_ok-tags-in-Some c =
    let read = c.args.read in
    let some = some-text read.text c.as_str.result.now c.is_empty.result c.is_empty.ensures c.as_str.ensures.value c.if-is_empty.false in
    let asked = subst (IsAskedAnswer (condition_found read.rest.now)) c.in-Some.is c.in_ok-asked.ensures in
    let parts = offer-asked read.text read.holes read.literals read.rest.now c.in-Some.asked some asked in
    let made = rw (c.in_ok-tags-in-Some.ensures, c.both-literals.ensures) at c.offer_of.ensures in
    made ∙ parts

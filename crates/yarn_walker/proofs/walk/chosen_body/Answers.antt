use Rattle.std.proofs.Common.{◌≡◌, suc, ◌<◌, ◌≤◌, length, sym, subst, arith}
use Rattle.yarn_blocks.specs.View.{options_of}
use Rattle.yarn_walker.specs.Offers.{all_shown}
use Rattle.yarn_walker.specs.Walk.{Opens}
use Rattle.yarn_walker.proofs.AnswerLemmas.{length_offers, closed_past, closed_at, open_at}
use Rattle.yarn_walker.proofs.walk.chosen_body.Goals as goal

pub returns-in_err-get : goal.returns-in_err-get
returns-in_err-get c =
    let is : c.args.number ≡ suc c.in_ok-at.field-0 = omega (arith, c.in_ok-at.ensures) in
    let past : length c.args.offers.now ≤ c.in_ok-at.field-0 = omega (arith, c.in_err-get.ensures.lookup) in
    subst (Opens (all_shown c.args.offers.now) (options_of c.args.options.now) c.args.number) (sym c.from_residual-in_err-get.ensures)
    (closed_past c.args.offers.now (options_of c.args.options.now) c.args.number c.in_ok-at.field-0 is past)

pub returns-then-not-branch : goal.returns-then-not-branch
returns-then-not-branch c =
    let is : c.args.number ≡ suc c.in_ok-at.field-0 = omega (arith, c.in_ok-at.ensures) in
    let there : c.in_ok-at.field-0 < length c.args.offers.now = omega (arith, c.in_ok-get.ensures.lookup) in
    closed_at c.args.offers.now c.args.number c.in_ok-at.field-0 c.in_ok-get.field-0.now is there c.in_ok-get.ensures.lookup.1 c.if-not-branch.true

-- There are as many offers as options.
pub returns-in_err-get-2 : goal.returns-in_err-get-2
returns-in_err-get-2 c =
    let there : c.in_ok-at.field-0 < length c.args.offers.now = omega (arith, c.in_ok-get.ensures.lookup) in
    let past : length c.args.options.now ≤ c.in_ok-at.field-0 = omega (arith, c.in_err-get-2.ensures.lookup) in
    absurd (omega (arith, length_offers c.args.options.now c.args.offers.now c.requires))

pub returns : goal.returns
returns c =
    let is : c.args.number ≡ suc c.in_ok-at.field-0 = omega (arith, c.in_ok-at.ensures) in
    let there : c.in_ok-at.field-0 < length c.args.offers.now = omega (arith, c.in_ok-get.ensures.lookup) in
    let here : c.in_ok-at.field-0 < length c.args.options.now = omega (arith, c.in_ok-get-2.ensures.lookup) in
    open_at c.args.offers.now c.args.options.now c.args.number c.in_ok-at.field-0 c.in_ok-get.field-0.now c.in_ok-get-2.field-0.now c.as_slice.result
    is there c.in_ok-get.ensures.lookup.1 c.if-not-branch.false here c.in_ok-get-2.ensures.lookup.1 c.as_slice.ensures

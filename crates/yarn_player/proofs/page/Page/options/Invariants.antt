use Rattle.std.proofs.Common.{◌≡◌, ◌++◌, drop}
use Rattle.yarn_player.specs.Shown.{offers_text}
use Rattle.yarn_player.proofs.page.Page.options.Given as goal

-- with the texts of the options that are left, the page is what it is at the end
abbrev pub invariant-loop-offer : goal.invariant-loop-offer
invariant-loop-offer l =
    l.self.bytes.items ++ offers_text l.number (drop l.offer-index l.offers) ≡ l.initial.self.bytes.items ++ offers_text 1 l.offers

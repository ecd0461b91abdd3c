use Rattle.std.proofs.Common.{ap}
use Rattle.yarn_tree.specs.Uses.{uses_of_all, uses_of_asked, uses_of_what}
use Rattle.yarn_tree.proofs.UsesLemmas.{parts-ok}
use Rattle.yarn_tree.proofs.uses.Uses.add_what.Goals as goal

pub returns-in_ok-add_exprs-in-Offer : goal.returns-in_ok-add_exprs-in-Offer
returns-in_ok-add_exprs-in-Offer c =
    parts-ok c.add_asked.result c.args.place c.args.self.now c.add_exprs.new.self c.add_asked.new.self
    (uses_of_all c.in-Offer.text.holes) (uses_of_asked c.in-Offer.condition) (uses_of_what c.args.what.now)
    (ap uses_of_what c.in-Offer.is)
    (rw c.as_slice.ensures at c.in_ok-add_exprs-in-Offer.ensures) c.add_asked.ensures

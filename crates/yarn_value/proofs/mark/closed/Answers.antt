use Rattle.std.proofs.Common.{◌≡◌, arith}
use Rattle.yarn_value.proofs.MarkLemmas.{not_closed, first_is}
use Rattle.yarn_value.proofs.mark.closed.Goals as goal

pub returns-else-first-eq125 : goal.returns-else-first-eq125
returns-else-first-eq125 c =
    not_closed c.args.holes c.args.number c.args.text.now c.requires
    (λ rest e. let is : c.in_ok-first.first ≡ 125 = first_is _ _ _ _ _ c.in_ok-first.ensures.bytes e (omega arith) in grind (arith, c.else-first-eq125.either))

use Rattle.std.proofs.Common.{◌<◌, ◌⊎◌, arith}
use Rattle.yarn_value.proofs.MarkLemmas.{no_digit}
use Rattle.yarn_value.proofs.mark.first_digit.Goals as goal

pub returns-else-first-ge48 : goal.returns-else-first-ge48
returns-else-first-ge48 c =
    let out : (c.in_ok-first.first < 48) ⊎ (57 < c.in_ok-first.first) = grind (arith, c.else-first-ge48.either) in
    no_digit c.in_ok-first.first c.args.text.now c.in_ok-first.rest.now out c.in_ok-first.ensures.bytes

use Rattle.std.proofs.Common.{◌≡◌, ◌-◌, Some, refl, sym, ap, ◌∙◌, length}
use Rattle.std.proofs.lemmas.Bool.{ne_eqb}
use Rattle.std.specs.Prelude.{option_copied}
use Rattle.yarn_print.specs.Print.{wants_blank}
use Rattle.yarn_print.proofs.Pieces.{asks_blank, asked_by_last}
use Rattle.yarn_print.proofs.lines.needs_blank.Goals as goal

pub returns-then-byte-eq62 : goal.returns-then-byte-eq62
returns-then-byte-eq62 c =
    let is = c.if-byte-eq62.true in
    let asked : asks_blank (Some c.in-Some.byte.now) ≡ wants_blank c.args.content.now =
    ap (λ r. asks_blank (option_copied r)) (sym c.in-Some.is) ∙ ap asks_blank c.last.ensures.value ∙ asked_by_last c.args.content.now (length c.args.content.now - 1) refl in
    rw is (rw is at asked)

pub returns-else-byte-eq62 : goal.returns-else-byte-eq62
returns-else-byte-eq62 c =
    let other = ne_eqb c.in-Some.byte.now 62 c.if-byte-eq62.false in
    let asked : asks_blank (Some c.in-Some.byte.now) ≡ wants_blank c.args.content.now =
    ap (λ r. asks_blank (option_copied r)) (sym c.in-Some.is) ∙ ap asks_blank c.last.ensures.value ∙ asked_by_last c.args.content.now (length c.args.content.now - 1) refl in
    rw other at asked

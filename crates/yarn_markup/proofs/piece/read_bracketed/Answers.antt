use Rattle.std.proofs.Common.{sym, subst}
use Rattle.yarn_markup.specs.declared.piece.Piece.{Piece}
use Rattle.yarn_markup.specs.Pieces.{IsBracketed, closes}
use Rattle.yarn_markup.proofs.piece.read_bracketed.Goals as goal

pub returns-in-Some : goal.returns-in-Some
returns-in-Some c =
    let is = rw c.in-Some.is at c.in_ok-read.ensures in
    subst (λ (p : Piece). IsBracketed c.args.plural.now c.args.inside.now p c.in-Some.read.rest.now) (sym c.closing.ensures)
    (closes (record { name = c.in-Some.read.name; rest = c.in-Some.read.rest.now }) is)

use Rattle.std.proofs.Common.{sym}
use Rattle.std.proofs.lemmas.Result.{IfOk-weaker}
use Rattle.yarn_markup.specs.Pieces.{character}
use Rattle.yarn_markup.specs.Steps.{IsBracketAnswer, IsPieceAnswer}
use Rattle.yarn_markup.proofs.PieceLemmas.{piece_of_bracket}
use Rattle.yarn_markup.proofs.piece.read_piece.Goals as goal

pub returns-in-Character : goal.returns-in-Character
returns-in-Character c = character c.in-Character.c c.in-Character.rest.now (sym c.in-Character.ensures)

pub returns-in-Bracket : goal.returns-in-Bracket
returns-in-Bracket c =
    IfOk-weaker c.read_bracketed.result (IsBracketAnswer c.args.plural.now c.in-Bracket.inside.now) (IsPieceAnswer c.args.plural.now c.args.text.now)
    (piece_of_bracket c.args.plural.now c.args.text.now c.in-Bracket.inside.now (sym c.in-Bracket.ensures)) c.read_bracketed.ensures

-- The laws of the texts of lines and of commands for the game.
use Rattle.yarn_items.specs.TextForm.{TextsArePieces, PiecesAreTexts, GameTextsArePieces, PiecesAreGameTexts}
use Rattle.yarn_items.proofs.TextLemmas as text
use Rattle.yarn_items.proofs.GameLemmas as game

pub texts-are-pieces : TextsArePieces
texts-are-pieces = text.texts-are-pieces

pub pieces-are-texts : PiecesAreTexts
pieces-are-texts = text.pieces-are-texts

pub game-texts-are-pieces : GameTextsArePieces
game-texts-are-pieces = game.game-texts-are-pieces

pub pieces-are-game-texts : PiecesAreGameTexts
pieces-are-game-texts = game.pieces-are-game-texts

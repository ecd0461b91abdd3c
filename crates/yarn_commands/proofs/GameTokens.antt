-- A command for the game has no tokens.
use Rattle.std.proofs.Common.{◌≡◌, ℕ, List, [], ◌∷◌}
use Rattle.yarn_base.specs.Name.{continues_name}
use Rattle.yarn_expr.specs.declared.token.Token.{Token}
use Rattle.yarn_expr.specs.Tokens.{front, past, text_of}
use Rattle.yarn_commands.specs.declared.word.FirstWord.{FirstWord}
use Rattle.yarn_commands.specs.declared.word.FirstWord.TheVariants as word
use Rattle.yarn_commands.specs.declared.command.Command.TheVariants as command
use Rattle.yarn_commands.specs.FirstWord.{first_word_of}
use Rattle.yarn_commands.specs.Command.{IsMeant, IsCommand}

meant-game : (w : FirstWord) (cs : List ℕ) (ts : List Token) → IsMeant w cs ts command.Game → ts ≡ []
meant-game word.Stop cs ts is = is.1
meant-game word.Other cs ts is = is
meant-game _ cs ts is = absurd is

pub game-tokens : (cs : List ℕ) (ts : List Token) → IsCommand cs ts command.Game → ts ≡ []
game-tokens [] ts is = absurd is
game-tokens (c ∷ cs) ts is = meant-game (first_word_of (text_of (front continues_name (c ∷ cs)))) (past continues_name (c ∷ cs)) ts is

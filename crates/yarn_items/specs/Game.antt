-- The text of a command for the game (docs/language.md, Texts and commands).
use Rattle.std.specs.Prelude.{◌≡◌, ℕ, ◌+◌, List, [], ◌∷◌, ◌++◌, Bool, true, false, not, ◌&&◌, nat_eq}
use Rattle.yarn_items.specs.Brace.{ToBrace}
use Rattle.yarn_items.specs.Text.{Piece, Char, Pair, Hole, hole_text}

abbrev pub is_char : ℕ → Bool
is_char c = not (nat_eq c 92) && not (nat_eq c 123)

-- The content as pieces: a `\` and any next character are a pair, and a `\` at the end stands for itself.
pub data GamePieces : List ℕ → List Piece → Type 0 where
  no_piece : GamePieces [] []
  last : GamePieces (92 ∷ []) (Char 92 ∷ [])
  pair : {c : ℕ} {bytes : List ℕ} {pieces : List Piece} → GamePieces bytes pieces → GamePieces (92 ∷ c ∷ bytes) (Pair c ∷ pieces)
  hole : {bytes inside more : List ℕ} {pieces : List Piece} → ToBrace false bytes inside more → GamePieces more pieces →
      GamePieces (123 ∷ bytes) (Hole inside ∷ pieces)
  char : {c : ℕ} {bytes : List ℕ} {pieces : List Piece} → is_char c ≡ true → GamePieces bytes pieces → GamePieces (c ∷ bytes) (Char c ∷ pieces)

-- its pieces as they are written, but for `{k}` for the substitution at place k, where so many stand before them
abbrev pub game_text_from : ℕ → List Piece → List ℕ
game_text_from k [] = []
game_text_from k (Char c ∷ pieces) = c ∷ game_text_from k pieces
game_text_from k (Pair c ∷ pieces) = 92 ∷ c ∷ game_text_from k pieces
game_text_from k (Hole inside ∷ pieces) = hole_text k ++ game_text_from (k + 1) pieces

abbrev pub game_text : List Piece → List ℕ
game_text pieces = game_text_from 0 pieces

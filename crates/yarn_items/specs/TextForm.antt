-- The line text at the front of a line, and the text of a command for the game, as functions of the bytes
-- (docs/language.md, Texts and Texts and commands).
use Rattle.std.specs.Prelude.{◌≡◌, ℕ, List, [], Option, Some, None, codes, ◌⊎◌, true, IsUtf8}
use Rattle.yarn_expr.specs.declared.token.Token.{Token}
use Rattle.yarn_expr.specs.declared.tree.Expr.{Expr}
use Rattle.yarn_lines.specs.Lines.{past_leading, begins_with}
use Rattle.yarn_items.specs.declared.text.TextRead.{TextRead}
use Rattle.yarn_items.specs.declared.game.GameRead.{GameRead}
use Rattle.yarn_items.specs.Text.{Piece, Pieces, AreHoles, table_text}
use Rattle.yarn_items.specs.Game.{GamePieces, game_text}
use Rattle.yarn_items.specs.Item.{literals_of}
use Rattle.yarn_items.specs.declared.first.Kind.TheVariants.{Line, Game}
use Rattle.yarn_items.specs.Scan.{Scan, scan}
use Rattle.yarn_items.specs.Holes.{Held, held_in}

-- a text as string tables have it, the expressions of its substitutions with their tokens, and what follows
pub record TextFound : Type 0 where
  pub text : List ℕ
  pub holes : List Expr
  pub tokens : List Token
  pub rest : List ℕ

pub record GameFound : Type 0 where
  pub text : List ℕ
  pub holes : List Expr
  pub tokens : List Token

abbrev pub text_with : Scan → Option Held → Option TextFound
text_with read None = None
text_with read (Some held) = Some (record { text = table_text read.pieces; holes = held.holes; tokens = held.tokens; rest = read.rest })

abbrev pub text_of : Option Scan → Option TextFound
text_of None = None
text_of (Some read) = text_with read (held_in read.pieces)

-- the text up to the end, a hashtag, a comment or a condition; none where a `{` has no `}`, or no expression before it
unfoldable pub text_found : List ℕ → Option TextFound
text_found bytes = text_of (scan Line bytes)

abbrev pub game_with : Scan → Option Held → Option GameFound
game_with read None = None
game_with read (Some held) = Some (record { text = game_text read.pieces; holes = held.holes; tokens = held.tokens })

abbrev pub game_of : Option Scan → Option GameFound
game_of None = None
game_of (Some read) = game_with read (held_in read.pieces)

-- none where a `{` has no `}`, or no expression before it
unfoldable pub game_found : List ℕ → Option GameFound
game_found content = game_of (scan Game content)

-- where a text ends: the end of the line, a hashtag, a comment or a condition
abbrev pub Stops : List ℕ → Type 0
Stops bytes = (bytes ≡ []) ⊎ ((begins_with (codes "#") bytes ≡ true) ⊎ ((begins_with (codes "//") bytes ≡ true) ⊎ (begins_with (codes "<<") bytes ≡ true)))

-- the text found, in pieces
pub record HasPieces (bytes : List ℕ) (t : TextFound) : Type 0 where
  pub pieces : List Piece
  pub read : Pieces bytes pieces t.rest
  pub own : t.text ≡ table_text pieces
  pub held : AreHoles pieces t.tokens t.holes
  pub stops : Stops t.rest

-- what is found has its pieces
abbrev pub TextsArePieces : Type 0
TextsArePieces = (bytes : List ℕ) (t : TextFound) → text_found bytes ≡ Some t → HasPieces bytes t

-- pieces up to the blanks before an end are found
abbrev pub PiecesAreTexts : Type 0
PiecesAreTexts = (bytes rest : List ℕ) (pieces : List Piece) (tokens : List Token) (holes : List Expr) →
    Pieces bytes pieces rest → AreHoles pieces tokens holes → Stops (past_leading rest) →
    text_found bytes ≡ Some (record { text = table_text pieces; holes = holes; tokens = tokens; rest = past_leading rest })

-- the text of a command for the game, in pieces
pub record HasGamePieces (content : List ℕ) (t : GameFound) : Type 0 where
  pub pieces : List Piece
  pub read : GamePieces content pieces
  pub own : t.text ≡ game_text pieces
  pub held : AreHoles pieces t.tokens t.holes

abbrev pub GameTextsArePieces : Type 0
GameTextsArePieces = (content : List ℕ) (t : GameFound) → game_found content ≡ Some t → HasGamePieces content t

abbrev pub PiecesAreGameTexts : Type 0
PiecesAreGameTexts = (content : List ℕ) (pieces : List Piece) (tokens : List Token) (holes : List Expr) →
    GamePieces content pieces → AreHoles pieces tokens holes →
    game_found content ≡ Some (record { text = game_text pieces; holes = holes; tokens = tokens })

-- the code has what is found
pub record IsRead (t : TextFound) (read : TextRead) : Type 0 where
  pub text : read.text ≡ t.text
  pub holes : read.holes ≡ t.holes
  pub literals : read.literals ≡ literals_of t.tokens
  pub rest : read.rest.now ≡ t.rest
  pub utf8 : IsUtf8 t.rest

pub record IsGameRead (t : GameFound) (read : GameRead) : Type 0 where
  pub text : read.text ≡ t.text
  pub holes : read.holes ≡ t.holes
  pub literals : read.literals ≡ literals_of t.tokens

abbrev pub IsTextAnswer : Option TextFound → Option TextRead → Type 0
IsTextAnswer None None = Unit {0}
IsTextAnswer (Some t) (Some read) = IsRead t read
IsTextAnswer _ _ = ⊥

abbrev pub IsGameAnswer : Option GameFound → Option GameRead → Type 0
IsGameAnswer None None = Unit {0}
IsGameAnswer (Some t) (Some read) = IsGameRead t read
IsGameAnswer _ _ = ⊥

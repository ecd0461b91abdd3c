-- What one line of a file is, by its mode (docs/language.md, Nodes and Body lines).
use Rattle.std.specs.Prelude.{◌≡◌, ℕ, List, [], ◌∷◌, ◌++◌, Bool, true, false, ◌&&◌, nat_eq, codes, Option, Some, None}
use Rattle.std.specs.List.{list_all, list_any}
use Rattle.std.specs.Str.{chars, is_utf8}
use Rattle.yarn_base.specs.Name.{is_name_of}
use Rattle.yarn_lines.specs.Lines.{is_blank, begins_with}
use Rattle.yarn_expr.specs.declared.token.Token.{Token}
use Rattle.yarn_expr.specs.declared.tree.Expr.{Expr}
use Rattle.yarn_expr.specs.Literal.{is_fraction, is_large}
use Rattle.yarn_commands.specs.declared.command.Command.{Command}
use Rattle.yarn_commands.specs.declared.command.Command.TheVariants as command
use Rattle.yarn_commands.specs.Command.{IsCommand}
use Rattle.yarn_items.specs.declared.item.Mode.{Mode}
use Rattle.yarn_items.specs.declared.item.Mode.TheVariants.{InHeaders, InBody}
use Rattle.yarn_items.specs.declared.item.Said.{Said}
use Rattle.yarn_items.specs.declared.item.Item.{Item}
use Rattle.yarn_items.specs.declared.item.Item.TheVariants as item
use Rattle.yarn_items.specs.declared.item.Literals.{Literals}
use Rattle.yarn_items.specs.declared.item.Found.{Found}
use Rattle.yarn_items.specs.Text.{Piece, Pieces, Tags, AreHoles, table_text, trimmed, is_tag_byte, has_fine_ids}
use Rattle.yarn_items.specs.Content.{HasContent, HasCondition}
use Rattle.yarn_items.specs.Game.{GamePieces, game_text}

-- the bytes are a text, and the text is a name
abbrev pub is_name_text : List ℕ → Bool
is_name_text bytes = is_utf8 bytes && is_name_of (chars bytes)

-- a carriage return
abbrev pub is_cr : ℕ → Bool
is_cr b = nat_eq b 13

-- `#` and one or more characters that are neither blank nor `#`
pub record IsFileTag (text tag : List ℕ) : Type 0 where
  pub split : text ≡ 35 ∷ tag
  pub some : tag ≡ [] → ⊥
  pub solid : list_all is_tag_byte tag ≡ true

-- a name, blanks, `:` and a value between blanks
pub record IsHeader (text key value : List ℕ) : Type 0 where
  pub blanks : List ℕ
  pub rest : List ℕ
  pub split : text ≡ key ++ (blanks ++ 58 ∷ rest)
  pub named : is_name_text key ≡ true
  pub between : list_all is_blank blanks ≡ true
  pub valued : value ≡ trimmed rest

abbrev pub is_option : List ℕ → Bool
is_option text = begins_with (codes "->") text

abbrev pub is_command : List ℕ → Bool
is_command text = begins_with (codes "<<") text

-- line text that isn't empty between blanks, its hashtags and a comment; neither an option nor a command
pub record IsLine (text : List ℕ) (tokens : List Token) (said : Said) : Type 0 where
  pub pieces : List Piece
  pub rest : List ℕ
  pub read : Pieces text pieces rest
  pub own : said.text ≡ table_text pieces
  pub held : AreHoles pieces tokens said.holes
  pub tagged : Tags rest said.tags
  pub some : said.text ≡ [] → ⊥
  pub no_end : said.text ≡ codes "===" → ⊥
  pub ids : has_fine_ids said.tags ≡ true
  pub no_option : is_option text ≡ false
  pub no_command : is_command text ≡ false

-- a condition with these tokens, or none, and what follows it
pub data IsCondition : List ℕ → List Token → Option Expr → List ℕ → Type 0 where
  no_condition : {rest : List ℕ} → IsCondition rest [] None rest
  condition : {bytes content rest : List ℕ} {tokens : List Token} {e : Expr} → HasCondition bytes content rest →
      IsCommand (chars content) tokens (command.If e) → IsCondition bytes tokens (Some e) rest

-- `->`, line text that isn't empty between blanks, maybe a condition, then hashtags and a comment
pub record IsOffer (text : List ℕ) (tokens : List Token) (said : Said) (asked : Option Expr) : Type 0 where
  pub bytes : List ℕ
  pub split : text ≡ codes "->" ++ bytes
  pub pieces : List Piece
  pub rest : List ℕ
  pub read : Pieces bytes pieces rest
  pub own : said.text ≡ table_text pieces
  pub of_text : List Token
  pub held : AreHoles pieces of_text said.holes
  pub of_condition : List Token
  pub behind : List ℕ
  pub conditioned : IsCondition rest of_condition asked behind
  pub all : tokens ≡ of_text ++ of_condition
  pub tagged : Tags behind said.tags
  pub some : said.text ≡ [] → ⊥
  pub ids : has_fine_ids said.tags ≡ true

-- a command other than one for the game, its hashtags and a comment
pub record IsCommandLine (text : List ℕ) (tokens : List Token) (own : Command) (tags : List (List ℕ)) : Type 0 where
  pub content : List ℕ
  pub rest : List ℕ
  pub has : HasContent text content rest
  pub is : IsCommand (chars content) tokens own
  pub no_game : own ≡ command.Game → ⊥
  pub tagged : Tags rest tags

-- a command for the game with its substitutions, its hashtags and a comment
pub record IsGameLine (text : List ℕ) (tokens : List Token) (said : Said) : Type 0 where
  pub content : List ℕ
  pub rest : List ℕ
  pub has : HasContent text content rest
  pub is : IsCommand (chars content) [] command.Game
  pub pieces : List Piece
  pub read : GamePieces content pieces
  pub own : said.text ≡ game_text pieces
  pub held : AreHoles pieces tokens said.holes
  pub tagged : Tags rest said.tags

-- a text without a carriage return is that item, with these tokens in its expressions
abbrev pub IsForm : Mode → List ℕ → List Token → Item → Type 0
IsForm mode text tokens item.NodeEnds = (text ≡ codes "===") × (tokens ≡ [])
IsForm InHeaders text tokens item.BodyBegins = (text ≡ codes "---") × (tokens ≡ [])
IsForm InHeaders text tokens (item.FileTag tag) = IsFileTag text tag × (tokens ≡ [])
IsForm InHeaders text tokens (item.Header header) = IsHeader text header.key header.value × (tokens ≡ [])
IsForm InBody text tokens (item.Line said) = IsLine text tokens said
IsForm InBody text tokens (item.Offer said asked) = IsOffer text tokens said asked
IsForm InBody text tokens (item.Command own tags) = IsCommandLine text tokens own tags
IsForm InBody text tokens (item.Game said) = IsGameLine text tokens said
IsForm _ _ _ _ = ⊥

-- the text of a line is that item; a text with a carriage return is none
abbrev pub IsItem : Mode → List ℕ → List Token → Item → Type 0
IsItem mode text tokens item = (list_any is_cr text ≡ false) × IsForm mode text tokens item

-- what can't be kept of the number literals among tokens
abbrev pub literals_of : List Token → Literals
literals_of tokens = record { fraction = list_any is_fraction tokens; too_large = list_any is_large tokens }

-- the text of a line is the item that was found, with what can't be kept of its number literals
pub record IsFound (mode : Mode) (text : List ℕ) (found : Found) : Type 0 where
  pub tokens : List Token
  pub is : IsItem mode text tokens found.item
  pub literals : found.literals ≡ literals_of tokens

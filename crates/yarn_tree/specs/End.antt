-- Where the text of a line that is said, or of an option, ends before its comment (docs/language.md, Hashtags and comments).
use Rattle.std.specs.Prelude.{◌≡◌, ℕ, List, [], ◌∷◌, ◌++◌, length, Option, true, false, codes}
use Rattle.std.specs.List.{list_all}
use Rattle.yarn_lines.specs.Lines.{is_blank, begins_with, without_trailing}
use Rattle.yarn_expr.specs.declared.token.Token.{Token}
use Rattle.yarn_expr.specs.declared.tree.Expr.{Expr}
use Rattle.yarn_items.specs.Item.{IsCondition}
use Rattle.yarn_items.specs.Text.{Piece, Pieces, is_tag_byte, begins_tag_byte}

-- hashtags with blanks between them, and the comment that they leave, or nothing
pub data Leaves : List ℕ → List ℕ → Type 0 where
  nothing : Leaves [] []
  comment : {bytes : List ℕ} → begins_with (codes "//") bytes ≡ true → Leaves bytes bytes
  blank : {b : ℕ} {bytes left : List ℕ} → is_blank b ≡ true → Leaves bytes left → Leaves (b ∷ bytes) left
  tag : {bytes left : List ℕ} (c : ℕ) (own : List ℕ) → list_all is_tag_byte (c ∷ own) ≡ true → begins_tag_byte bytes ≡ false →
      Leaves bytes left → Leaves (35 ∷ ((c ∷ own) ++ bytes)) left

-- the comment behind line text, or behind an option's text and its condition
pub data HasComment : List ℕ → List ℕ → Type 0 where
  of_line : {text rest left : List ℕ} {pieces : List Piece} → Pieces text pieces rest → Leaves rest left → HasComment text left
  of_option : {bytes rest behind left : List ℕ} {pieces : List Piece} {tokens : List Token} {asked : Option Expr} →
      Pieces bytes pieces rest → IsCondition rest tokens asked behind → Leaves behind left → HasComment (codes "->" ++ bytes) left

-- so many bytes stand before the comment and the blanks before it
pub record EndsAt (text : List ℕ) (n : ℕ) : Type 0 where
  pub front : List ℕ
  pub left : List ℕ
  pub cut : text ≡ front ++ left
  pub commented : HasComment text left
  pub ends : n ≡ length (without_trailing front)

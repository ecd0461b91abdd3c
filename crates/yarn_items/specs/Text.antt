-- The text of a line: its characters, pairs and substitutions, its hashtags and its comment (docs/language.md, Texts).
-- All delimiters are ASCII, so the definitions stand over the bytes of a text.
use Rattle.std.specs.Prelude.{◌≡◌, ℕ, ◌+◌, List, [], ◌∷◌, ◌++◌, Bool, true, false, not, ◌&&◌, ◌||◌, if◌then◌else◌, nat_eq, codes}
use Rattle.std.specs.List.{list_any, list_all}
use Rattle.std.specs.Str.{bytes_eq, chars}
use Rattle.std.specs.Fmt.{decimal}
use Rattle.yarn_expr.specs.declared.token.Token.{Token}
use Rattle.yarn_expr.specs.declared.tree.Expr.{Expr}
use Rattle.yarn_commands.specs.Command.{IsExpression}
use Rattle.yarn_lines.specs.Lines.{is_blank, begins_with, past_leading, without_trailing}
use Rattle.yarn_items.specs.Brace.{ToBrace}

-- one character of a text as it is written, or a substitution
pub data Piece : Type 0 where
  -- a character that stands for itself
  Char : ℕ → Piece
  -- `\` and that character
  Pair : ℕ → Piece
  -- what stands between a `{` and its `}`
  Hole : List ℕ → Piece

-- the characters that make a pair with a `\` before them
abbrev pub is_escaped : ℕ → Bool
is_escaped c = list_any (λ e. nat_eq e c) (codes "\\{}[]#/<>")

-- what is no character of a text: a substitution, a hashtag, a comment or a condition begins there
abbrev pub begins_other : List ℕ → Bool
begins_other bytes = begins_with (codes "{") bytes || begins_with (codes "#") bytes || begins_with (codes "//") bytes || begins_with (codes "<<") bytes

-- a pair begins there
abbrev pub begins_pair : List ℕ → Bool
begins_pair (b ∷ c ∷ bytes) = nat_eq b 92 && is_escaped c
begins_pair bytes = false

-- the pieces at the front of a line, and what follows them
pub data Pieces : List ℕ → List Piece → List ℕ → Type 0 where
  no_piece : {rest : List ℕ} → Pieces rest [] rest
  pair : {c : ℕ} {bytes rest : List ℕ} {pieces : List Piece} → is_escaped c ≡ true → Pieces bytes pieces rest → Pieces (92 ∷ c ∷ bytes) (Pair c ∷ pieces) rest
  hole : {bytes inside more rest : List ℕ} {pieces : List Piece} → ToBrace false bytes inside more → Pieces more pieces rest →
      Pieces (123 ∷ bytes) (Hole inside ∷ pieces) rest
  char : {c : ℕ} {bytes rest : List ℕ} {pieces : List Piece} → begins_pair (c ∷ bytes) ≡ false → begins_other (c ∷ bytes) ≡ false →
      Pieces bytes pieces rest → Pieces (c ∷ bytes) (Char c ∷ pieces) rest

-- the characters whose pairs stay as they are written: those of braces, of markup and of `\` itself
abbrev pub is_kept : ℕ → Bool
is_kept c = list_any (λ e. nat_eq e c) (codes "\\{}[]")

-- a pair in the text that string tables have: of those that don't stay, the character alone
abbrev pub pair_text : ℕ → List ℕ
pair_text c = if is_kept c then 92 ∷ c ∷ [] else c ∷ []

-- `{k}`, which string tables have for the substitution at place k, from 0
abbrev pub hole_text : ℕ → List ℕ
hole_text k = 123 ∷ (decimal k ++ 125 ∷ [])

-- pieces as string tables have them, where so many substitutions stand before them
abbrev pub kept_from : ℕ → List Piece → List ℕ
kept_from k [] = []
kept_from k (Char c ∷ pieces) = c ∷ kept_from k pieces
kept_from k (Pair c ∷ pieces) = pair_text c ++ kept_from k pieces
kept_from k (Hole inside ∷ pieces) = hole_text k ++ kept_from (k + 1) pieces

abbrev pub trimmed : List ℕ → List ℕ
trimmed bytes = past_leading (without_trailing bytes)

abbrev pub table_text : List Piece → List ℕ
table_text pieces = trimmed (kept_from 0 pieces)

-- the substitutions of the pieces are these expressions, with these tokens in all
pub data AreHoles : List Piece → List Token → List Expr → Type 0 where
  no_more : AreHoles [] [] []
  past_char : {c : ℕ} {pieces : List Piece} {ts : List Token} {es : List Expr} → AreHoles pieces ts es → AreHoles (Char c ∷ pieces) ts es
  past_pair : {c : ℕ} {pieces : List Piece} {ts : List Token} {es : List Expr} → AreHoles pieces ts es → AreHoles (Pair c ∷ pieces) ts es
  at_hole : {inside : List ℕ} {pieces : List Piece} {own ts : List Token} {e : Expr} {es : List Expr} →
      IsExpression (chars inside) own e → AreHoles pieces ts es → AreHoles (Hole inside ∷ pieces) (own ++ ts) (e ∷ es)

-- the characters of a hashtag
abbrev pub is_tag_byte : ℕ → Bool
is_tag_byte b = not (is_blank b || nat_eq b 35)

abbrev pub begins_tag_byte : List ℕ → Bool
begins_tag_byte [] = false
begins_tag_byte (b ∷ bytes) = is_tag_byte b

-- hashtags with blanks between them, and then nothing or a comment; a hashtag is as long as it can be
pub data Tags : List ℕ → List (List ℕ) → Type 0 where
  no_tag : Tags [] []
  comment : {bytes : List ℕ} → begins_with (codes "//") bytes ≡ true → Tags bytes []
  blank : {b : ℕ} {bytes : List ℕ} {tags : List (List ℕ)} → is_blank b ≡ true → Tags bytes tags → Tags (b ∷ bytes) tags
  tag : {c : ℕ} {own bytes : List ℕ} {tags : List (List ℕ)} → list_all is_tag_byte (c ∷ own) ≡ true → begins_tag_byte bytes ≡ false →
      Tags bytes tags → Tags (35 ∷ ((c ∷ own) ++ bytes)) ((c ∷ own) ∷ tags)

-- a hashtag that gives its line an id
abbrev pub is_id : List ℕ → Bool
is_id own = begins_with (codes "line:") own

abbrev pub has_no_id : List (List ℕ) → Bool
has_no_id ts = not (list_any is_id ts)

-- at most one hashtag is an id, and it isn't `line:` alone
abbrev pub has_fine_ids : List (List ℕ) → Bool
has_fine_ids [] = true
has_fine_ids (t ∷ ts) = if is_id t then not (bytes_eq t (codes "line:")) && has_no_id ts else has_fine_ids ts

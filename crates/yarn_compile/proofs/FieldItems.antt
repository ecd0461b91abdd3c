-- The items of lines are fine: their expressions, names, values and titles.
use Rattle.std.proofs.Common.{◌≡◌, ℕ, ◌+◌, ◌<◌, ◌≤◌, List, [], ◌∷◌, ◌++◌, length, Option, Some, None, refl, sym, ap, ◌∙◌, subst, arith, append_assoc, length-append, Bool, true, false, not, All}
use Rattle.std.specs.Prelude.{codes, nat_eq, IsUtf8}
use Rattle.std.specs.Str.{chars}
use Rattle.std.specs.List.{list_all}
use Rattle.std.proofs.lemmas.Bool.{eqb-true}
use Rattle.std.proofs.lemmas.Option.{same_Some}
use Rattle.std.proofs.lemmas.List.Elements.{All-head, All-tail}
use Rattle.yarn_base.specs.declared.SourceFile.{SourceFile}
use Rattle.yarn_lines.specs.declared.line.RawLine.{RawLine}
use Rattle.yarn_lines.specs.Lines.{is_blank, without_cr, without_trailing, past_leading, content, text_of, counts, with_line, lines_from, pieces_in, lines_of}
use Rattle.yarn_expr.specs.declared.token.Token.{Token}
use Rattle.yarn_expr.specs.declared.tree.Expr.{Expr}
use Rattle.yarn_commands.specs.declared.command.Command.{Command}
use Rattle.yarn_commands.specs.declared.command.Command.TheVariants as command
use Rattle.yarn_items.specs.declared.item.Mode.{Mode}
use Rattle.yarn_items.specs.declared.item.Mode.TheVariants.{InHeaders, InBody}
use Rattle.yarn_items.specs.declared.item.Item.{Item}
use Rattle.yarn_items.specs.declared.item.Item.TheVariants as item
use Rattle.yarn_items.specs.Brace.{ToBrace}
use Rattle.yarn_items.specs.Text.{Piece, Char, Pair, Hole, Pieces, no_piece, pair, hole, char, trimmed, AreHoles, no_more, past_char, past_pair, at_hole}
use Rattle.yarn_items.specs.Game.{GamePieces}
use Rattle.yarn_items.specs.Game as game
use Rattle.yarn_items.specs.Content.{ToEnd, ends, quote, skipped, passed, other, HasContent, HasCondition}
use Rattle.yarn_items.specs.Item.{IsCondition, no_condition, condition, IsForm}
use Rattle.yarn_items.proofs.ContentLemmas.{brace-split}
use Rattle.yarn_items.proofs.Utf8Lemmas.{BeginsAscii, split-utf8, behind-utf8, past_leading-utf8, past_leading-length, without_trailing-utf8, trailing, trimmed-utf8}
use Rattle.yarn_nodes.specs.Entries.{ItemAt}
use Rattle.yarn_nodes.specs.Finds.{next_mode}
use Rattle.yarn_nodes.specs.Lines.{IsReadable, IsItems}
use Rattle.yarn_compile.proofs.Parts.{Each}
use Rattle.yarn_compile.proofs.FieldCharacters.{AreChars, IsFine, chars_of}
use Rattle.yarn_compile.proofs.FieldExpressions.{FineExpr, expression_fine}
use Rattle.yarn_compile.proofs.FieldCommands.{FineCommand, command_fine}

-- ---- pieces of a text

abbrev FinePiece : Piece → Type 0
FinePiece (Char c) = Unit {0}
FinePiece (Pair c) = Unit {0}
FinePiece (Hole inside) = IsFine inside

-- what stands before and behind a character of ASCII
middle : (front bytes inside more : List ℕ) → bytes ≡ inside ++ 125 ∷ more → IsUtf8 (front ++ 123 ∷ bytes) → length (123 ∷ bytes) ≤ 65536 →
    IsFine inside × IsFine more
middle front bytes inside more split utf8 short =
    let own : IsUtf8 (inside ++ 125 ∷ more) = subst IsUtf8 split (behind-utf8 123 bytes (omega arith) (split-utf8 front (123 ∷ bytes) (omega arith) utf8).1) in
    let parts = split-utf8 inside (125 ∷ more) (omega arith) own in
    let long : length bytes ≡ length inside + length (125 ∷ more) = ap length split ∙ length-append inside (125 ∷ more) in (
      record { utf8 = parts.0; short = omega (arith, short, long) },
      record { utf8 = behind-utf8 125 more (omega arith) parts.1; short = omega (arith, short, long) },
    )

-- the rest of a text, where something stands before it
record IsRest (rest : List ℕ) : Type 0 where
  front : List ℕ
  utf8 : IsUtf8 (front ++ rest)
  short : length rest ≤ 65536

moved : (front rest : List ℕ) (c : ℕ) → IsUtf8 (front ++ c ∷ rest) → IsUtf8 ((front ++ c ∷ []) ++ rest)
moved front rest c h = subst IsUtf8 (sym (append_assoc front (c ∷ []) rest)) h

pieces_fine : {bytes rest : List ℕ} {pieces : List Piece} → Pieces bytes pieces rest → (front : List ℕ) → IsUtf8 (front ++ bytes) →
    length bytes ≤ 65536 →
    Each FinePiece pieces × IsRest rest
pieces_fine no_piece front utf8 short = (tt, record { front = front; utf8 = utf8; short = short })
pieces_fine (pair {c = c} {bytes = bytes} is later) front utf8 short =
    let more = pieces_fine later ((front ++ 92 ∷ []) ++ c ∷ []) (moved (front ++ 92 ∷ []) bytes c (moved front (c ∷ bytes) 92 utf8)) (omega (arith, short)) in
    ((tt, more.0), more.1)
pieces_fine (hole {bytes = bytes} {inside = inside} {more = behind} braced later) front utf8 short =
    let both = middle front bytes inside behind (brace-split braced) utf8 short in
    let more = pieces_fine later [] both.1.utf8 both.1.short in
    ((both.0, more.0), more.1)
pieces_fine (char {c = c} {bytes = bytes} is plain later) front utf8 short =
    let more = pieces_fine later (front ++ c ∷ []) (moved front bytes c utf8) (omega (arith, short)) in
    ((tt, more.0), more.1)

game_fine : {bytes : List ℕ} {pieces : List Piece} → GamePieces bytes pieces → (front : List ℕ) → IsUtf8 (front ++ bytes) → length bytes ≤ 65536 →
    Each FinePiece pieces
game_fine game.no_piece front utf8 short = tt
game_fine game.last front utf8 short = (tt, tt)
game_fine (game.pair {c = c} {bytes = bytes} later) front utf8 short =
    (tt, game_fine later ((front ++ 92 ∷ []) ++ c ∷ []) (moved (front ++ 92 ∷ []) bytes c (moved front (c ∷ bytes) 92 utf8)) (omega (arith, short)))
game_fine (game.hole {bytes = bytes} {inside = inside} {more = behind} braced later) front utf8 short =
    let both = middle front bytes inside behind (brace-split braced) utf8 short in
    (both.0, game_fine later [] both.1.utf8 both.1.short)
game_fine (game.char {c = c} {bytes = bytes} is later) front utf8 short = (tt, game_fine later (front ++ c ∷ []) (moved front bytes c utf8) (omega (arith, short)))

holes_fine : {pieces : List Piece} {ts : List Token} {es : List Expr} → AreHoles pieces ts es → Each FinePiece pieces → Each FineExpr es
holes_fine no_more h = tt
holes_fine (past_char more) h = holes_fine more h.1
holes_fine (past_pair more) h = holes_fine more h.1
holes_fine (at_hole {inside = inside} is more) h = (expression_fine (chars_of inside h.0) is, holes_fine more h.1)

-- ---- contents

end_split : {games quoted : Bool} {bytes inside rest : List ℕ} → ToEnd games quoted bytes inside rest → bytes ≡ inside ++ (62 ∷ 62 ∷ rest)
end_split ends = refl
end_split (quote later) = ap (λ (l : List ℕ). 34 ∷ l) (end_split later)
end_split (skipped {c = c} later) = ap (λ (l : List ℕ). 92 ∷ c ∷ l) (end_split later)
end_split (passed {own = own} {inside = inside} {rest = rest} braced later) =
    ap (λ (l : List ℕ). 123 ∷ l) (brace-split braced ∙ ap (λ (l : List ℕ). own ++ 125 ∷ l) (end_split later) ∙ sym (append_assoc own (125 ∷ inside) (62 ∷ 62 ∷ rest)))
end_split (other {c = c} is later) = ap (λ (l : List ℕ). c ∷ l) (end_split later)

trimmed_length : (bytes : List ℕ) → length (trimmed bytes) ≤ length bytes
trimmed_length bytes =
    let cut = trailing bytes in
    omega (arith, past_leading-length (without_trailing bytes), ap length cut.split, length-append (without_trailing bytes) cut.blanks)

trimmed_fine : (bytes : List ℕ) → IsFine bytes → IsFine (trimmed bytes)
trimmed_fine bytes h = record { utf8 = trimmed-utf8 bytes h.utf8; short = omega (arith, h.short, trimmed_length bytes) }

-- what stands before the end of a content
before_end : (games : Bool) (bytes inside rest : List ℕ) → ToEnd games false bytes inside rest → IsFine bytes → IsFine (trimmed inside)
before_end games bytes inside rest is h =
    let split = end_split is in
    trimmed_fine inside (record {
      utf8 = (split-utf8 inside (62 ∷ 62 ∷ rest) (omega arith) (subst IsUtf8 split h.utf8)).0;
      short = omega (arith, h.short, ap length split, length-append inside (62 ∷ 62 ∷ rest));
    })

behind_two : (text bytes : List ℕ) → text ≡ 60 ∷ 60 ∷ bytes → IsFine text → IsFine bytes
behind_two text bytes split h = record {
  utf8 = behind-utf8 60 bytes (omega arith) (behind-utf8 60 (60 ∷ bytes) (omega arith) (subst IsUtf8 split h.utf8));
  short = omega (arith, h.short, ap length split);
}

content_fine : (text content rest : List ℕ) → HasContent text content rest → IsFine text → IsFine content
content_fine text content rest is h = subst IsFine (sym is.own) (before_end _ is.bytes is.inside rest is.to_end (behind_two text is.bytes is.split h))

condition_content : (text content rest : List ℕ) → HasCondition text content rest → IsFine text → IsFine content
condition_content text content rest is h = subst IsFine (sym is.own) (before_end false is.bytes is.inside rest is.to_end (behind_two text is.bytes is.split h))

rest_fine : (rest bytes : List ℕ) → rest ≡ 60 ∷ 60 ∷ bytes → IsRest rest → IsFine rest
rest_fine rest bytes split h = record {
  utf8 = subst IsUtf8 (sym split) (split-utf8 h.front (60 ∷ 60 ∷ bytes) (omega arith) (subst (λ (l : List ℕ). IsUtf8 (h.front ++ l)) split h.utf8)).1;
  short = h.short;
}

abbrev pub FineIf : Option Expr → Type 0
FineIf None = Unit {0}
FineIf (Some e) = FineExpr e

condition_fine : {rest behind : List ℕ} {ts : List Token} {asked : Option Expr} → IsCondition rest ts asked behind → IsRest rest → FineIf asked
condition_fine no_condition h = tt
condition_fine (condition {bytes = bytes} {content = content} {rest = rest} {tokens = ts} {e = e} has is) h =
    command_fine (chars content) ts (command.If e) (chars_of content (condition_content bytes content rest has (rest_fine bytes has.bytes has.split h))) is

-- ---- items

abbrev pub FineItem : Item → Type 0
FineItem (item.Line said) = Each FineExpr said.holes
FineItem (item.Offer said asked) = Each FineExpr said.holes × FineIf asked
FineItem (item.Game said) = Each FineExpr said.holes
FineItem (item.Command own tags) = FineCommand own
FineItem (item.FileTag tag) = Unit {0}
FineItem (item.Header header) = Unit {0}
FineItem item.BodyBegins = Unit {0}
FineItem item.NodeEnds = Unit {0}

item_fine : (mode : Mode) (text : List ℕ) (ts : List Token) (i : Item) → IsForm mode text ts i → IsFine text → FineItem i
item_fine InBody text ts (item.Line said) h own = holes_fine h.held (pieces_fine h.read [] own.utf8 own.short).0
item_fine InBody text ts (item.Offer said asked) h own =
    let short : length h.bytes ≤ 65536 = omega (arith, own.short, ap length h.split) in
    let both = pieces_fine h.read (codes "->") (subst IsUtf8 h.split own.utf8) short in
    (holes_fine h.held both.0, condition_fine h.conditioned both.1)
item_fine InBody text ts (item.Game said) h own =
    let inner = content_fine text h.content h.rest h.has own in
    holes_fine h.held (game_fine h.read [] inner.utf8 inner.short)
item_fine InBody text ts (item.Command own tags) h fine = command_fine (chars h.content) ts own (chars_of h.content (content_fine text h.content h.rest h.has fine)) h.is
item_fine InHeaders text ts (item.Line said) h own = absurd h
item_fine InHeaders text ts (item.Offer said asked) h own = absurd h
item_fine InHeaders text ts (item.Game said) h own = absurd h
item_fine InHeaders text ts (item.Command own tags) h fine = absurd h
item_fine mode text ts (item.FileTag tag) h own = tt
item_fine mode text ts (item.Header header) h own = tt
item_fine mode text ts item.BodyBegins h own = tt
item_fine mode text ts item.NodeEnds h own = tt

-- ---- lines

-- a carriage return at the end
record Cut (piece : List ℕ) : Type 0 where
  behind : List ℕ
  split : piece ≡ without_cr piece ++ behind
  begins : BeginsAscii behind

cr_cut : (piece : List ℕ) → Cut piece
cr_cut [] = record { behind = []; split = refl; begins = tt }
cr_cut (b ∷ []) = by_test (nat_eq b 13) refl
  where
    by_test : (t : Bool) → nat_eq b 13 ≡ t → Cut (b ∷ [])
    by_test true t = record { behind = b ∷ []; split = rw t refl; begins = omega (arith, eqb-true b 13 t) }
    by_test false t = record { behind = []; split = rw t refl; begins = tt }
cr_cut (b ∷ c ∷ piece) =
    let more = cr_cut (c ∷ piece) in
    record { behind = more.behind; split = ap (λ (l : List ℕ). b ∷ l) more.split; begins = more.begins }

without_cr_fine : (piece : List ℕ) → IsFine piece → IsFine (without_cr piece)
without_cr_fine piece h =
    let cut = cr_cut piece in
    record {
      utf8 = (split-utf8 (without_cr piece) cut.behind cut.begins (subst IsUtf8 cut.split h.utf8)).0;
      short = omega (arith, h.short, ap length cut.split, length-append (without_cr piece) cut.behind);
    }

text_fine : (piece : List ℕ) → IsFine piece → IsFine (text_of piece)
text_fine piece h = trimmed_fine (without_cr piece) (without_cr_fine piece h)

abbrev FineLine : RawLine → Type 0
FineLine line = IsFine line.text

line_fine : (number at : ℕ) (piece : List ℕ) (lines : List RawLine) → IsFine piece → Each FineLine lines →
    Each FineLine (with_line number at piece lines)
line_fine number at piece lines h more = by_test (counts (text_of piece)) refl
  where
    by_test : (t : Bool) → counts (text_of piece) ≡ t → Each FineLine (with_line number at piece lines)
    by_test true t = rw t (text_fine piece h, more)
    by_test false t = rw t more

lines_fine : (number at : ℕ) (pieces : List (List ℕ)) → All IsUtf8 pieces → All (λ piece. length piece ≤ 65536) pieces →
    Each FineLine (lines_from number at pieces)
lines_fine number at [] utf8 short = tt
lines_fine number at (piece ∷ pieces) utf8 short =
    line_fine number at piece (lines_from (number + 1) (at + length piece + 1) pieces)
    (record { utf8 = All-head IsUtf8 piece pieces utf8; short = All-head (λ (p : List ℕ). length p ≤ 65536) piece pieces short })
    (lines_fine (number + 1) (at + length piece + 1) pieces (All-tail IsUtf8 piece pieces utf8) (All-tail (λ (p : List ℕ). length p ≤ 65536) piece pieces short))

items_from_lines : (mode : Mode) (lines : List RawLine) (items : List ItemAt) → IsItems mode lines items → Each FineLine lines →
    Each (λ (x : ItemAt). FineItem x.item) items
items_from_lines mode [] [] is h = tt
items_from_lines mode [] (x ∷ items) is h = absurd is
items_from_lines mode (line ∷ lines) [] is h = absurd is
items_from_lines mode (line ∷ lines) (x ∷ items) is h =
    (item_fine mode line.text is.2.0 x.item is.2.1.1 h.0, items_from_lines (next_mode mode x.item) lines items is.3 h.1)

-- the items of a readable file are fine
pub items_fine : (bytes : List ℕ) (items : List ItemAt) → IsReadable bytes → IsItems InHeaders (lines_of bytes).lines items →
    Each (λ (x : ItemAt). FineItem x.item) items
items_fine bytes items readable is = items_from_lines InHeaders (lines_of bytes).lines items is (lines_fine 1 _ (pieces_in bytes) readable.0 readable.1)

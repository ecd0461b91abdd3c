-- The lines of a file have at most 65,536 bytes, so the texts of their items are templates.
use Rattle.std.proofs.Common.{◌≡◌, ℕ, ◌+◌, ◌≤◌, List, [], ◌∷◌, length, Some, refl, sym, ap, subst, arith, Bool, true, false, All, nat_eq, length-append}
use Rattle.std.specs.List.{AllByRecursion, list_all}
use Rattle.std.proofs.lemmas.Option.{same_Some}
use Rattle.std.proofs.lemmas.List.Elements.{All-head, All-tail}
use Rattle.yarn_expr.specs.declared.token.Token.{Token}
use Rattle.yarn_lines.specs.declared.line.RawLine.{RawLine}
use Rattle.yarn_lines.specs.Lines.{is_blank, without_cr, without_trailing, past_leading, content, text_of, counts, with_line, lines_from, pieces_in, lines_of}
use Rattle.yarn_commands.specs.declared.command.Command.{Command}
use Rattle.yarn_commands.specs.declared.command.Command.TheVariants as command
use Rattle.yarn_items.specs.declared.item.Mode.{Mode}
use Rattle.yarn_items.specs.declared.item.Mode.TheVariants.{InHeaders, InBody}
use Rattle.yarn_items.specs.declared.item.Said.{Said}
use Rattle.yarn_items.specs.declared.item.Item.{Item}
use Rattle.yarn_items.specs.declared.item.Item.TheVariants as item
use Rattle.yarn_items.specs.Text.{trimmed}
use Rattle.yarn_items.specs.Content.{ToEnd, ends, quote, skipped, passed, other, HasContent}
use Rattle.yarn_items.specs.Item.{IsForm}
use Rattle.yarn_blocks.specs.declared.entry.Entry.{Entry}
use Rattle.yarn_blocks.specs.declared.entry.What.{What}
use Rattle.yarn_nodes.specs.Entries.{ItemAt, command_at, what_at, id_in, said_by, AreEntries}
use Rattle.yarn_nodes.specs.Finds.{holes_in}
use Rattle.yarn_nodes.specs.Lines.{IsReadable}
use Rattle.yarn_code.specs.Fields.{IsText}
use Rattle.yarn_ids.proofs.PieceTexts.{brace_bytes, table_template, game_template}
use Rattle.yarn_ids.proofs.Texts.{WhatText, EntryText}

-- ---- how long lines are

trailing_short : (bytes : List ℕ) → length (without_trailing bytes) ≤ length bytes
trailing_short [] = omega arith
trailing_short (b ∷ bytes) = by_test (trailing_short bytes) (list_all is_blank (b ∷ bytes)) refl
  where
    by_test : length (without_trailing bytes) ≤ length bytes → (t : Bool) → list_all is_blank (b ∷ bytes) ≡ t →
        length (without_trailing (b ∷ bytes)) ≤ length (b ∷ bytes)
    by_test later true t = rw t (omega arith)
    by_test later false t = rw t (omega (arith, later))

leading_short : (bytes : List ℕ) → length (past_leading bytes) ≤ length bytes
leading_short [] = omega arith
leading_short (b ∷ bytes) = by_test (leading_short bytes) (is_blank b) refl
  where
    by_test : length (past_leading bytes) ≤ length bytes → (t : Bool) → is_blank b ≡ t → length (past_leading (b ∷ bytes)) ≤ length (b ∷ bytes)
    by_test later true t = rw t (omega (arith, later))
    by_test later false t = rw t (omega arith)

trimmed_short : (bytes : List ℕ) → length (trimmed bytes) ≤ length bytes
trimmed_short bytes = omega (arith, leading_short (without_trailing bytes), trailing_short bytes)

cr_short : (bytes : List ℕ) → length (without_cr bytes) ≤ length bytes
cr_short [] = omega arith
cr_short (b ∷ []) = by_test (nat_eq b 13) refl
  where
    by_test : (t : Bool) → nat_eq b 13 ≡ t → length (without_cr (b ∷ [])) ≤ 1
    by_test true t = rw t (omega arith)
    by_test false t = rw t (omega arith)
cr_short (b ∷ c ∷ bytes) = omega (arith, cr_short (c ∷ bytes))

text_short : (piece : List ℕ) → length (text_of piece) ≤ length piece
text_short piece = omega (arith, leading_short (content piece), trailing_short (without_cr piece), cr_short piece)

-- a line of at most 65,536 bytes
abbrev pub IsShort : RawLine → Type 0
IsShort line = length line.text ≤ 65536

line_short : (number at : ℕ) (piece : List ℕ) (lines : List RawLine) → length piece ≤ 65536 → AllByRecursion IsShort lines →
    AllByRecursion IsShort (with_line number at piece lines)
line_short number at piece lines h more = by_test (counts (text_of piece)) refl
  where
    by_test : (t : Bool) → counts (text_of piece) ≡ t → AllByRecursion IsShort (with_line number at piece lines)
    by_test true t = rw t (omega (arith, text_short piece), more)
    by_test false t = rw t more

lines_short : (number at : ℕ) (pieces : List (List ℕ)) → All (λ piece. length piece ≤ 65536) pieces →
    AllByRecursion IsShort (lines_from number at pieces)
lines_short number at [] h = tt
lines_short number at (piece ∷ pieces) h =
    line_short number at piece (lines_from (number + 1) (at + length piece + 1) pieces)
    (All-head (λ (p : List ℕ). length p ≤ 65536) piece pieces h)
    (lines_short (number + 1) (at + length piece + 1) pieces (All-tail (λ (p : List ℕ). length p ≤ 65536) piece pieces h))

-- readable lines are short
pub readable_short : (bytes : List ℕ) → IsReadable bytes → AllByRecursion IsShort (lines_of bytes).lines
readable_short bytes h = lines_short 1 _ (pieces_in bytes) h.1

-- ---- items

inside_short : {games quoted : Bool} {bytes inside rest : List ℕ} → ToEnd games quoted bytes inside rest → length inside ≤ length bytes
inside_short ends = omega arith
inside_short (quote h) = omega (arith, inside_short h)
inside_short (skipped h) = omega (arith, inside_short h)
inside_short (passed {own = own} {inside = inside} own_bytes h) = omega (arith, brace_bytes own_bytes, inside_short h, length-append own (125 ∷ inside))
inside_short (other is h) = omega (arith, inside_short h)

content_short : (text content rest : List ℕ) → HasContent text content rest → length content ≤ length text
content_short text content rest h = omega (arith, ap length h.split, ap length h.own, trimmed_short h.inside, inside_short h.to_end)

abbrev pub SaidText : Said → Type 0
SaidText said = IsText said.text (length said.holes)

abbrev pub ItemText : Item → Type 0
ItemText (item.Line said) = SaidText said
ItemText (item.Offer said asked) = SaidText said
ItemText (item.Game said) = SaidText said
ItemText (item.Command own tags) = Unit {0}
ItemText (item.FileTag tag) = Unit {0}
ItemText (item.Header header) = Unit {0}
ItemText item.BodyBegins = Unit {0}
ItemText item.NodeEnds = Unit {0}

-- the item of a short line, with at most 16 substitutions
pub item_text : (mode : Mode) (text : List ℕ) (tokens : List Token) (i : Item) → IsForm mode text tokens i → length text ≤ 65536 →
    length (holes_in i) ≤ 16 → ItemText i
item_text InBody text tokens (item.Line said) h short few =
    subst (λ l. IsText l (length said.holes)) (sym h.own) (table_template text h.rest h.pieces tokens said.holes h.read h.held short few)
item_text InBody text tokens (item.Offer said asked) h short few =
    subst (λ l. IsText l (length said.holes)) (sym h.own)
    (table_template h.bytes h.rest h.pieces h.of_text said.holes h.read h.held (omega (arith, ap length h.split)) few)
item_text InBody text tokens (item.Game said) h short few =
    subst (λ l. IsText l (length said.holes)) (sym h.own)
    (game_template h.content h.pieces tokens said.holes h.read h.held (omega (arith, content_short text h.content h.rest h.has)) few)
item_text InHeaders text tokens (item.Line said) h short few = absurd h
item_text InHeaders text tokens (item.Offer said asked) h short few = absurd h
item_text InHeaders text tokens (item.Game said) h short few = absurd h
item_text mode text tokens (item.Command own tags) h short few = tt
item_text mode text tokens (item.FileTag tag) h short few = tt
item_text mode text tokens (item.Header header) h short few = tt
item_text mode text tokens item.BodyBegins h short few = tt
item_text mode text tokens item.NodeEnds h short few = tt

-- ---- entries

command_text : (line : ℕ) (tags : List (List ℕ)) (c : Command) (w : What) → command_at line tags c ≡ Some w → WhatText w
command_text line tags (command.If e) w is = subst WhatText (same_Some _ w is) tt
command_text line tags (command.ElseIf e) w is = subst WhatText (same_Some _ w is) tt
command_text line tags command.Else w is = subst WhatText (same_Some _ w is) tt
command_text line tags command.EndIf w is = subst WhatText (same_Some _ w is) tt
command_text line tags (command.Set name op e) w is = subst WhatText (same_Some _ w is) tt
command_text line tags (command.Declare name v k) w is = subst WhatText (same_Some _ w is) tt
command_text line tags (command.Jump title) w is = subst WhatText (same_Some _ w is) tt
command_text line tags (command.JumpTo e) w is = subst WhatText (same_Some _ w is) tt
command_text line tags command.Stop w is = subst WhatText (same_Some _ w is) tt
command_text line tags (command.Call e) w is = subst WhatText (same_Some _ w is) tt
command_text line tags command.Game w is = absurd cc

what_text : (line : ℕ) (id : List ℕ) (i : Item) (w : What) → what_at line id i ≡ Some w → ItemText i → WhatText w
what_text line id (item.Line said) w is h = subst WhatText (same_Some _ w is) h
what_text line id (item.Offer said asked) w is h = subst WhatText (same_Some _ w is) h
what_text line id (item.Command own tags) w is h = command_text line tags own w is
what_text line id (item.Game said) w is h = subst WhatText (same_Some _ w is) h
what_text line id (item.FileTag tag) w is h = absurd cc
what_text line id (item.Header header) w is h = absurd cc
what_text line id item.BodyBegins w is h = absurd cc
what_text line id item.NodeEnds w is h = absurd cc

pub entries_text : (items : List ItemAt) (entries : List Entry) → AreEntries items entries → AllByRecursion (λ (x : ItemAt). ItemText x.item) items →
    AllByRecursion EntryText entries
entries_text [] [] is h = tt
entries_text [] (entry ∷ entries) is h = absurd is
entries_text (x ∷ items) [] is h = absurd is
entries_text (x ∷ items) (entry ∷ entries) is h =
    (what_text x.line (id_in (said_by entry.what)) x.item entry.what is.0.is h.0, entries_text items entries is.1 h.1)

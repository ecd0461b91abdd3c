-- A simple line is the line with its own text, no substitutions and no hashtags.
use Rattle.std.proofs.Common.{◌≡◌, ℕ, ◌+◌, List, [], ◌∷◌, ◌++◌, length, Bool, true, false, not, nat_eq, Some, inl, codes, bytes_eq, refl, sym, ap, ◌∙◌, arith}
use Rattle.std.specs.List.{list_any}
use Rattle.std.proofs.lemmas.Bool.{eqb-true, or_parts, or_from, false_from_ne_true}
use Rattle.std.proofs.lemmas.List.{length-append}
use Rattle.yarn_lines.specs.Lines.{is_blank, past_leading, without_trailing}
use Rattle.yarn_items.specs.Text.{Piece, Char, Pieces, no_piece, char, AreHoles, no_more, past_char, begins_other, begins_pair, kept_from, trimmed}
use Rattle.yarn_items.specs.Item.{is_cr, is_option, is_command}
use Rattle.yarn_items.specs.TextForm.{text_found}
use Rattle.yarn_items.specs.Heading.{bare}
use Rattle.yarn_items.specs.Body.{line_of, line_found, body_found}
use Rattle.yarn_items.specs.Form.{found_of}
use Rattle.yarn_items.specs.Simple.{is_special, is_bare, is_simple}
use Rattle.yarn_items.specs.declared.item.Mode.TheVariants.{InBody}
use Rattle.yarn_items.specs.declared.item.Found.{Found}
use Rattle.yarn_items.specs.declared.item.Item.TheVariants as item
use Rattle.yarn_items.proofs.TextLaws.{pieces-are-texts}
use Rattle.yarn_items.proofs.Utf8Lemmas.{trailing, past_leading-length}

-- Bytes that aren't special.

other-byte : (k b : ℕ) → is_special k ≡ true → is_special b ≡ false → nat_eq b k ≡ false
other-byte k b special plain = false_from_ne_true (nat_eq b k) (λ e. let h : true ≡ false = sym special ∙ sym (ap is_special (eqb-true b k e)) ∙ plain in absurd cc)

no_cr : (text : List ℕ) → list_any is_special text ≡ false → list_any is_cr text ≡ false
no_cr [] plain = refl
no_cr (b ∷ text) plain =
    let parts = or_parts (is_special b) (list_any is_special text) plain in
    or_from (is_cr b) (list_any is_cr text) (other-byte 13 b refl parts.0) (no_cr text parts.1)

begins-no_other : (b : ℕ) (bytes : List ℕ) → is_special b ≡ false → begins_other (b ∷ bytes) ≡ false
begins-no_other b bytes plain = rw (other-byte 123 b refl plain, other-byte 35 b refl plain, other-byte 47 b refl plain, other-byte 60 b refl plain) refl

-- the bytes as characters
abbrev characters : List ℕ → List Piece
characters [] = []
characters (b ∷ bytes) = Char b ∷ characters bytes

no_pair : (b : ℕ) (bytes : List ℕ) → is_special b ≡ false → begins_pair (b ∷ bytes) ≡ false
no_pair b [] plain = refl
no_pair b (c ∷ bytes) plain = rw (other-byte 92 b refl plain) refl

-- the whole is the text
whole-text : (text : List ℕ) → list_any is_special text ≡ false → Pieces text (characters text) []
whole-text [] plain = no_piece
whole-text (b ∷ bytes) plain =
    let parts = or_parts (is_special b) (list_any is_special bytes) plain in
    char (no_pair b bytes parts.0) (begins-no_other b bytes parts.0) (whole-text bytes parts.1)

no-holes : (text : List ℕ) → AreHoles (characters text) [] []
no-holes [] = no_more
no-holes (b ∷ bytes) = past_char (no-holes bytes)

kept-same : (text : List ℕ) → kept_from 0 (characters text) ≡ text
kept-same [] = refl
kept-same (b ∷ bytes) = ap (λ l. b ∷ l) (kept-same bytes)

no_command : (text : List ℕ) → list_any is_special text ≡ false → is_command text ≡ false
no_command [] plain = refl
no_command (b ∷ text) plain = let parts = or_parts (is_special b) (list_any is_special text) plain in rw (other-byte 60 b refl parts.0) refl

-- Blanks around a text.

same-past_leading : (bytes : List ℕ) → length (past_leading bytes) ≡ length bytes → past_leading bytes ≡ bytes
same-past_leading [] same = refl
same-past_leading (b ∷ bytes) same = by_test (is_blank b) refl
  where
    by_test : (t : Bool) → is_blank b ≡ t → past_leading (b ∷ bytes) ≡ b ∷ bytes
    by_test true t = let h : length (past_leading bytes) ≡ length (b ∷ bytes) = rw t at same in absurd (omega (arith, h, past_leading-length bytes))
    by_test false t = rw t refl

empty-from : (bytes : List ℕ) → length bytes ≡ 0 → bytes ≡ []
empty-from [] none = refl
empty-from (b ∷ bytes) none = absurd (omega arith)

append-nothing : (xs : List ℕ) → xs ++ [] ≡ xs
append-nothing [] = refl
append-nothing (x ∷ xs) = ap (λ l. x ∷ l) (append-nothing xs)

pub bare-trimmed : (text : List ℕ) → is_bare text ≡ true → trimmed text ≡ text
bare-trimmed text is =
    let cut = trailing text in
    let same = eqb-true (length (trimmed text)) (length text) is in
    let size : length text ≡ length (without_trailing text) + length cut.blanks = ap length cut.split ∙ length-append (without_trailing text) cut.blanks in
    let less = past_leading-length (without_trailing text) in
    let none : cut.blanks ≡ [] = empty-from cut.blanks (omega (arith, same, size, less)) in
    let back : without_trailing text ≡ text = sym (append-nothing (without_trailing text)) ∙ ap (λ l. without_trailing text ++ l) (sym none) ∙ sym cut.split in
    ap past_leading back ∙ same-past_leading text (ap (λ l. length (past_leading l)) (sym back) ∙ same)

-- Lines.

not-true : (b : Bool) → not b ≡ true → b ≡ false
not-true true is = absurd cc
not-true false is = refl

record IsSimple (text : List ℕ) : Type 0 where
  pub plain : list_any is_special text ≡ false
  pub no_option : is_option text ≡ false
  pub no_end : bytes_eq text (codes "===") ≡ false
  pub some : bytes_eq text [] ≡ false
  pub bare : is_bare text ≡ true

simple-parts : (text : List ℕ) → is_simple text ≡ true → IsSimple text
simple-parts text is = of (list_any is_special text) (is_option text) (bytes_eq text (codes "===")) (bytes_eq text []) (is_bare text) refl refl refl refl refl
  where
    of : (a b c d e : Bool) → list_any is_special text ≡ a → is_option text ≡ b → bytes_eq text (codes "===") ≡ c → bytes_eq text [] ≡ d →
        is_bare text ≡ e → IsSimple text
    of false false false false true i j k l m = record { plain = i; no_option = j; no_end = k; some = l; bare = m }
    of true b c d e i j k l m = let h = rw i at is in absurd cc
    of false true c d e i j k l m = let h = rw (i, j) at is in absurd cc
    of false false true d e i j k l m = let h = rw (i, j, k) at is in absurd cc
    of false false false true e i j k l m = let h = rw (i, j, k, l) at is in absurd cc
    of false false false false false i j k l m = let h = rw (i, j, k, l, m) at is in absurd cc

abbrev plain_line : List ℕ → Found
plain_line text = bare (item.Line (record { text = text; holes = []; tags = [] }))

simple-text : (text : List ℕ) → IsSimple text → text_found text ≡ Some (record { text = text; holes = []; tokens = []; rest = [] })
simple-text text is =
    pieces-are-texts text [] (characters text) [] [] (whole-text text is.plain) (no-holes text) (inl refl)
    ∙ ap (λ own. Some (record { text = own; holes = []; tokens = []; rest = [] })) (ap trimmed (kept-same text) ∙ bare-trimmed text is.bare)

simple-line : (text : List ℕ) → IsSimple text → line_found text ≡ Some (plain_line text)
simple-line text is = ap line_of (simple-text text is) ∙ rw (is.some, is.no_end) refl

simple-body : (text : List ℕ) → IsSimple text → body_found text ≡ Some (plain_line text)
simple-body text is = rw (is.no_end, is.no_option, no_command text is.plain) (simple-line text is)

pub found_of-simple : (text : List ℕ) → is_simple text ≡ true → found_of InBody text ≡ Some (bare (item.Line (record { text = text; holes = []; tags = [] })))
unfolding found_of
found_of-simple text is = let parts = simple-parts text is in rw (no_cr text parts.plain) (simple-body text parts)

pub ruleset simple_lines = (found_of-simple)

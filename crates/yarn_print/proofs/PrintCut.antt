-- The lines of a printed file: they are those that were printed, and each stands for its item again.
use Rattle.std.proofs.Common.{◌≡◌, ℕ, zero, suc, ◌+◌, ◌<◌, List, [], ◌∷◌, ◌++◌, length, drop, map, Bool, true, false, ◌&&◌, nat_eq, codes, refl, sym, ap, subst, ◌∙◌, append_assoc, arith, IsUtf8}
use Rattle.std.specs.List.{list_any, list_all, flat_map, All}
use Rattle.std.specs.Str.{chars, is_utf8}
use Rattle.std.proofs.lemmas.Bool.{true≢false, eqb-true, or_parts, or_from, and_parts, and_left, and_right, both_ways}
use Rattle.std.proofs.lemmas.List.Elements.{All-nil, All-cons, All-head, All-tail}
use Rattle.std.proofs.lemmas.List.Concat.{flat_map-append}
use Rattle.unicode_ident.proofs.Computing.{unicode_ident}
use Rattle.yarn_base.specs.Name.{is_name_of, starts_name}
use Rattle.yarn_lines.specs.Lines.{is_blank, mark_length, pieces_of, onto, begins_with, without_cr, text_of, counts, lines_from, lines_of, pieces_in}
use Rattle.yarn_items.specs.declared.item.Mode.{Mode}
use Rattle.yarn_items.specs.declared.item.Mode.TheVariants.{InHeaders}
use Rattle.yarn_items.specs.declared.item.Item.{Item}
use Rattle.yarn_items.specs.declared.item.Item.TheVariants as item
use Rattle.yarn_items.specs.Item.{is_name_text, IsForm}
use Rattle.yarn_expr.specs.declared.token.Token.{Token}
use Rattle.yarn_nodes.specs.Entries.{ItemAt}
use Rattle.yarn_nodes.specs.Finds.{next_mode}
use Rattle.yarn_nodes.specs.Lines.{HasItem, IsItems}
use Rattle.yarn_print.specs.Print.{ended, blanks}
use Rattle.yarn_print.specs.PrintLaws.{StandsAlone}
use Rattle.yarn_print.proofs.PrintLines.{is_lf, IsFree, free-text_of, free-blanks, tight-trimmed, trimmed-tight, solid-trimmed, text-indented, indent-indented, counts-solid}
use Rattle.yarn_print.proofs.PrintUtf8.{utf8-text_of, utf8-blanks}
use Rattle.yarn_print.proofs.PrintHeads.{IsPrinted}

-- ---- the lines that were read

onto-free : (b : ℕ) (pieces : List (List ℕ)) → is_lf b ≡ false → All (IsFree is_lf) pieces → All (IsFree is_lf) (onto b pieces)
onto-free b [] plain all = All-cons (IsFree is_lf) (b ∷ []) [] (or_from (is_lf b) false plain refl) all
onto-free b (piece ∷ pieces) plain all =
    All-cons (IsFree is_lf) (b ∷ piece) pieces (or_from (is_lf b) (list_any is_lf piece) plain (All-head (IsFree is_lf) piece pieces all)) (All-tail (IsFree is_lf) piece pieces all)

-- no piece of a file has an LF
pieces-free : (bytes : List ℕ) → All (IsFree is_lf) (pieces_of bytes)
pieces-free [] = All-nil (IsFree is_lf)
pieces-free (b ∷ bytes) = by_test (pieces-free bytes) (nat_eq b 10) refl
  where
    by_test : All (IsFree is_lf) (pieces_of bytes) → (t : Bool) → nat_eq b 10 ≡ t → All (IsFree is_lf) (pieces_of (b ∷ bytes))
    by_test later true t = rw t (All-cons (IsFree is_lf) [] (pieces_of bytes) refl later)
    by_test later false t = rw t (onto-free b (pieces_of bytes) t later)

-- a text that stands alone is that item
pub record HasText (mode : Mode) (own : Item) : Type 0 where
  pub text : List ℕ
  pub printed : IsPrinted mode text own

-- and so for each of some items
abbrev pub HaveTexts : Mode → List ItemAt → Type 0
HaveTexts mode [] = Unit {0}
HaveTexts mode (x ∷ items) = HasText mode x.item × HaveTexts (next_mode mode x.item) items

no_comment : (text : List ℕ) → counts text ≡ true → begins_with (codes "//") text ≡ false
no_comment [] is = refl
no_comment (b ∷ text) is = of (begins_with (codes "//") (b ∷ text)) refl
  where
    of : (t : Bool) → begins_with (codes "//") (b ∷ text) ≡ t → begins_with (codes "//") (b ∷ text) ≡ false
    of true t = absurd (true≢false (sym (rw t at is)))
    of false t = t

stands-alone : (piece : List ℕ) → IsFree is_lf piece → IsUtf8 piece → counts (text_of piece) ≡ true → StandsAlone (text_of piece)
stands-alone piece free utf8 is = record {
  one = free-text_of is_lf piece free;
  bare = trimmed-tight (tight-trimmed (without_cr piece));
  some = λ e. true≢false (sym is ∙ ap counts e);
  counts = no_comment (text_of piece) is;
  utf8 = utf8-text_of piece utf8;
}

have-from : (mode : Mode) (number at : ℕ) (pieces : List (List ℕ)) (items : List ItemAt) → All (IsFree is_lf) pieces → All IsUtf8 pieces →
    IsItems mode (lines_from number at pieces) items → HaveTexts mode items
have-from mode number at [] [] free utf8 is = tt
have-from mode number at [] (x ∷ items) free utf8 is = absurd is
have-from mode number at (piece ∷ pieces) items free utf8 is =
    by_test (λ m xs. have-from m (number + 1) (at + length piece + 1) pieces xs (All-tail (IsFree is_lf) piece pieces free) (All-tail IsUtf8 piece pieces utf8))
    (counts (text_of piece)) refl items is
  where
    by_test : ((m : Mode) (xs : List ItemAt) → IsItems m (lines_from (number + 1) (at + length piece + 1) pieces) xs → HaveTexts m xs) →
        (t : Bool) → counts (text_of piece) ≡ t → (xs : List ItemAt) → IsItems mode (lines_from number at (piece ∷ pieces)) xs → HaveTexts mode xs
    by_test later true t [] all = absurd (rw t at all)
    by_test later true t (x ∷ xs) all =
        let h = rw t at all in
        let alone = stands-alone piece (All-head (IsFree is_lf) piece pieces free) (All-head IsUtf8 piece pieces utf8) t in
        (record { text = text_of piece; printed = record { alone = alone; has = h.2 } }, later (next_mode mode x.item) xs h.3)
    by_test later false t xs all = later mode xs (rw t at all)

-- the items of a file have texts
pub have-texts : (bytes : List ℕ) (items : List ItemAt) → All IsUtf8 (pieces_in bytes) → IsItems InHeaders (lines_of bytes).lines items → HaveTexts InHeaders items
have-texts bytes items utf8 is = have-from InHeaders 1 (mark_length bytes) (pieces_in bytes) items (pieces-free (drop (mark_length bytes) bytes)) utf8 is

-- ---- the lines that are printed

-- blanks, a text, and the item that it is
pub record Line : Type 0 where
  pub indent : ℕ
  pub text : List ℕ
  pub item : Item

abbrev pub piece_of : Line → List ℕ
piece_of l = blanks l.indent ++ l.text

abbrev pub text_in : List Line → List ℕ
text_in lines = flat_map (λ (l : Line). ended (piece_of l)) lines

pub text-append : (xs ys : List Line) → text_in (xs ++ ys) ≡ text_in xs ++ text_in ys
text-append xs ys = flat_map-append (λ (l : Line). ended (piece_of l)) xs ys

-- each text is its item in its mode, from the first mode to the last one
pub data Fine : Mode → List Line → Mode → Type 0 where
  no_line : {mode : Mode} → Fine mode [] mode
  one_line : {mode end : Mode} {l : Line} {ls : List Line} → IsPrinted mode l.text l.item → Fine (next_mode mode l.item) ls end → Fine mode (l ∷ ls) end

pub fine-append : {a b c : Mode} {xs ys : List Line} → Fine a xs b → Fine b ys c → Fine a (xs ++ ys) c
fine-append no_line more = more
fine-append (one_line is later) more = one_line is (fine-append later more)

piece-first : (line rest : List ℕ) → IsFree is_lf line → pieces_of (line ++ 10 ∷ rest) ≡ line ∷ pieces_of rest
piece-first [] rest free = refl
piece-first (b ∷ line) rest free =
    let parts = or_parts (is_lf b) (list_any is_lf line) free in
    let first = parts.0 in
    rw first (ap (onto b) (piece-first line rest parts.1))

pub pieces-in : {mode end : Mode} {ls : List Line} → Fine mode ls end → pieces_of (text_in ls) ≡ map piece_of ls
pieces-in no_line = refl
pieces-in (one_line {l = l} {ls = ls} is later) =
    ap pieces_of (append_assoc (piece_of l) (10 ∷ []) (text_in ls)) ∙ piece-first (piece_of l) (text_in ls) (free-blanks is_lf l.indent l.text refl is.alone.one)
    ∙ ap (λ m. piece_of l ∷ m) (pieces-in later)

pub utf8-lines : {mode end : Mode} {ls : List Line} → Fine mode ls end → All IsUtf8 (map piece_of ls)
utf8-lines no_line = All-nil IsUtf8
utf8-lines (one_line {l = l} {ls = ls} is later) = All-cons IsUtf8 (piece_of l) (map piece_of ls) (utf8-blanks l.indent l.text is.alone.utf8) (utf8-lines later)

-- the items with the numbers that their printed lines have
abbrev pub numbered : ℕ → List Line → List ItemAt
numbered number [] = []
numbered number (l ∷ ls) = record { line = number; indent = l.indent; item = l.item } ∷ numbered (number + 1) ls

again-step : (mode : Mode) (number at : ℕ) (l : Line) (pieces : List (List ℕ)) (xs : List ItemAt) → IsPrinted mode l.text l.item →
    IsItems (next_mode mode l.item) (lines_from (number + 1) (at + length (piece_of l) + 1) pieces) xs →
    IsItems mode (lines_from number at (piece_of l ∷ pieces)) (record { line = number; indent = l.indent; item = l.item } ∷ xs)
again-step mode number at l pieces xs is later =
    let solid = solid-trimmed l.text is.alone.bare is.alone.some in
    let same = text-indented l.indent l.text solid is.has.1.0 in
    let deep = indent-indented l.indent l.text solid is.has.1.0 in
    let some : counts (text_of (piece_of l)) ≡ true = ap counts same ∙ counts-solid l.text solid.begins is.alone.counts in
    rw some (refl, sym deep, subst (λ t. HasItem mode t l.item) (sym same) is.has, later)

pub again-items : {mode end : Mode} {ls : List Line} → Fine mode ls end → (number at : ℕ) → IsItems mode (lines_from number at (map piece_of ls)) (numbered number ls)
again-items no_line number at = tt
again-items (one_line {mode = mode} {l = l} {ls = ls} is later) number at =
    again-step mode number at l (map piece_of ls) (numbered (number + 1) ls) is (again-items later (number + 1) (at + length (piece_of l) + 1))

-- ---- no byte order mark

mark-start : starts_name 65279 ≡ false
unfolding unicode_ident
mark-start = refl

no_mark_name : (bytes : List ℕ) → is_name_of (chars (239 ∷ 187 ∷ 191 ∷ bytes)) ≡ false
unfolding chars
no_mark_name [] = rw mark-start refl
no_mark_name (b ∷ bytes) = rw mark-start refl

-- the bytes of the mark
abbrev pub mark : List ℕ
mark = 239 ∷ 187 ∷ 191 ∷ []

-- such a byte is none of them
low-other : (b n : ℕ) → b < 128 → 128 < n → nat_eq b n ≡ false
low-other b n low high = by_test (nat_eq b n) refl
  where
    by_test : (t : Bool) → nat_eq b n ≡ t → nat_eq b n ≡ false
    by_test true t = let e = eqb-true b n t in absurd (omega arith)
    by_test false t = t

no_mark_key : (key : List ℕ) (c : ℕ) (rest : List ℕ) → c < 128 → is_name_text key ≡ true → begins_with mark (key ++ c ∷ rest) ≡ false
no_mark_key [] c rest low named = and_left (nat_eq c 239) _ (low-other c 239 low (omega arith))
no_mark_key (a ∷ []) c rest low named = and_right (nat_eq a 239) _ (and_left (nat_eq c 187) _ (low-other c 187 low (omega arith)))
no_mark_key (a ∷ b ∷ []) c rest low named =
    and_right (nat_eq a 239) _ (and_right (nat_eq b 187) _ (and_left (nat_eq c 191) _ (low-other c 191 low (omega arith))))
no_mark_key (a ∷ b ∷ d ∷ key) c rest low named = by_test (begins_with mark (a ∷ b ∷ d ∷ (key ++ c ∷ rest))) refl
  where
    at : is_name_of (chars (a ∷ b ∷ d ∷ key)) ≡ true
    at = (and_parts (is_utf8 (a ∷ b ∷ d ∷ key)) (is_name_of (chars (a ∷ b ∷ d ∷ key))) named).1

    by_test : (t : Bool) → begins_with mark (a ∷ b ∷ d ∷ (key ++ c ∷ rest)) ≡ t → begins_with mark (a ∷ b ∷ d ∷ (key ++ c ∷ rest)) ≡ false
    by_test true t =
        let first = and_parts (nat_eq a 239) (nat_eq b 187 && (nat_eq d 191 && true)) t in
        let second = and_parts (nat_eq b 187) (nat_eq d 191 && true) first.1 in
        let third = and_parts (nat_eq d 191) true second.1 in
        let one = eqb-true a 239 first.0 in
        let two = eqb-true b 187 second.0 in
        let three = eqb-true d 191 third.0 in
        let spelled : is_name_of (chars (239 ∷ 187 ∷ 191 ∷ key)) ≡ true = rw (one, two, three) at at in
        absurd (both_ways _ (no_mark_name key) spelled)
    by_test false t = t

blank_low : (b : ℕ) → is_blank b ≡ true → b < 128
blank_low b is = by_test (nat_eq b 32) refl
  where
    by_test : (t : Bool) → nat_eq b 32 ≡ t → b < 128
    by_test true t = let e = eqb-true b 32 t in omega arith
    by_test false t = let h : nat_eq b 9 ≡ true = rw t at is in let e = eqb-true b 9 h in omega arith

no_mark_header : (key space rest : List ℕ) → is_name_text key ≡ true → list_all is_blank space ≡ true → begins_with mark (key ++ (space ++ 58 ∷ rest)) ≡ false
no_mark_header key [] rest named all = no_mark_key key 58 rest (omega arith) named
no_mark_header key (b ∷ space) rest named all = no_mark_key key b (space ++ 58 ∷ rest) (blank_low b (and_parts (is_blank b) (list_all is_blank space) all).0) named

no_mark_text : (text rest : List ℕ) (tokens : List Token) (own : Item) → IsForm InHeaders text tokens own → begins_with mark (text ++ rest) ≡ false
no_mark_text text rest tokens item.NodeEnds form = ap (λ t. begins_with mark (t ++ rest)) form.0
no_mark_text text rest tokens item.BodyBegins form = ap (λ t. begins_with mark (t ++ rest)) form.0
no_mark_text text rest tokens (item.FileTag tag) form = ap (λ t. begins_with mark (t ++ rest)) form.0.split
no_mark_text text rest tokens (item.Header header) form =
    ap (λ t. begins_with mark (t ++ rest)) form.0.split
    ∙ ap (begins_with mark) (append_assoc header.key (form.0.blanks ++ 58 ∷ form.0.rest) rest ∙ ap (λ l. header.key ++ l) (append_assoc form.0.blanks (58 ∷ form.0.rest) rest))
    ∙ no_mark_header header.key form.0.blanks (form.0.rest ++ rest) form.0.named form.0.between
no_mark_text text rest tokens (item.Line said) form = absurd form
no_mark_text text rest tokens (item.Offer said asked) form = absurd form
no_mark_text text rest tokens (item.Command own tags) form = absurd form
no_mark_text text rest tokens (item.Game said) form = absurd form

no_mark_line : (n : ℕ) (text rest : List ℕ) (own : Item) → HasItem InHeaders text own → begins_with mark (ended (blanks n ++ text) ++ rest) ≡ false
no_mark_line zero text rest own has = ap (begins_with mark) (append_assoc text (10 ∷ []) rest) ∙ no_mark_text text (10 ∷ rest) has.0 own has.1.1
no_mark_line (suc n) text rest own has = refl

no_mark_from : {mode end : Mode} {ls : List Line} → Fine mode ls end → mode ≡ InHeaders → begins_with mark (text_in ls) ≡ false
no_mark_from no_line is = refl
no_mark_from (one_line {l = l} {ls = ls} printed later) is = no_mark_line l.indent l.text (text_in ls) l.item (subst (λ m. HasItem m l.text l.item) is printed.has)

pub no_mark_in : {end : Mode} {ls : List Line} → Fine InHeaders ls end → begins_with mark (text_in ls) ≡ false
no_mark_in fine = no_mark_from fine refl

pub pieces_in-plain : (bytes : List ℕ) → begins_with mark bytes ≡ false → pieces_in bytes ≡ pieces_of bytes
pieces_in-plain bytes plain = rw plain refl

pub lines_of-plain : (bytes : List ℕ) → begins_with mark bytes ≡ false → (lines_of bytes).lines ≡ lines_from 1 0 (pieces_of bytes)
lines_of-plain bytes plain = rw plain refl

-- The text of a line that is printed: what is read of it is the text that string tables have, with the same expressions.
use Rattle.std.proofs.Common.{◌≡◌, ℕ, ◌+◌, ◌<◌, List, [], ◌∷◌, ◌++◌, Bool, true, false, not, ◌||◌, nat_eq, nat_lt, nat_le, codes, if◌then◌else◌, refl, sym, ap, subst, ◌∙◌, arith, append_assoc, append-nil}
use Rattle.std.specs.List.{list_any, list_all}
use Rattle.std.specs.Str.{chars}
use Rattle.std.specs.Fmt.{decimal}
use Rattle.std.proofs.lemmas.Bool.{eqb-false, ne_eqb, ltb-true, leb-true, lt-ltb, true≢false, not-true, or_parts, or_right, or_from, and_parts, and_from, and_left, and_right, both_ways}
use Rattle.std.proofs.lemmas.List.Folds.{list_any-append}
use Rattle.std.proofs.lemmas.Str.{scalars-chars}
use Rattle.yarn_expr.specs.declared.token.Token.{Token}
use Rattle.yarn_expr.specs.declared.tree.Expr.{Expr}
use Rattle.yarn_expr.specs.Print.{canonical}
use Rattle.yarn_expr.specs.Tokens.{is_digit}
use Rattle.yarn_expr.proofs.Shown.{are_ascii}
use Rattle.yarn_commands.specs.Command.{IsExpression}
use Rattle.yarn_commands.proofs.Printed.{again}
use Rattle.yarn_lines.specs.Lines.{is_blank, past_leading, without_trailing, begins_with}
use Rattle.yarn_items.specs.Brace.{ToBrace, closes}
use Rattle.yarn_items.specs.Brace as brace
use Rattle.yarn_items.specs.Text.{Piece, Char, Pair, Hole, Pieces, no_piece, pair, hole, char, AreHoles, no_more, past_char, past_pair, at_hole, is_escaped, is_kept, begins_other, begins_pair, hole_text, kept_from, trimmed}
use Rattle.yarn_print.specs.Print.{is_marked, spelled, hole_printed, begins_kept_pair, text_printed, last_of}
use Rattle.yarn_print.proofs.Quiet.{OnlyBreaks, is_break, Fits, fits-append}
use Rattle.yarn_print.proofs.Tight.{begins_solid, ends_solid, Solid}
use Rattle.yarn_print.proofs.Decimals.{decimal-digits}
use Rattle.yarn_print.proofs.Facts.{Well, well-piece}
use Rattle.yarn_print.proofs.Cuts.{among, fits-cut, fits-behind, fits-onto, fits-off, fits-in, fits-out, BeginsLow, low_front, fits-words}

pub not_eq : (a b : ℕ) → nat_eq a b ≡ false → nat_eq b a ≡ false
not_eq a b unmet = ne_eqb b a (λ e. eqb-false a b unmet (sym e))

abbrev pub begins_escaped : List ℕ → Bool
begins_escaped [] = false
begins_escaped (b ∷ bytes) = is_escaped b

escaped-parts : (c : ℕ) → is_escaped c ≡ (is_kept c || is_marked c)
escaped-parts c = list_any-append (λ e. nat_eq e c) (codes "\\{}[]") (codes "#/<>")

kept-solid : (c : ℕ) → is_kept c ≡ true → is_blank c ≡ false
kept-solid c is = not-true _ (among (λ b. not (is_blank b)) (codes "\\{}[]") c is refl)

marked-unkept : (c : ℕ) → is_marked c ≡ true → is_kept c ≡ false
marked-unkept c is = not-true _ (among (λ b. not (is_kept b)) (codes "#/<>") c is refl)

marked-escaped : (c : ℕ) → is_marked c ≡ true → is_escaped c ≡ true
marked-escaped c is = escaped-parts c ∙ or_right (is_kept c) (is_marked c) is

kept-escaped : (c : ℕ) → is_kept c ≡ true → is_escaped c ≡ true
kept-escaped c is = among is_escaped (codes "\\{}[]") c is refl

escaped_ascii : (c : ℕ) → is_escaped c ≡ true → c < 128
escaped_ascii c is = ltb-true c 128 (among (λ b. nat_lt b 128) (codes "\\{}[]#/<>") c is refl)

marked_ascii : (c : ℕ) → is_marked c ≡ true → c < 128
marked_ascii c is = ltb-true c 128 (among (λ b. nat_lt b 128) (codes "#/<>") c is refl)

-- ---- expressions

-- what is printed of the expression is it again
pub record Fine (test : ℕ → Bool) (e : Expr) : Type 0 where
  pub tokens : List Token
  pub again : IsExpression (chars (canonical e)) tokens e
  pub well : Well test (canonical e)

pub fine-piece : (test : ℕ → Bool) → OnlyBreaks test → (piece : List ℕ) (tokens : List Token) (e : Expr) → Fits test piece → IsExpression (chars piece) tokens e → Fine test e
fine-piece test only piece tokens e fits x =
    let a = again e (chars piece) tokens (scalars-chars piece fits.utf8) x in
    record { tokens = a.tokens; again = a.expression; well = well-piece test only piece tokens e fits x }

pub fits-hole : (test : ℕ → Bool) (e : Expr) → OnlyBreaks test → Fine test e → Fits test (hole_printed e)
fits-hole test e only f =
    fits-append test (123 ∷ []) (canonical e ++ 125 ∷ []) (fits-words test (123 ∷ []) only refl refl)
    (fits-append test (canonical e) (125 ∷ []) f.well.quiet.fits (fits-words test (125 ∷ []) only refl refl))

-- the substitution is read up to its brace
pub hole-brace : (test : ℕ → Bool) (e : Expr) (rest : List ℕ) → Fine test e → ToBrace false ((canonical e ++ 125 ∷ []) ++ rest) (canonical e) rest
hole-brace test e rest f =
    rw (append_assoc (canonical e) (125 ∷ []) rest)
    (subst (λ l. ToBrace false (canonical e ++ 125 ∷ rest) l rest) (append-nil (canonical e)) (f.well.quiet.braces.in_braces (125 ∷ rest) [] rest closes))

pub brace-split : {q : Bool} {bytes inside more : List ℕ} → ToBrace q bytes inside more → bytes ≡ inside ++ 125 ∷ more
brace-split brace.closes = refl
brace-split (brace.quote later) = ap (λ l. 34 ∷ l) (brace-split later)
brace-split (brace.skipped {c} later) = ap (λ l. 92 ∷ c ∷ l) (brace-split later)
brace-split (brace.plain {quoted} {c} is later) = ap (λ l. c ∷ l) (brace-split later)

-- ---- `{k}`

digits-ascii : (bytes : List ℕ) → list_all is_digit bytes ≡ true → are_ascii bytes ≡ true
digits-ascii [] all = refl
digits-ascii (b ∷ bytes) all =
    let parts = and_parts (is_digit b) (list_all is_digit bytes) all in
    let high = leb-true b 57 (and_parts (nat_le 48 b) (nat_le b 57) parts.0).1 in
    and_from (nat_lt b 128) (are_ascii bytes) (lt-ltb b 128 (omega arith)) (digits-ascii bytes parts.1)

digits-whole : (bytes : List ℕ) → list_all is_digit bytes ≡ true → list_any is_break bytes ≡ false
digits-whole [] all = refl
digits-whole (b ∷ bytes) all =
    let parts = and_parts (is_digit b) (list_all is_digit bytes) all in
    let low = leb-true 48 b (and_parts (nat_le 48 b) (nat_le b 57) parts.0).0 in
    or_from (is_break b) (list_any is_break bytes) (or_from (nat_eq b 10) (nat_eq b 13) (ne_eqb b 10 (λ e. omega arith)) (ne_eqb b 13 (λ e. omega arith))) (digits-whole bytes parts.1)

pub fits-place : (test : ℕ → Bool) (k : ℕ) → OnlyBreaks test → Fits test (hole_text k)
fits-place test k only =
    let digits = decimal-digits k in
    fits-append test (123 ∷ []) (decimal k ++ 125 ∷ []) (fits-words test (123 ∷ []) only refl refl)
    (fits-append test (decimal k) (125 ∷ []) (fits-words test (decimal k) only (digits-ascii (decimal k) digits) (digits-whole (decimal k) digits)) (fits-words test (125 ∷ []) only refl refl))

skipped-hole : (digits table : List ℕ) (es : List Expr) → list_all is_digit digits ≡ true → text_printed true ((digits ++ 125 ∷ []) ++ table) es ≡ text_printed false table es
skipped-hole [] table es all = refl
skipped-hole (b ∷ digits) table es all =
    let parts = and_parts (is_digit b) (list_all is_digit digits) all in
    let high = leb-true b 57 (and_parts (nat_le 48 b) (nat_le b 57) parts.0).1 in
    let open_still : nat_eq b 125 ≡ false = ne_eqb b 125 (λ e. omega arith) in
    ap (λ (t : Bool). text_printed (if t then false else true) ((digits ++ 125 ∷ []) ++ table) es) open_still ∙ skipped-hole digits table es parts.1

-- ---- what is printed, at each kind of piece

pub printed-pair : (c : ℕ) (table : List ℕ) (es : List Expr) → is_kept c ≡ true → text_printed false (92 ∷ c ∷ table) es ≡ 92 ∷ c ∷ text_printed false table es
printed-pair c table [] is = rw is refl
printed-pair c table (e ∷ es) is = rw is refl

no_kept_pair : (c : ℕ) (table : List ℕ) → (nat_eq c 92 ≡ true → begins_escaped table ≡ false) → begins_kept_pair (c ∷ table) ≡ false
no_kept_pair c [] free = refl
no_kept_pair c (d ∷ table) free = by_test (nat_eq c 92) refl
  where
    by_test : (t : Bool) → nat_eq c 92 ≡ t → begins_kept_pair (c ∷ d ∷ table) ≡ false
    by_test true t =
        let unkept = (or_parts (is_kept d) (is_marked d) (sym (escaped-parts d) ∙ free t)).0 in
        rw t unkept
    by_test false t = rw t refl

pub printed-byte : (c : ℕ) (table : List ℕ) (es : List Expr) → nat_eq c 123 ≡ false → (nat_eq c 92 ≡ true → begins_escaped table ≡ false) → text_printed false (c ∷ table) es ≡ spelled c ++ text_printed false table es
printed-byte c [] es plain free = sym (append-nil (spelled c))
printed-byte c (d ∷ table) [] plain free = let unkept = no_kept_pair c (d ∷ table) free in rw unkept refl
printed-byte c (d ∷ table) (e ∷ es) plain free = let unkept = no_kept_pair c (d ∷ table) free in rw (unkept, plain) refl

pub printed-hole : (k : ℕ) (table : List ℕ) (e : Expr) (es : List Expr) → text_printed false (hole_text k ++ table) (e ∷ es) ≡ hole_printed e ++ text_printed false table es
printed-hole k table e es = at ((decimal k ++ 125 ∷ []) ++ table) refl
  where
    some : (xs : List ℕ) → (xs ++ 125 ∷ []) ++ table ≡ [] → ⊥
    some [] is = absurd cc
    some (x ∷ xs) is = absurd cc

    at : (l : List ℕ) → (decimal k ++ 125 ∷ []) ++ table ≡ l → text_printed false (123 ∷ l) (e ∷ es) ≡ hole_printed e ++ text_printed false table es
    at [] is = absurd (some (decimal k) is)
    at (c ∷ l) is = ap (λ x. hole_printed e ++ text_printed true x es) (sym is) ∙ ap (λ x. hole_printed e ++ x) (skipped-hole (decimal k) table es (decimal-digits k))

-- ---- texts that string tables may have

-- pairs that stay, `{k}` with their expressions, and bytes of which no `\` stands before what would make a pair with it
pub data IsTable (test : ℕ → Bool) : ℕ → List ℕ → List Expr → Type 0 where
  no_byte : {k : ℕ} → IsTable test k [] []
  kept_pair : {k c : ℕ} {table : List ℕ} {es : List Expr} → is_kept c ≡ true → IsTable test k table es → IsTable test k (92 ∷ c ∷ table) es
  put : {k : ℕ} {table : List ℕ} {e : Expr} {es : List Expr} → Fine test e → IsTable test (k + 1) table es → IsTable test k (hole_text k ++ table) (e ∷ es)
  byte : {k c : ℕ} {table : List ℕ} {es : List Expr} → nat_eq c 123 ≡ false → (nat_eq c 92 ≡ true → begins_escaped table ≡ false) →
      IsTable test k table es → IsTable test k (c ∷ table) es

free_behind : (c : ℕ) (bytes : List ℕ) → begins_pair (c ∷ bytes) ≡ false → nat_eq c 92 ≡ true → begins_escaped bytes ≡ false
free_behind c [] unmet is = refl
free_behind c (d ∷ bytes) unmet is = rw is at unmet

free_pieces : {text rest : List ℕ} {pieces : List Piece} → (k : ℕ) → Pieces text pieces rest → begins_escaped text ≡ false → begins_escaped (kept_from k pieces) ≡ false
free_pieces k no_piece unmet = refl
free_pieces k (pair is later) unmet = absurd (true≢false unmet)
free_pieces k (hole to later) unmet = absurd (true≢false unmet)
free_pieces k (char no_pair no_other later) unmet = unmet

no_brace : (c : ℕ) (bytes : List ℕ) → begins_other (c ∷ bytes) ≡ false → nat_eq c 123 ≡ false
no_brace c bytes unmet = by_test (nat_eq c 123) refl
  where
    by_test : (t : Bool) → nat_eq c 123 ≡ t → nat_eq c 123 ≡ false
    by_test true t = absurd (true≢false (rw t at unmet))
    by_test false t = t

-- what the pieces at the front of a line are in string tables
pub record FromPieces (test : ℕ → Bool) (front : List ℕ) (k : ℕ) (pieces : List Piece) (es : List Expr) (rest : List ℕ) : Type 0 where
  pub table : IsTable test k (kept_from k pieces) es
  pub fits : Fits test (front ++ kept_from k pieces)
  pub behind : Fits test rest

pub from_pieces : {line rest : List ℕ} {pieces : List Piece} {tokens : List Token} {es : List Expr} → (test : ℕ → Bool) → OnlyBreaks test → (front : List ℕ) (k : ℕ) →
    Pieces line pieces rest → AreHoles pieces tokens es → BeginsLow rest → Fits test (front ++ line) → FromPieces test front k pieces es rest
from_pieces test only front k (no_piece {rest}) no_more low whole =
    let parts = low_front test front rest low whole in
    record { table = no_byte; fits = rw (append-nil front) parts.0; behind = parts.1 }
from_pieces test only front k (pair {c} {bytes} {rest} {pieces} is later) (past_pair {es = es} held) low whole = by_test (λ f. from_pieces test only f k later held low) (is_kept c) refl
  where
    under : c < 128
    under = escaped_ascii c is

    by_test : ((f : List ℕ) → Fits test (f ++ bytes) → FromPieces test f k pieces es rest) → (t : Bool) → is_kept c ≡ t → FromPieces test front k (Pair c ∷ pieces) es rest
    by_test more true t =
        let behind : Fits test (((front ++ 92 ∷ []) ++ c ∷ []) ++ bytes) = fits-onto test (front ++ 92 ∷ []) c bytes (fits-onto test front 92 (c ∷ bytes) whole) in
        let on = more ((front ++ 92 ∷ []) ++ c ∷ []) behind in
        record {
          table = rw t (kept_pair t on.table);
          fits = rw t (fits-off test front 92 (c ∷ kept_from k pieces) (fits-off test (front ++ 92 ∷ []) c (kept_from k pieces) on.fits));
          behind = on.behind;
        }
    by_test more false t =
        let on = more (front ++ c ∷ []) (fits-onto test front c bytes (fits-out test front 92 (c ∷ bytes) (omega arith) whole)) in
        let marked : is_marked c ≡ true = rw (escaped-parts c, t) at is in
        let plain : nat_eq c 123 ≡ false = not-true _ (among (λ b. not (nat_eq b 123)) (codes "#/<>") c marked refl) in
        let solid : nat_eq c 92 ≡ false = not-true _ (among (λ b. not (nat_eq b 92)) (codes "#/<>") c marked refl) in
        record {
          table = rw t (byte plain (λ one. absurd (both_ways (nat_eq c 92) solid one)) on.table);
          fits = rw t (fits-off test front c (kept_from k pieces) on.fits);
          behind = on.behind;
        }
from_pieces test only front k (hole {bytes} {inside} {more} {rest} {pieces} to later) (at_hole {own = own} {e = e} {es = es} x held) low whole =
    let cut = fits-cut test front 123 bytes (omega arith) whole in
    let inner : Fits test (inside ++ 125 ∷ more) = subst (Fits test) (brace-split to) (fits-behind test 123 bytes (omega arith) cut.1) in
    let parts = fits-cut test inside 125 more (omega arith) inner in
    let on = from_pieces test only [] (k + 1) later held low (fits-behind test 125 more (omega arith) parts.1) in
    record {
      table = put (fine-piece test only inside own e parts.0 x) on.table;
      fits = fits-append test front (hole_text k ++ kept_from (k + 1) pieces) cut.0 (fits-append test (hole_text k) (kept_from (k + 1) pieces) (fits-place test k only) on.fits);
      behind = on.behind;
    }
from_pieces test only front k (char {c} {bytes} {rest} {pieces} no_pair no_other later) (past_char held) low whole =
    let on = from_pieces test only (front ++ c ∷ []) k later held low (fits-onto test front c bytes whole) in
    record {
      table = byte (no_brace c bytes no_other) (λ is. free_pieces k later (free_behind c bytes no_pair is)) on.table;
      fits = fits-off test front c (kept_from k pieces) on.fits;
      behind = on.behind;
    }

-- ---- without the blanks around it

hole-split : (k : ℕ) (table : List ℕ) → hole_text k ++ table ≡ (123 ∷ decimal k) ++ 125 ∷ table
hole-split k table = ap (λ l. 123 ∷ l) (append_assoc (decimal k) (125 ∷ []) table)

some_solid : (xs : List ℕ) (c : ℕ) (ys : List ℕ) → is_blank c ≡ false → list_all is_blank (xs ++ c ∷ ys) ≡ false
some_solid [] c ys solid = and_left (is_blank c) (list_all is_blank ys) solid
some_solid (x ∷ xs) c ys solid = and_right (is_blank x) (list_all is_blank (xs ++ c ∷ ys)) (some_solid xs c ys solid)

pub without_trailing-through : (xs : List ℕ) (c : ℕ) (ys : List ℕ) → is_blank c ≡ false → without_trailing (xs ++ c ∷ ys) ≡ xs ++ c ∷ without_trailing ys
without_trailing-through [] c ys solid = rw solid refl
without_trailing-through (x ∷ xs) c ys solid =
    let some = some_solid (x ∷ xs) c ys solid in
    rw some (ap (λ l. x ∷ l) (without_trailing-through xs c ys solid))

without_trailing-hole : (k : ℕ) (table : List ℕ) → without_trailing (hole_text k ++ table) ≡ hole_text k ++ without_trailing table
without_trailing-hole k table =
    ap without_trailing (hole-split k table) ∙ without_trailing-through (123 ∷ decimal k) 125 table refl ∙ sym (hole-split k (without_trailing table))

table-past_leading : {test : ℕ → Bool} {k : ℕ} {table : List ℕ} {es : List Expr} → IsTable test k table es → IsTable test k (past_leading table) es
table-past_leading no_byte = no_byte
table-past_leading (kept_pair is later) = kept_pair is later
table-past_leading (put f later) = put f later
table-past_leading {test} {k} (byte {c = c} {table = table} {es = es} plain free later) = by_test (table-past_leading later) (is_blank c) refl
  where
    by_test : IsTable test k (past_leading table) es → (t : Bool) → is_blank c ≡ t → IsTable test k (past_leading (c ∷ table)) es
    by_test behind true t = rw t behind
    by_test behind false t = rw t (byte plain free later)

free_trailing : (bytes : List ℕ) → begins_escaped bytes ≡ false → begins_escaped (without_trailing bytes) ≡ false
free_trailing [] unmet = refl
free_trailing (b ∷ bytes) unmet = by_test (list_all is_blank (b ∷ bytes)) refl
  where
    by_test : (t : Bool) → list_all is_blank (b ∷ bytes) ≡ t → begins_escaped (without_trailing (b ∷ bytes)) ≡ false
    by_test true t = rw t refl
    by_test false t = rw t unmet

-- nothing but blanks has no expressions
blank-bare : {test : ℕ → Bool} {k : ℕ} {table : List ℕ} {es : List Expr} → IsTable test k table es → list_all is_blank table ≡ true → es ≡ []
blank-bare no_byte all = refl
blank-bare (kept_pair is later) all = absurd (true≢false (sym all))
blank-bare (put f later) all = absurd (true≢false (sym all))
blank-bare (byte {c = c} {table = table} plain free later) all = blank-bare later (and_parts (is_blank c) (list_all is_blank table) all).1

table-without_trailing : {test : ℕ → Bool} {k : ℕ} {table : List ℕ} {es : List Expr} → IsTable test k table es → IsTable test k (without_trailing table) es
table-without_trailing no_byte = no_byte
table-without_trailing (kept_pair {c = c} is later) =
    let solid = kept-solid c is in
    rw solid (kept_pair is (table-without_trailing later))
table-without_trailing {test} (put {k = k} {table = table} {e = e} {es = es} f later) =
    subst (λ l. IsTable test k l (e ∷ es)) (sym (without_trailing-hole k table)) (put f (table-without_trailing later))
table-without_trailing {test} {k} (byte {c = c} {table = table} {es = es} plain free later) = by_test (table-without_trailing later) (list_all is_blank (c ∷ table)) refl
  where
    by_test : IsTable test k (without_trailing table) es → (t : Bool) → list_all is_blank (c ∷ table) ≡ t → IsTable test k (without_trailing (c ∷ table)) es
    by_test behind true t =
        let none : es ≡ [] = blank-bare later (and_parts (is_blank c) (list_all is_blank table) t).1 in
        rw t (subst (λ l. IsTable test k [] l) (sym none) no_byte)
    by_test behind false t = rw t (byte plain (λ is. free_trailing table (free is)) behind)

pub table-trimmed : {test : ℕ → Bool} {k : ℕ} {table : List ℕ} {es : List Expr} → IsTable test k table es → IsTable test k (trimmed table) es
table-trimmed is = table-past_leading (table-without_trailing is)

-- ---- what is read of what is printed

pub record ReadBack (k : ℕ) (text : List ℕ) (es : List Expr) (rest : List ℕ) : Type 0 where
  pub pieces : List Piece
  pub tokens : List Token
  pub read : Pieces (text_printed false text es ++ rest) pieces rest
  pub own : kept_from k pieces ≡ text
  pub held : AreHoles pieces tokens es

free_printed : {test : ℕ → Bool} {k : ℕ} {text : List ℕ} {es : List Expr} → (rest : List ℕ) → IsTable test k text es → begins_escaped rest ≡ false → begins_escaped text ≡ false →
    begins_escaped (text_printed false text es ++ rest) ≡ false
free_printed rest no_byte behind unmet = behind
free_printed rest (kept_pair is later) behind unmet = absurd (true≢false unmet)
free_printed rest (put f later) behind unmet = absurd (true≢false unmet)
free_printed rest (byte {c = c} {table = table} {es = es} plain free later) behind unmet = by_test (is_marked c) refl
  where
    by_test : (t : Bool) → is_marked c ≡ t → begins_escaped (text_printed false (c ∷ table) es ++ rest) ≡ false
    by_test true t = absurd (both_ways (is_escaped c) unmet (marked-escaped c t))
    by_test false t = rw (printed-byte c table es plain free, t) unmet

no_pair_at : (c : ℕ) (bytes : List ℕ) → (nat_eq c 92 ≡ true → begins_escaped bytes ≡ false) → begins_pair (c ∷ bytes) ≡ false
no_pair_at c [] free = refl
no_pair_at c (d ∷ bytes) free = by_test (nat_eq c 92) refl
  where
    by_test : (t : Bool) → nat_eq c 92 ≡ t → begins_pair (c ∷ d ∷ bytes) ≡ false
    by_test true t = rw t (free t)
    by_test false t = rw t refl

no_other_at : (c : ℕ) (bytes : List ℕ) → nat_eq c 123 ≡ false → is_marked c ≡ false → begins_other (c ∷ bytes) ≡ false
no_other_at c bytes plain unmarked =
    let hash = or_parts (nat_eq 35 c) _ unmarked in
    let slash = or_parts (nat_eq 47 c) _ hash.1 in
    let less = or_parts (nat_eq 60 c) _ slash.1 in
    rw (plain, not_eq 35 c hash.0, not_eq 47 c slash.0, not_eq 60 c less.0) refl

pub read_back : {test : ℕ → Bool} {k : ℕ} {text : List ℕ} {es : List Expr} → (rest : List ℕ) → IsTable test k text es → begins_escaped rest ≡ false → ReadBack k text es rest
read_back rest no_byte unmet = record { pieces = []; tokens = []; read = no_piece; own = refl; held = no_more }
read_back rest (kept_pair {k = k} {c = c} {table = table} {es = es} is later) unmet = of (read_back rest later unmet)
  where
    of : ReadBack k table es rest → ReadBack k (92 ∷ c ∷ table) es rest
    of r = record {
      pieces = Pair c ∷ r.pieces;
      tokens = r.tokens;
      read = rw (printed-pair c table es is) (pair (kept-escaped c is) r.read);
      own = rw is (ap (λ l. 92 ∷ c ∷ l) r.own);
      held = past_pair r.held;
    }
read_back {test} rest (put {k = k} {table = table} {e = e} {es = es} f later) unmet = of (read_back rest later unmet)
  where
    of : ReadBack (k + 1) table es rest → ReadBack k (hole_text k ++ table) (e ∷ es) rest
    of r = record {
      pieces = Hole (canonical e) ∷ r.pieces;
      tokens = f.tokens ++ r.tokens;
      read =
          subst (λ l. Pieces (l ++ rest) (Hole (canonical e) ∷ r.pieces) rest) (sym (printed-hole k table e es))
          (subst (λ l. Pieces l (Hole (canonical e) ∷ r.pieces) rest) (sym (append_assoc (hole_printed e) (text_printed false table es) rest))
          (hole (hole-brace test e (text_printed false table es ++ rest) f) r.read));
      own = ap (λ l. hole_text k ++ l) r.own;
      held = at_hole f.again r.held;
    }
read_back rest (byte {k = k} {c = c} {table = table} {es = es} plain free later) unmet = by_test (read_back rest later unmet) (is_marked c) refl
  where
    by_test : ReadBack k table es rest → (t : Bool) → is_marked c ≡ t → ReadBack k (c ∷ table) es rest
    by_test r true t =
        let unkept = marked-unkept c t in
        record {
          pieces = Pair c ∷ r.pieces;
          tokens = r.tokens;
          read = rw (printed-byte c table es plain free, t) (pair (marked-escaped c t) r.read);
          own = rw unkept (ap (λ l. c ∷ l) r.own);
          held = past_pair r.held;
        }
    by_test r false t =
        let no_pair = no_pair_at c (text_printed false table es ++ rest) (λ is. free_printed rest later unmet (free is)) in
        record {
          pieces = Char c ∷ r.pieces;
          tokens = r.tokens;
          read = rw (printed-byte c table es plain free, t) (char no_pair (no_other_at c (text_printed false table es ++ rest) plain t) r.read);
          own = ap (λ l. c ∷ l) r.own;
          held = past_char r.held;
        }

-- ---- the bytes of what is printed

printed_on : {test : ℕ → Bool} {k : ℕ} {text : List ℕ} {es : List Expr} → OnlyBreaks test → (front : List ℕ) → IsTable test k text es → Fits test (front ++ text) → Fits test (front ++ text_printed false text es)
printed_on only front no_byte whole = whole
printed_on {test} only front (kept_pair {c = c} {table = table} {es = es} is later) whole =
    let behind : Fits test (((front ++ 92 ∷ []) ++ c ∷ []) ++ table) = fits-onto test (front ++ 92 ∷ []) c table (fits-onto test front 92 (c ∷ table) whole) in
    let on = printed_on only ((front ++ 92 ∷ []) ++ c ∷ []) later behind in
    subst (λ l. Fits test (front ++ l)) (sym (printed-pair c table es is)) (fits-off test front 92 (c ∷ text_printed false table es) (fits-off test (front ++ 92 ∷ []) c (text_printed false table es) on))
printed_on {test} only front (put {k = k} {table = table} {e = e} {es = es} f later) whole =
    let cut = fits-cut test front 123 ((decimal k ++ 125 ∷ []) ++ table) (omega arith) whole in
    let inner : Fits test ((123 ∷ decimal k) ++ 125 ∷ table) = subst (Fits test) (hole-split k table) cut.1 in
    let behind = fits-behind test 125 table (omega arith) (fits-cut test (123 ∷ decimal k) 125 table (omega arith) inner).1 in
    let on = printed_on only [] later behind in
    subst (λ l. Fits test (front ++ l)) (sym (printed-hole k table e es))
    (fits-append test front (hole_printed e ++ text_printed false table es) cut.0 (fits-append test (hole_printed e) (text_printed false table es) (fits-hole test e only f) on))
printed_on {test} only front (byte {c = c} {table = table} {es = es} plain free later) whole = by_test (λ f. printed_on only f later) (is_marked c) refl
  where
    by_test : ((f : List ℕ) → Fits test (f ++ table) → Fits test (f ++ text_printed false table es)) → (t : Bool) → is_marked c ≡ t → Fits test (front ++ text_printed false (c ∷ table) es)
    by_test more true t =
        let within : Fits test ((front ++ 92 ∷ []) ++ c ∷ table) = fits-onto test front 92 (c ∷ table) (fits-in test front c 92 table (marked_ascii c t) (omega arith) (only.fails 92 refl) whole) in
        let on = more ((front ++ 92 ∷ []) ++ c ∷ []) (fits-onto test (front ++ 92 ∷ []) c table within) in
        rw (printed-byte c table es plain free, t) (fits-off test front 92 (c ∷ text_printed false table es) (fits-off test (front ++ 92 ∷ []) c (text_printed false table es) on))
    by_test more false t = rw (printed-byte c table es plain free, t) (fits-off test front c (text_printed false table es) (more (front ++ c ∷ []) (fits-onto test front c table whole)))

pub fits-printed : {test : ℕ → Bool} {k : ℕ} {text : List ℕ} {es : List Expr} → OnlyBreaks test → IsTable test k text es → Fits test text → Fits test (text_printed false text es)
fits-printed only is whole = printed_on only [] is whole

-- the last byte stays
pub last-through : (p : ℕ) (xs : List ℕ) (c : ℕ) (ys : List ℕ) → last_of p (xs ++ c ∷ ys) ≡ last_of c ys
last-through p [] c ys = refl
last-through p (x ∷ xs) c ys = last-through x xs c ys

pub last-hole : (p : ℕ) (e : Expr) (rest : List ℕ) → last_of p (hole_printed e ++ rest) ≡ last_of 125 rest
last-hole p e rest = ap (λ l. last_of p (123 ∷ l)) (append_assoc (canonical e) (125 ∷ []) rest) ∙ last-through 123 (canonical e) 125 rest

pub last-place : (p k : ℕ) (rest : List ℕ) → last_of p (hole_text k ++ rest) ≡ last_of 125 rest
last-place p k rest = ap (last_of p) (hole-split k rest) ∙ last-through p (123 ∷ decimal k) 125 rest

last-printed : {test : ℕ → Bool} {k : ℕ} {text : List ℕ} {es : List Expr} → (p : ℕ) → IsTable test k text es → last_of p (text_printed false text es) ≡ last_of p text
last-printed p no_byte = refl
last-printed p (kept_pair {c = c} {table = table} {es = es} is later) = ap (last_of p) (printed-pair c table es is) ∙ last-printed c later
last-printed p (put {k = k} {table = table} {e = e} {es = es} f later) =
    ap (last_of p) (printed-hole k table e es) ∙ last-hole p e (text_printed false table es) ∙ last-printed 125 later ∙ sym (last-place p k table)
last-printed p (byte {c = c} {table = table} {es = es} plain free later) = ap (last_of p) (printed-byte c table es plain free) ∙ by_test (last-printed c later) (is_marked c) refl
  where
    by_test : last_of c (text_printed false table es) ≡ last_of c table → (t : Bool) → is_marked c ≡ t → last_of p (spelled c ++ text_printed false table es) ≡ last_of c table
    by_test same true t = rw t same
    by_test same false t = rw t same

pub last-ends : (b : ℕ) (bytes : List ℕ) → ends_solid (b ∷ bytes) ≡ not (is_blank (last_of b bytes))
last-ends b [] = refl
last-ends b (c ∷ bytes) = last-ends c bytes

-- two texts end alike
pub ends-alike : (a b : List ℕ) → last_of 0 a ≡ last_of 0 b → ends_solid b ≡ true → begins_solid a ≡ true → ends_solid a ≡ true
ends-alike [] b same ends begins = absurd (true≢false (sym begins))
ends-alike (x ∷ a) [] same ends begins = absurd (true≢false (sym ends))
ends-alike (x ∷ a) (y ∷ b) same ends begins = last-ends x a ∙ ap (λ c. not (is_blank c)) same ∙ sym (last-ends y b) ∙ ends

begins-printed : {test : ℕ → Bool} {k : ℕ} {text : List ℕ} {es : List Expr} → IsTable test k text es → begins_solid text ≡ true → begins_solid (text_printed false text es) ≡ true
begins-printed no_byte is = is
begins-printed (kept_pair {c = c} {table = table} {es = es} kept later) is = ap begins_solid (printed-pair c table es kept)
begins-printed (put {k = k} {table = table} {e = e} {es = es} f later) is = ap begins_solid (printed-hole k table e es)
begins-printed (byte {c = c} {table = table} {es = es} plain free later) is = ap begins_solid (printed-byte c table es plain free) ∙ by_test (is_marked c) refl
  where
    by_test : (t : Bool) → is_marked c ≡ t → begins_solid (spelled c ++ text_printed false table es) ≡ true
    by_test true t = rw t refl
    by_test false t = rw t is

pub solid-printed : {test : ℕ → Bool} {k : ℕ} {text : List ℕ} {es : List Expr} → IsTable test k text es → Solid text → Solid (text_printed false text es)
solid-printed {text = text} {es = es} is s =
    let begins = begins-printed is s.begins in
    record { begins = begins; ends = ends-alike (text_printed false text es) text (last-printed 0 is) s.ends begins }

-- ---- what it doesn't begin with

abbrev pub begins_marked : List ℕ → Bool
begins_marked [] = false
begins_marked (b ∷ bytes) = is_marked b

pub unmarked-printed : {test : ℕ → Bool} {k : ℕ} {text : List ℕ} {es : List Expr} → (rest : List ℕ) → IsTable test k text es → begins_marked rest ≡ false →
    begins_marked (text_printed false text es ++ rest) ≡ false
unmarked-printed rest no_byte behind = behind
unmarked-printed rest (kept_pair {c = c} {table = table} {es = es} is later) behind = ap (λ l. begins_marked (l ++ rest)) (printed-pair c table es is)
unmarked-printed rest (put {k = k} {table = table} {e = e} {es = es} f later) behind = ap (λ l. begins_marked (l ++ rest)) (printed-hole k table e es)
unmarked-printed rest (byte {c = c} {table = table} {es = es} plain free later) behind = ap (λ l. begins_marked (l ++ rest)) (printed-byte c table es plain free) ∙ by_test (is_marked c) refl
  where
    by_test : (t : Bool) → is_marked c ≡ t → begins_marked ((spelled c ++ text_printed false table es) ++ rest) ≡ false
    by_test true t = rw t refl
    by_test false t = rw t t

unmarked-first : (m n : ℕ) (bytes : List ℕ) → is_marked m ≡ true → begins_marked bytes ≡ false → begins_with (m ∷ n ∷ []) bytes ≡ false
unmarked-first m n [] marked unmet = refl
unmarked-first m n (b ∷ bytes) marked unmet = and_left (nat_eq b m) _ (ne_eqb b m (λ e. both_ways (is_marked m) (ap is_marked (sym e) ∙ unmet) marked))

pub no_comment : (bytes : List ℕ) → begins_marked bytes ≡ false → begins_with (codes "//") bytes ≡ false
no_comment bytes unmet = unmarked-first 47 47 bytes refl unmet

pub no_command : (bytes : List ℕ) → begins_marked bytes ≡ false → begins_with (codes "<<") bytes ≡ false
no_command bytes unmet = unmarked-first 60 60 bytes refl unmet

no_more_sign : (bytes : List ℕ) → begins_marked bytes ≡ false → begins_with (codes ">") bytes ≡ false
no_more_sign [] unmet = refl
no_more_sign (b ∷ bytes) unmet = and_left (nat_eq b 62) _ (ne_eqb b 62 (λ e. both_ways (is_marked 62) (ap is_marked (sym e) ∙ unmet) refl))

pub no_option : {test : ℕ → Bool} {k : ℕ} {text : List ℕ} {es : List Expr} → (rest : List ℕ) → IsTable test k text es → (text ≡ [] → ⊥) → begins_marked rest ≡ false →
    begins_with (codes "->") (text_printed false text es ++ rest) ≡ false
no_option rest no_byte some behind = absurd (some refl)
no_option rest (kept_pair {c = c} {table = table} {es = es} is later) some behind = ap (λ l. begins_with (codes "->") (l ++ rest)) (printed-pair c table es is)
no_option rest (put {k = k} {table = table} {e = e} {es = es} f later) some behind = ap (λ l. begins_with (codes "->") (l ++ rest)) (printed-hole k table e es)
no_option rest (byte {c = c} {table = table} {es = es} plain free later) some behind = ap (λ l. begins_with (codes "->") (l ++ rest)) (printed-byte c table es plain free) ∙ by_test (is_marked c) refl
  where
    by_test : (t : Bool) → is_marked c ≡ t → begins_with (codes "->") ((spelled c ++ text_printed false table es) ++ rest) ≡ false
    by_test true t = rw t refl
    by_test false t = rw t (and_right (nat_eq c 45) (begins_with (codes ">") (text_printed false table es ++ rest)) (no_more_sign (text_printed false table es ++ rest) (unmarked-printed rest later behind)))

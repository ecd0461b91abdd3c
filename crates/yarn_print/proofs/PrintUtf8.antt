-- Where a text of UTF-8 is cut at bytes below 128, what is left is UTF-8.
use Rattle.std.proofs.Common.{◌≡◌, ℕ, zero, suc, ◌<◌, List, [], ◌∷◌, ◌++◌, length, Bool, true, false, nat_eq, refl, sym, ap, subst, ◌∙◌, arith, get_or, append_assoc, append-nil, IsUtf8}
use Rattle.std.specs.List.{list_all}
use Rattle.std.specs.Str.{chars, is_utf8, IsCharBoundary}
use Rattle.std.proofs.lemmas.Bool.{eqb-true, and_parts}
use Rattle.std.proofs.lemmas.List.{length-append, get_or-append-add}
use Rattle.std.proofs.Math.Seq.{take-append_seam, drop-append_seam}
use Rattle.std.proofs.lemmas.Str.{IsUtf8-append, IsUtf8-take, IsUtf8-drop, IsUtf8-from_ascii, IsUtf8-from_is_utf8, IsCharBoundary-before_ascii, IsCharBoundary-after_ascii}
use Rattle.yarn_base.specs.Name.{is_name_of}
use Rattle.yarn_lines.specs.Lines.{is_blank, without_cr, past_leading, without_trailing, text_of}
use Rattle.yarn_items.specs.Text.{trimmed}
use Rattle.yarn_items.specs.Item.{is_name_text, IsHeader}
use Rattle.yarn_print.specs.Print.{value_text, blanks}

-- cuts

utf8-cut : (front : List ℕ) (c : ℕ) (back : List ℕ) → c < 128 → IsUtf8 (front ++ c ∷ back) → IsUtf8 front × IsUtf8 (c ∷ back)
utf8-cut front c back low whole =
    let at : get_or (front ++ c ∷ back) (length front) 0 ≡ c =
    ap (λ n. get_or (front ++ c ∷ back) n 0) (omega arith) ∙ get_or-append-add front (c ∷ back) 0 0 in
    let within : length front < length (front ++ c ∷ back) = omega (arith, length-append front (c ∷ back)) in
    let here : IsCharBoundary (front ++ c ∷ back) (length front) =
    IsCharBoundary-before_ascii (front ++ c ∷ back) (length front) within (omega arith) in (
      rw take-append_seam at (IsUtf8-take (front ++ c ∷ back) (length front) whole here),
      rw drop-append_seam at (IsUtf8-drop (front ++ c ∷ back) (length front) whole here),
    )

pub utf8-behind : (c : ℕ) (back : List ℕ) → c < 128 → IsUtf8 (c ∷ back) → IsUtf8 back
utf8-behind c back low whole = IsUtf8-drop (c ∷ back) 1 whole (IsCharBoundary-after_ascii (c ∷ back) 0 whole (omega arith) low)

utf8-one : (c : ℕ) → c < 128 → IsUtf8 (c ∷ [])
utf8-one c low = IsUtf8-from_ascii (c ∷ []) below
  where
    below : (i : ℕ) → get_or (c ∷ []) i 0 < 128
    below zero = low
    below (suc i) = omega arith

pub utf8-cons : (c : ℕ) (back : List ℕ) → c < 128 → IsUtf8 back → IsUtf8 (c ∷ back)
utf8-cons c back low whole = IsUtf8-append (c ∷ []) back (utf8-one c low) whole

-- more fronts

utf8-onto : (front : List ℕ) (c : ℕ) (back : List ℕ) → IsUtf8 (front ++ c ∷ back) → IsUtf8 ((front ++ c ∷ []) ++ back)
utf8-onto front c back whole = rw (append_assoc front (c ∷ []) back) whole

utf8-off : (front : List ℕ) (c : ℕ) (back : List ℕ) → IsUtf8 ((front ++ c ∷ []) ++ back) → IsUtf8 (front ++ c ∷ back)
utf8-off front c back whole = rw (append_assoc front (c ∷ []) back) at whole

utf8-front : (front : List ℕ) (d : ℕ) (back : List ℕ) → d < 128 → IsUtf8 (front ++ d ∷ back) → IsUtf8 (front ++ [])
utf8-front front d back under whole = rw (append-nil front) (utf8-cut front d back under whole).0

-- blanks

blank_ascii : (b : ℕ) → is_blank b ≡ true → b < 128
blank_ascii b is = by_test (nat_eq b 32) refl
  where
    by_test : (t : Bool) → nat_eq b 32 ≡ t → b < 128
    by_test true t = let e = eqb-true b 32 t in omega arith
    by_test false t = let h : nat_eq b 9 ≡ true = rw t at is in let e = eqb-true b 9 h in omega arith

utf8-past_leading : (bytes : List ℕ) → IsUtf8 bytes → IsUtf8 (past_leading bytes)
utf8-past_leading [] whole = whole
utf8-past_leading (b ∷ bytes) whole = by_test (utf8-past_leading bytes) (is_blank b) refl
  where
    by_test : (IsUtf8 bytes → IsUtf8 (past_leading bytes)) → (t : Bool) → is_blank b ≡ t → IsUtf8 (past_leading (b ∷ bytes))
    by_test later true t = rw t (later (utf8-behind b bytes (blank_ascii b t) whole))
    by_test later false t = rw t whole

trailing_off : (front bytes : List ℕ) → IsUtf8 (front ++ bytes) → IsUtf8 (front ++ without_trailing bytes)
trailing_off front [] whole = whole
trailing_off front (b ∷ bytes) whole = by_test (trailing_off (front ++ b ∷ []) bytes) (list_all is_blank (b ∷ bytes)) refl
  where
    by_test : (IsUtf8 ((front ++ b ∷ []) ++ bytes) → IsUtf8 ((front ++ b ∷ []) ++ without_trailing bytes)) →
        (t : Bool) → list_all is_blank (b ∷ bytes) ≡ t → IsUtf8 (front ++ without_trailing (b ∷ bytes))
    by_test later true t =
        let low : b < 128 = blank_ascii b (and_parts (is_blank b) (list_all is_blank bytes) t).0 in
        rw t (utf8-front front b bytes low whole)
    by_test later false t = rw t (utf8-off front b (without_trailing bytes) (later (utf8-onto front b bytes whole)))

pub utf8-trimmed : (bytes : List ℕ) → IsUtf8 bytes → IsUtf8 (trimmed bytes)
utf8-trimmed bytes whole = utf8-past_leading (without_trailing bytes) (trailing_off [] bytes whole)

cr_off : (front bytes : List ℕ) → IsUtf8 (front ++ bytes) → IsUtf8 (front ++ without_cr bytes)
cr_off front [] whole = whole
cr_off front (b ∷ []) whole = by_test (nat_eq b 13) refl
  where
    by_test : (t : Bool) → nat_eq b 13 ≡ t → IsUtf8 (front ++ without_cr (b ∷ []))
    by_test true t = let e = eqb-true b 13 t in rw t (utf8-front front b [] (omega arith) whole)
    by_test false t = rw t whole
cr_off front (b ∷ c ∷ bytes) whole =
    utf8-off front b (without_cr (c ∷ bytes)) (cr_off (front ++ b ∷ []) (c ∷ bytes) (utf8-onto front b (c ∷ bytes) whole))

pub utf8-text_of : (piece : List ℕ) → IsUtf8 piece → IsUtf8 (text_of piece)
utf8-text_of piece whole = utf8-trimmed (without_cr piece) (cr_off [] piece whole)

-- the blanks before a line
pub utf8-blanks : (n : ℕ) (bytes : List ℕ) → IsUtf8 bytes → IsUtf8 (blanks n ++ bytes)
utf8-blanks zero bytes whole = whole
utf8-blanks (suc n) bytes whole = utf8-cons 32 (blanks n ++ bytes) (omega arith) (utf8-blanks n bytes whole)

-- headers

utf8-name : (name : List ℕ) → is_name_text name ≡ true → IsUtf8 name
utf8-name name named = IsUtf8-from_is_utf8 name (and_parts (is_utf8 name) (is_name_of (chars name)) named).0

-- the front and the bytes behind a byte below 128
past_one : (front : List ℕ) (c : ℕ) (back : List ℕ) → c < 128 → IsUtf8 (front ++ c ∷ back) → IsUtf8 back
past_one front c back low whole = utf8-behind c back low (utf8-cut front c back low whole).1

pub utf8-header : (line key value : List ℕ) → IsUtf8 line → IsHeader line key value → IsUtf8 (key ++ 58 ∷ value_text value)
utf8-header line key value whole is =
    IsUtf8-append key (58 ∷ value_text value) (utf8-name key is.named) (utf8-cons 58 (value_text value) (omega arith) (spaced value words))
  where
    split : IsUtf8 (key ++ (is.blanks ++ 58 ∷ is.rest))
    split = subst IsUtf8 is.split whole

    rest : IsUtf8 is.rest
    rest = past_one (key ++ is.blanks) 58 is.rest (omega arith) (rw (append_assoc key is.blanks (58 ∷ is.rest)) split)

    words : IsUtf8 value
    words = subst IsUtf8 (sym is.valued) (utf8-trimmed is.rest rest)

    spaced : (bytes : List ℕ) → IsUtf8 bytes → IsUtf8 (value_text bytes)
    spaced [] some = some
    spaced (b ∷ bytes) some = utf8-cons 32 (b ∷ bytes) (omega arith) some

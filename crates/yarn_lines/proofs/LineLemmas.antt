-- The line of one piece: where its text stands, and that it may be cut out of the piece there.
use Rattle.std.proofs.Common.{◌≡◌, ℕ, ◌+◌, ◌<◌, ◌≤◌, List, [], ◌∷◌, ◌++◌, length, take, drop, Bool, true, false, ◌&&◌, nat_eq, Some, None, refl, sym, ap, subst, ◌∙◌, arith, get_or, append_assoc, IsUtf8}
use Rattle.std.specs.Prelude.{encode_utf8}
use Rattle.std.specs.List.{list_all}
use Rattle.std.specs.Str.{IsCharBoundary}
use Rattle.std.proofs.lemmas.Bool.{eqb-true}
use Rattle.std.proofs.lemmas.List.{get_or-append-add, drop-append-le, take_at, length-drop, length-append}
use Rattle.std.proofs.lemmas.Str.{IsUtf8-take, IsUtf8-past_char, encode_ascii}
use Rattle.yarn_base.specs.Part.{cut}
use Rattle.yarn_lines.specs.Lines.{is_blank, without_cr, without_trailing, leading, past_leading, width, content, indent_of, text_of, counts}
use Rattle.yarn_lines.specs.Piece.{line_of}
use Rattle.yarn_lines.proofs.PieceLemmas.{past_leading-drop}
use Rattle.yarn_lines.proofs.CutLemmas.{cut-in_cut}

-- the front of some bytes, behind which a byte below 128 stands, or none
record Cuts (bytes front : List ℕ) : Type 0 where
  pub rest : List ℕ
  pub split : bytes ≡ front ++ rest
  pub ascii : get_or rest 0 0 < 128

blank_ascii : (b : ℕ) → is_blank b ≡ true → b < 128
blank_ascii b is = by_test (nat_eq b 32) refl
  where
    by_test : (t : Bool) → nat_eq b 32 ≡ t → b < 128
    by_test true t = let e = eqb-true b 32 t in omega arith
    by_test false t = let h : nat_eq b 9 ≡ true = rw t at is in let e = eqb-true b 9 h in omega arith

and_left : (a b : Bool) → (a && b) ≡ true → a ≡ true
and_left true b is = refl
and_left false b is = is

without_cr-cuts : (bytes : List ℕ) → Cuts bytes (without_cr bytes)
without_cr-cuts [] = record { rest = []; split = refl; ascii = omega arith }
without_cr-cuts (b ∷ []) = by_test (nat_eq b 13) refl
  where
    by_test : (t : Bool) → nat_eq b 13 ≡ t → Cuts (b ∷ []) (without_cr (b ∷ []))
    by_test true t = let e = eqb-true b 13 t in rw t (record { rest = b ∷ []; split = refl; ascii = omega arith })
    by_test false t = rw t (record { rest = []; split = refl; ascii = omega arith })
without_cr-cuts (b ∷ c ∷ bytes) =
    let later = without_cr-cuts (c ∷ bytes) in
    record { rest = later.rest; split = ap (λ l. b ∷ l) later.split; ascii = later.ascii }

without_trailing-cuts : (bytes : List ℕ) → Cuts bytes (without_trailing bytes)
without_trailing-cuts [] = record { rest = []; split = refl; ascii = omega arith }
without_trailing-cuts (b ∷ bytes) = by_test (without_trailing-cuts bytes) (list_all is_blank (b ∷ bytes)) refl
  where
    by_test : Cuts bytes (without_trailing bytes) → (t : Bool) → list_all is_blank (b ∷ bytes) ≡ t → Cuts (b ∷ bytes) (without_trailing (b ∷ bytes))
    by_test later true t =
        let below : b < 128 = blank_ascii b (and_left (is_blank b) (list_all is_blank bytes) t) in
        rw t (record { rest = b ∷ bytes; split = refl; ascii = below })
    by_test later false t = rw t (record { rest = later.rest; split = ap (λ l. b ∷ l) later.split; ascii = later.ascii })

cuts_on : (bytes middle front : List ℕ) → Cuts bytes middle → Cuts middle front → Cuts bytes front
cuts_on bytes middle front outer inner = record {
  rest = inner.rest ++ outer.rest;
  split = outer.split ∙ ap (λ l. l ++ outer.rest) inner.split ∙ append_assoc front inner.rest outer.rest;
  ascii = of inner.rest inner.ascii;
}
  where
    of : (rest : List ℕ) → get_or rest 0 0 < 128 → get_or (rest ++ outer.rest) 0 0 < 128
    of [] below = outer.ascii
    of (b ∷ rest) below = below

content-cuts : (piece line : List ℕ) → line ≡ content piece → Cuts piece line
content-cuts piece line is = rw is (cuts_on piece (without_cr piece) (content piece) (without_cr-cuts piece) (without_trailing-cuts (without_cr piece)))

-- a piece may be cut behind its line
boundary_at_end : (piece line : List ℕ) → line ≡ content piece → IsCharBoundary piece (length line)
boundary_at_end piece line is = of (content-cuts piece line is)
  where
    of : Cuts piece line → IsCharBoundary piece (length line)
    of cuts =
        let none : length line ≡ length line + 0 = omega arith in
        let here : get_or piece (length line) 0 ≡ get_or cuts.rest 0 0 =
        ap (λ l. get_or l (length line) 0) cuts.split ∙ ap (λ n. get_or (line ++ cuts.rest) n 0) none ∙ get_or-append-add line cuts.rest 0 0 in
        (omega (arith, ap length cuts.split, length-append line cuts.rest), λ lt high. absurd (omega (arith, cuts.ascii, here)))

utf8_line : (piece line : List ℕ) → IsUtf8 piece → line ≡ content piece → IsUtf8 line
utf8_line piece line utf8 is =
    let cuts = content-cuts piece line is in
    let front : take (length line) piece ≡ line = ap (take (length line)) cuts.split ∙ take_at line cuts.rest (length line) refl in
    subst IsUtf8 front (IsUtf8-take piece (length line) utf8 (boundary_at_end piece line is))

utf8_text : (line : List ℕ) → IsUtf8 line → IsUtf8 (past_leading line)
utf8_text [] utf8 = utf8
utf8_text (b ∷ line) utf8 = by_test (utf8_text line) (is_blank b) refl
  where
    by_test : (IsUtf8 line → IsUtf8 (past_leading line)) → (t : Bool) → is_blank b ≡ t → IsUtf8 (past_leading (b ∷ line))
    by_test later true t =
        let one = encode_ascii b (blank_ascii b t) in
        let split : b ∷ line ≡ encode_utf8 b ++ line = sym (ap (λ l. l ++ line) one) in
        rw t (later (IsUtf8-past_char (b ∷ line) line b utf8 split))
    by_test later false t = rw t utf8

leading-take : (bytes : List ℕ) → take (length (leading bytes)) bytes ≡ leading bytes
leading-take [] = refl
leading-take (b ∷ bytes) = by_test (leading-take bytes) (is_blank b) refl
  where
    by_test : take (length (leading bytes)) bytes ≡ leading bytes → (t : Bool) → is_blank b ≡ t →
        take (length (leading (b ∷ bytes))) (b ∷ bytes) ≡ leading (b ∷ bytes)
    by_test later true t = rw (t, later) refl
    by_test later false t = rw t refl

-- the blanks and the text of a piece, which stands at a place of the whole
pub record Found (whole piece blanks text : List ℕ) (from front : ℕ) : Type 0 where
  pub indent : width blanks ≡ indent_of piece
  pub begins : front ≡ length (leading (content piece))
  pub is : text ≡ text_of piece
  pub within : front + length text ≤ length piece
  pub utf8 : IsUtf8 text
  pub place : text ≡ cut (from + front) (length text) whole

pub found : (whole piece line blanks text : List ℕ) (from front : ℕ) → IsUtf8 piece → piece ≡ cut from (length piece) whole → line ≡ content piece →
    front ≡ length (leading line) → front ≤ length line → blanks ≡ take front line → text ≡ drop front line → Found whole piece blanks text from front
found whole piece line blanks text from front utf8 place line_is front_is within blanks_are is = of (content-cuts piece line line_is)
  where
    of : Cuts piece line → Found whole piece blanks text from front
    of cuts =
        let are : blanks ≡ leading line = blanks_are ∙ ap (λ n. take n line) front_is ∙ leading-take line in
        let behind : text ≡ past_leading line = is ∙ ap (λ n. drop n line) front_is ∙ sym (past_leading-drop line) in
        let long : length (drop front line) ≡ length text = sym (ap length is) in
        let shorter : front + length text ≤ length piece =
        omega (arith, long, length-drop front line, ap length cuts.split, length-append line cuts.rest) in
        let between : text ≡ take (length text) (drop front piece) =
        is ∙ sym (ap (λ l. take (length text) (drop front l)) cuts.split
        ∙ ap (take (length text)) (drop-append-le front line cuts.rest within)
        ∙ take_at (drop front line) cuts.rest (length text) long) in
        record {
          indent = ap width are ∙ ap (λ l. width (leading l)) line_is;
          begins = front_is ∙ ap (λ l. length (leading l)) line_is;
          is = behind ∙ ap past_leading line_is;
          within = shorter;
          utf8 = subst IsUtf8 (sym behind) (utf8_text line (utf8_line piece line utf8 line_is));
          place = cut-in_cut whole piece text from (length piece) front (length text) place between shorter;
        }

pub line_of-none : (number at : ℕ) (piece text : List ℕ) → text ≡ text_of piece → counts text ≡ false → None ≡ line_of number at piece
line_of-none number at piece text is none =
    let skipped : counts (text_of piece) ≡ false = ap counts (sym is) ∙ none in
    rw skipped refl

pub line_of-some : (number at indent place : ℕ) (piece text : List ℕ) → text ≡ text_of piece → counts text ≡ true →
    indent ≡ indent_of piece → place ≡ at + length (leading (content piece)) →
    Some (record { number = number; indent = indent; at = place; text = text }) ≡ line_of number at piece
line_of-some number at indent place piece text is some indent_is place_is =
    let kept : counts (text_of piece) ≡ true = ap counts (sym is) ∙ some in
    rw (kept, is, indent_is, place_is) refl

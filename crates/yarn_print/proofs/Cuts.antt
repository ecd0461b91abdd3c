-- Texts that are cut at a byte below 128, and put together again.
use Rattle.std.proofs.Common.{◌≡◌, ℕ, ◌<◌, List, [], ◌∷◌, ◌++◌, length, Bool, true, false, nat_eq, nat_lt, refl, sym, ap, ◌∙◌, arith, get_or, append_assoc, append-nil, IsUtf8}
use Rattle.std.specs.List.{list_any, list_all}
use Rattle.std.specs.Str.{IsCharBoundary}
use Rattle.std.proofs.lemmas.Bool.{eqb-true, lt-ltb, and_parts, and_from, or_parts, or_from, true≢false}
use Rattle.std.proofs.lemmas.List.{length-append, get_or-append-add}
use Rattle.std.proofs.Math.Seq.{take-append_seam, drop-append_seam}
use Rattle.std.proofs.lemmas.Str.{IsUtf8-take, IsUtf8-drop, IsCharBoundary-before_ascii, IsCharBoundary-after_ascii}
use Rattle.yarn_lines.specs.Lines.{is_blank, past_leading, without_trailing}
use Rattle.yarn_items.specs.Text.{trimmed}
use Rattle.yarn_expr.proofs.Shown.{are_ascii}
use Rattle.yarn_print.proofs.Quiet.{OnlyBreaks, is_break, IsFree, free-parts, Fits, fits-nil, fits-append, utf8-ascii}

-- what holds of each of some bytes holds of a byte among them
pub among : (test : ℕ → Bool) (bytes : List ℕ) (b : ℕ) → list_any (λ e. nat_eq e b) bytes ≡ true → list_all test bytes ≡ true → test b ≡ true
among test [] b one all = absurd (true≢false (sym one))
among test (c ∷ bytes) b one all = by_test (among test bytes b) (nat_eq c b) refl
  where
    parts : (test c ≡ true) × (list_all test bytes ≡ true)
    parts = and_parts (test c) (list_all test bytes) all

    by_test : (list_any (λ e. nat_eq e b) bytes ≡ true → list_all test bytes ≡ true → test b ≡ true) → (t : Bool) → nat_eq c b ≡ t → test b ≡ true
    by_test later true t = ap test (sym (eqb-true c b t)) ∙ parts.0
    by_test later false t = later (rw t at one) parts.1

utf8-cut : (front : List ℕ) (c : ℕ) (back : List ℕ) → c < 128 → IsUtf8 (front ++ c ∷ back) → IsUtf8 front × IsUtf8 (c ∷ back)
utf8-cut front c back low whole =
    let at : get_or (front ++ c ∷ back) (length front) 0 ≡ c =
    ap (λ n. get_or (front ++ c ∷ back) n 0) (omega arith) ∙ get_or-append-add front (c ∷ back) 0 0 in
    let within : length front < length (front ++ c ∷ back) = omega (arith, length-append front (c ∷ back)) in
    let here : IsCharBoundary (front ++ c ∷ back) (length front) =
    IsCharBoundary-before_ascii (front ++ c ∷ back) (length front) within (omega arith) in (
      rw take-append_seam at (IsUtf8-take (front ++ c ∷ back) (length front) whole here),
      rw drop-append_seam at (IsUtf8-drop (front ++ c ∷ back) (length front) whole here),
    )

utf8-behind : (c : ℕ) (back : List ℕ) → c < 128 → IsUtf8 (c ∷ back) → IsUtf8 back
utf8-behind c back low whole = IsUtf8-drop (c ∷ back) 1 whole (IsCharBoundary-after_ascii (c ∷ back) 0 whole (omega arith) low)

module _ (test : ℕ → Bool) where
  pub fits-cut : (front : List ℕ) (c : ℕ) (back : List ℕ) → c < 128 → Fits test (front ++ c ∷ back) → Fits test front × Fits test (c ∷ back)
  fits-cut front c back low whole =
      let words = utf8-cut front c back low whole.utf8 in
      let free = free-parts test front (c ∷ back) whole.free in
      (record { utf8 = words.0; free = free.0 }, record { utf8 = words.1; free = free.1 })

  pub fits-behind : (c : ℕ) (back : List ℕ) → c < 128 → Fits test (c ∷ back) → Fits test back
  fits-behind c back low whole = record { utf8 = utf8-behind c back low whole.utf8; free = (or_parts (test c) (list_any test back) whole.free).1 }

  pub fits-one : (c : ℕ) → c < 128 → test c ≡ false → Fits test (c ∷ [])
  fits-one c low free = record { utf8 = utf8-ascii (c ∷ []) (and_from (nat_lt c 128) true (lt-ltb c 128 low) refl); free = or_from (test c) false free refl }

  pub fits-cons : (c : ℕ) (back : List ℕ) → c < 128 → test c ≡ false → Fits test back → Fits test (c ∷ back)
  fits-cons c back low free whole = fits-append test (c ∷ []) back (fits-one c low free) whole

  -- more fronts
  pub fits-onto : (front : List ℕ) (c : ℕ) (back : List ℕ) → Fits test (front ++ c ∷ back) → Fits test ((front ++ c ∷ []) ++ back)
  fits-onto front c back whole = rw (append_assoc front (c ∷ []) back) whole

  pub fits-off : (front : List ℕ) (c : ℕ) (back : List ℕ) → Fits test ((front ++ c ∷ []) ++ back) → Fits test (front ++ c ∷ back)
  fits-off front c back whole = rw (append_assoc front (c ∷ []) back) at whole

  -- a byte below 128 put in
  pub fits-in : (front : List ℕ) (c d : ℕ) (back : List ℕ) → c < 128 → d < 128 → test d ≡ false → Fits test (front ++ c ∷ back) → Fits test (front ++ d ∷ c ∷ back)
  fits-in front c d back low under free whole =
      let parts = fits-cut front c back low whole in
      fits-append test front (d ∷ c ∷ back) parts.0 (fits-cons d (c ∷ back) under free parts.1)

  -- and left out
  pub fits-out : (front : List ℕ) (d : ℕ) (back : List ℕ) → d < 128 → Fits test (front ++ d ∷ back) → Fits test (front ++ back)
  fits-out front d back under whole =
      let parts = fits-cut front d back under whole in
      fits-append test front back parts.0 (fits-behind d back under parts.1)

  fits-front : (front : List ℕ) (d : ℕ) (back : List ℕ) → d < 128 → Fits test (front ++ d ∷ back) → Fits test (front ++ [])
  fits-front front d back under whole = rw (append-nil front) (fits-cut front d back under whole).0

-- blanks

pub blank_ascii : (b : ℕ) → is_blank b ≡ true → b < 128
blank_ascii b is = by_test (nat_eq b 32) refl
  where
    by_test : (t : Bool) → nat_eq b 32 ≡ t → b < 128
    by_test true t = let e = eqb-true b 32 t in omega arith
    by_test false t = let h : nat_eq b 9 ≡ true = rw t at is in let e = eqb-true b 9 h in omega arith

module _ (test : ℕ → Bool) where
  pub fits-past_leading : (bytes : List ℕ) → Fits test bytes → Fits test (past_leading bytes)
  fits-past_leading [] whole = whole
  fits-past_leading (b ∷ bytes) whole = by_test (fits-past_leading bytes) (is_blank b) refl
    where
      by_test : (Fits test bytes → Fits test (past_leading bytes)) → (t : Bool) → is_blank b ≡ t → Fits test (past_leading (b ∷ bytes))
      by_test later true t = rw t (later (fits-behind test b bytes (blank_ascii b t) whole))
      by_test later false t = rw t whole

  trailing_off : (front bytes : List ℕ) → Fits test (front ++ bytes) → Fits test (front ++ without_trailing bytes)
  trailing_off front [] whole = whole
  trailing_off front (b ∷ bytes) whole = by_test (trailing_off (front ++ b ∷ []) bytes) (list_all is_blank (b ∷ bytes)) refl
    where
      by_test : (Fits test ((front ++ b ∷ []) ++ bytes) → Fits test ((front ++ b ∷ []) ++ without_trailing bytes)) →
          (t : Bool) → list_all is_blank (b ∷ bytes) ≡ t → Fits test (front ++ without_trailing (b ∷ bytes))
      by_test later true t =
          let low : b < 128 = blank_ascii b (and_parts (is_blank b) (list_all is_blank bytes) t).0 in
          rw t (fits-front test front b bytes low whole)
      by_test later false t = rw t (fits-off test front b (without_trailing bytes) (later (fits-onto test front b bytes whole)))

  pub fits-trimmed : (bytes : List ℕ) → Fits test bytes → Fits test (trimmed bytes)
  fits-trimmed bytes whole = fits-past_leading (without_trailing bytes) (trailing_off [] bytes whole)

-- what stands there is empty or begins with a byte below 128
abbrev pub BeginsLow : List ℕ → Type 0
BeginsLow bytes = get_or bytes 0 0 < 128

pub low_front : (test : ℕ → Bool) (front bytes : List ℕ) → BeginsLow bytes → Fits test (front ++ bytes) → Fits test front × Fits test bytes
low_front test front [] low whole = (rw (append-nil front) at whole, fits-nil test)
low_front test front (b ∷ bytes) low whole = fits-cut test front b bytes low whole

-- a text that is written out, without an end of a line
pub fits-words : (test : ℕ → Bool) (w : List ℕ) → OnlyBreaks test → are_ascii w ≡ true → list_any is_break w ≡ false → Fits test w
fits-words test w only ascii whole = record { utf8 = utf8-ascii w ascii; free = none w whole }
  where
    none : (w : List ℕ) → list_any is_break w ≡ false → IsFree test w
    none [] whole = refl
    none (b ∷ w) whole =
        let parts = or_parts (is_break b) (list_any is_break w) whole in
        or_from (test b) (list_any test w) (only.fails b parts.0) (none w parts.1)

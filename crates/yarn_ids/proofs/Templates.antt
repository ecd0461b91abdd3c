-- What reading a text as a template needs of its bytes: trimmed, it is one still, and `{k}` is one placeholder.
use Rattle.std.proofs.Common.{◌≡◌, ℕ, ◌+◌, ◌-◌, ◌*◌, ◌/◌, ◌%◌, ◌<◌, ◌≤◌, List, [], ◌∷◌, ◌++◌, Bool, true, false, nat_eq, Option, Some, None, refl, sym, ap, ◌∙◌, subst, arith}
use Rattle.std.specs.Prelude.{nat_lt, not, ◌&&◌}
use Rattle.std.specs.List.{list_all}
use Rattle.std.specs.Fmt.{decimal}
use Rattle.std.proofs.lemmas.Bool.{eqb-true, lt-ltb, le-leb}
use Rattle.std.proofs.lemmas.Bool.Decides.{nat_tests}
use Rattle.std.proofs.lemmas.Fmt.{decimal_digit, decimal_step}
use Rattle.std.proofs.lemmas.Option.{same_Some}
use Rattle.yarn_lines.specs.Lines.{is_blank, past_leading, without_trailing}
use Rattle.yarn_items.specs.Text.{hole_text, trimmed}
use Rattle.yarn_value.specs.Numbers.{is_digit}
use Rattle.yarn_value.specs.Templates.{Mark, Stands, Brace, Placeholder, Place, Plain, Behind, Opened, Digits, before, is_brace, marks, placeholders, size}
use Rattle.yarn_code.specs.Fields.{IsText}

-- the bytes, read from that place on, are marks, with at most so many placeholders and at most so many bytes
pub record IsRead (holes : ℕ) (place : Place) (bytes : List ℕ) (count most : ℕ) : Type 0 where
  pub own : List Mark
  pub is : marks holes place bytes ≡ Some own
  pub few : placeholders own ≤ count
  pub small : size own ≤ most

-- ---- one mark more

pub none_read : (n few most : ℕ) → IsRead n Plain [] few most
none_read n few most = record { own = []; is = refl; few = omega arith; small = omega arith }

pub weaker : (n : ℕ) (p : Place) (bytes : List ℕ) (few most more_holes more : ℕ) → few ≤ more_holes → most ≤ more →
    IsRead n p bytes few most → IsRead n p bytes more_holes more
weaker n p bytes few most more_holes more h g r =
    record { own = r.own; is = r.is; few = omega (arith, r.few); small = omega (arith, r.small) }

-- nothing of meaning is read
pub moved : (n : ℕ) (p q : Place) (bytes rest : List ℕ) (few most : ℕ) → marks n p bytes ≡ marks n q rest →
    IsRead n q rest few most → IsRead n p bytes few most
moved n p q bytes rest few most is r = record { own = r.own; is = is ∙ r.is; few = r.few; small = r.small }

pub byte_more : (n : ℕ) (p q : Place) (b : ℕ) (bytes rest : List ℕ) (few most : ℕ) → marks n p bytes ≡ before (Stands b) (marks n q rest) →
    IsRead n q rest few most → IsRead n p bytes few (1 + most)
byte_more n p q b bytes rest few most is r =
    record { own = Stands b ∷ r.own; is = is ∙ ap (before (Stands b)) r.is; few = r.few; small = omega (arith, r.small) }

pub bytes_more : (n : ℕ) (p q : Place) (b c : ℕ) (bytes rest : List ℕ) (few most : ℕ) →
    marks n p bytes ≡ before (Stands b) (before (Stands c) (marks n q rest)) → IsRead n q rest few most → IsRead n p bytes few (2 + most)
bytes_more n p q b c bytes rest few most is r = record {
  own = Stands b ∷ Stands c ∷ r.own;
  is = is ∙ ap (λ o. before (Stands b) (before (Stands c) o)) r.is;
  few = r.few;
  small = omega (arith, r.small);
}

pub brace_more : (n : ℕ) (p q : Place) (b : ℕ) (bytes rest : List ℕ) (few most : ℕ) → marks n p bytes ≡ before (Brace b) (marks n q rest) →
    IsRead n q rest few most → IsRead n p bytes few (2 + most)
brace_more n p q b bytes rest few most is r =
    record { own = Brace b ∷ r.own; is = is ∙ ap (before (Brace b)) r.is; few = r.few; small = omega (arith, r.small) }

pub hole_more : (n : ℕ) (p q : Place) (k : ℕ) (bytes rest : List ℕ) (few most : ℕ) → marks n p bytes ≡ before (Placeholder k) (marks n q rest) →
    IsRead n q rest few most → IsRead n p bytes (1 + few) (3 + most)
hole_more n p q k bytes rest few most is r = record {
  own = Placeholder k ∷ r.own;
  is = is ∙ ap (before (Placeholder k)) r.is;
  few = omega (arith, r.few);
  small = omega (arith, r.small);
}

-- ---- the front of a text

-- a byte that stands for itself
pub stands_read : (n b : ℕ) (bytes : List ℕ) (few most : ℕ) → nat_eq b 92 ≡ false → nat_eq b 123 ≡ false → IsRead n Plain bytes few most →
    IsRead n Plain (b ∷ bytes) few (1 + most)
stands_read n b bytes few most back opens r = byte_more n Plain Plain b (b ∷ bytes) bytes few most (rw (back, opens) refl) r

-- a backslash and a byte
pub pair_read : (n c : ℕ) (bytes : List ℕ) (few most : ℕ) → IsRead n Plain bytes few most → IsRead n Plain (92 ∷ c ∷ bytes) few (2 + most)
pair_read n c bytes few most r = by_test (is_brace c) refl
  where
    by_test : (t : Bool) → is_brace c ≡ t → IsRead n Plain (92 ∷ c ∷ bytes) few (2 + most)
    by_test true t = brace_more n Plain Plain c (92 ∷ c ∷ bytes) bytes few most (rw t refl) r
    by_test false t = bytes_more n Plain Plain 92 c (92 ∷ c ∷ bytes) bytes few most (rw t refl) r

-- a backslash stays before another byte than a brace
pub behind_read : (n c : ℕ) (bytes : List ℕ) (few most : ℕ) → is_brace c ≡ false → IsRead n Plain bytes few most →
    IsRead n Behind (c ∷ bytes) few (2 + most)
behind_read n c bytes few most other r = bytes_more n Behind Plain 92 c (c ∷ bytes) bytes few most (rw other refl) r

one_digit : (n d k : ℕ) (rest : List ℕ) → is_digit d ≡ true → d - 48 ≡ k → k < n →
    marks n Opened (d ∷ 125 ∷ rest) ≡ before (Placeholder k) (marks n Plain rest)
one_digit n d k rest is e h = rw (is, e, lt-ltb k n h) refl

two_digits : (n c k : ℕ) (rest : List ℕ) → is_digit c ≡ true → nat_eq c 125 ≡ false → 1 * 10 + (c - 48) ≡ k → k < n →
    marks n Opened (49 ∷ c ∷ 125 ∷ rest) ≡ before (Placeholder k) (marks n Plain rest)
two_digits n c k rest is other e h = rw (other, is, e, lt-ltb k n h) refl

digit : (k : ℕ) → k < 10 → is_digit (48 + k) ≡ true
digit k h = rw (le-leb 48 (48 + k) (omega arith), le-leb (48 + k) 57 (omega arith)) refl

-- the decimal of 10 and more up to 15
two_of : (k : ℕ) → 10 ≤ k → k < 16 → decimal k ≡ 49 ∷ (48 + k % 10) ∷ []
two_of k high low =
    let tens : k / 10 ≡ 1 = omega arith in
    decimal_step k high (omega arith) ∙ ap (λ x. decimal x ++ ((48 + k % 10) ∷ [])) tens
    ∙ ap (λ l. l ++ ((48 + k % 10) ∷ [])) (decimal_digit 1 (omega arith))

digits_marks : (n k : ℕ) (rest : List ℕ) → k < n → k < 16 →
    marks n Opened ((decimal k ++ 125 ∷ []) ++ rest) ≡ before (Placeholder k) (marks n Plain rest)
digits_marks n k rest h small = by_test (nat_lt k 10) refl
  where
    by_test : (t : Bool) → nat_lt k 10 ≡ t → marks n Opened ((decimal k ++ 125 ∷ []) ++ rest) ≡ before (Placeholder k) (marks n Plain rest)
    by_test true t =
        let low : k < 10 = grind (arith, nat_tests) in
        rw (decimal_digit k low) (one_digit n (48 + k) k rest (digit k low) (omega arith) h)
    by_test false t =
        let high : 10 ≤ k = grind (arith, nat_tests) in
        rw (two_of k high small) (two_digits n (48 + k % 10) k rest (digit (k % 10) (omega arith)) (grind (arith, nat_tests)) (omega arith) h)

-- a placeholder
pub placeholder_read : (n k : ℕ) (bytes : List ℕ) (few most : ℕ) → k < n → n ≤ 16 → IsRead n Plain bytes few most →
    IsRead n Plain (hole_text k ++ bytes) (1 + few) (3 + most)
placeholder_read n k bytes few most h small r =
    hole_more n Plain Plain k (hole_text k ++ bytes) bytes few most (digits_marks n k bytes h (omega arith)) r

-- ---- blanks

-- what holds of a space and of a tab holds of a blank
blank_is : (b : ℕ) (P : ℕ → Type 0) → P 32 → P 9 → is_blank b ≡ true → P b
blank_is b P space tab is = by_test (nat_eq b 32) refl
  where
    by_test : (t : Bool) → nat_eq b 32 ≡ t → P b
    by_test true t = subst P (sym (eqb-true b 32 t)) space
    by_test false t = let h : nat_eq b 9 ≡ true = rw t at is in subst P (sym (eqb-true b 9 h)) tab

-- a mark stands before others
record Parts (m : Mark) (o : Option (List Mark)) (own : List Mark) : Type 0 where
  pub rest : List Mark
  pub is : o ≡ Some rest
  pub all : own ≡ m ∷ rest

parts : (m : Mark) (o : Option (List Mark)) (own : List Mark) → before m o ≡ Some own → Parts m o own
parts m None own is = absurd cc
parts m (Some rest) own is = record { rest = rest; is = refl; all = sym (same_Some (m ∷ rest) own is) }

-- other bytes are read wherever these are, and are no more
abbrev Later : ℕ → List ℕ → List ℕ → Type 0
Later n bytes short = (p : Place) (own : List Mark) → marks n p bytes ≡ Some own → IsRead n p short (placeholders own) (size own)

module _ (n b : ℕ) (bytes short : List ℕ) (later : Later n bytes short) where
  byte_kept : (p q : Place) (c : ℕ) (own : List Mark) → marks n p (b ∷ bytes) ≡ before (Stands c) (marks n q bytes) →
      marks n p (b ∷ short) ≡ before (Stands c) (marks n q short) → marks n p (b ∷ bytes) ≡ Some own →
      IsRead n p (b ∷ short) (placeholders own) (size own)
  byte_kept p q c own whole less is =
      let f = parts (Stands c) (marks n q bytes) own (sym whole ∙ is) in
      subst (λ l. IsRead n p (b ∷ short) (placeholders l) (size l)) (sym f.all)
      (byte_more n p q c (b ∷ short) short (placeholders f.rest) (size f.rest) less (later q f.rest f.is))

  bytes_kept : (p q : Place) (c d : ℕ) (own : List Mark) → marks n p (b ∷ bytes) ≡ before (Stands c) (before (Stands d) (marks n q bytes)) →
      marks n p (b ∷ short) ≡ before (Stands c) (before (Stands d) (marks n q short)) → marks n p (b ∷ bytes) ≡ Some own →
      IsRead n p (b ∷ short) (placeholders own) (size own)
  bytes_kept p q c d own whole less is =
      let f = parts (Stands c) (before (Stands d) (marks n q bytes)) own (sym whole ∙ is) in
      let g = parts (Stands d) (marks n q bytes) f.rest f.is in
      let all : own ≡ Stands c ∷ Stands d ∷ g.rest = f.all ∙ ap (λ l. Stands c ∷ l) g.all in
      subst (λ l. IsRead n p (b ∷ short) (placeholders l) (size l)) (sym all)
      (weaker n p (b ∷ short) (placeholders g.rest) (2 + size g.rest) (placeholders g.rest) (1 + (1 + size g.rest))
      (omega arith) (omega arith)
      (bytes_more n p q c d (b ∷ short) short (placeholders g.rest) (size g.rest) less (later q g.rest g.is)))

  brace_kept : (p q : Place) (c : ℕ) (own : List Mark) → marks n p (b ∷ bytes) ≡ before (Brace c) (marks n q bytes) →
      marks n p (b ∷ short) ≡ before (Brace c) (marks n q short) → marks n p (b ∷ bytes) ≡ Some own →
      IsRead n p (b ∷ short) (placeholders own) (size own)
  brace_kept p q c own whole less is =
      let f = parts (Brace c) (marks n q bytes) own (sym whole ∙ is) in
      subst (λ l. IsRead n p (b ∷ short) (placeholders l) (size l)) (sym f.all)
      (brace_more n p q c (b ∷ short) short (placeholders f.rest) (size f.rest) less (later q f.rest f.is))

  hole_kept : (p q : Place) (k : ℕ) (own : List Mark) → marks n p (b ∷ bytes) ≡ before (Placeholder k) (marks n q bytes) →
      marks n p (b ∷ short) ≡ before (Placeholder k) (marks n q short) → marks n p (b ∷ bytes) ≡ Some own →
      IsRead n p (b ∷ short) (placeholders own) (size own)
  hole_kept p q k own whole less is =
      let f = parts (Placeholder k) (marks n q bytes) own (sym whole ∙ is) in
      subst (λ l. IsRead n p (b ∷ short) (placeholders l) (size l)) (sym f.all)
      (hole_more n p q k (b ∷ short) short (placeholders f.rest) (size f.rest) less (later q f.rest f.is))

  moved_kept : (p q : Place) (own : List Mark) → marks n p (b ∷ bytes) ≡ marks n q bytes → marks n p (b ∷ short) ≡ marks n q short →
      marks n p (b ∷ bytes) ≡ Some own → IsRead n p (b ∷ short) (placeholders own) (size own)
  moved_kept p q own whole less is = moved n p q (b ∷ short) short (placeholders own) (size own) less (later q own (sym whole ∙ is))

  none_kept : (p : Place) (own : List Mark) → marks n p (b ∷ bytes) ≡ None → marks n p (b ∷ bytes) ≡ Some own → IsRead n p (b ∷ short) (placeholders own) (size own)
  none_kept p own none is = absurd cc

  -- the same byte stands before them
  front_kept : (p : Place) (own : List Mark) → marks n p (b ∷ bytes) ≡ Some own → IsRead n p (b ∷ short) (placeholders own) (size own)
  front_kept Plain own is = by_test (nat_eq b 92) (nat_eq b 123) refl refl
    where
      by_test : (t u : Bool) → nat_eq b 92 ≡ t → nat_eq b 123 ≡ u → IsRead n Plain (b ∷ short) (placeholders own) (size own)
      by_test true u i j = moved_kept Plain Behind own (rw i refl) (rw i refl) is
      by_test false true i j = moved_kept Plain Opened own (rw (i, j) refl) (rw (i, j) refl) is
      by_test false false i j = byte_kept Plain Plain b own (rw (i, j) refl) (rw (i, j) refl) is
  front_kept Behind own is = by_test (is_brace b) refl
    where
      by_test : (t : Bool) → is_brace b ≡ t → IsRead n Behind (b ∷ short) (placeholders own) (size own)
      by_test true i = brace_kept Behind Plain b own (rw i refl) (rw i refl) is
      by_test false i = bytes_kept Behind Plain 92 b own (rw i refl) (rw i refl) is
  front_kept Opened own is = by_test (is_digit b) refl
    where
      by_test : (t : Bool) → is_digit b ≡ t → IsRead n Opened (b ∷ short) (placeholders own) (size own)
      by_test true i = moved_kept Opened (Digits (b - 48)) own (rw i refl) (rw i refl) is
      by_test false i = none_kept Opened own (rw i refl) is
  front_kept (Digits k) own is = by_test (nat_eq b 125) (nat_lt k n) (is_digit b && not (nat_eq k 0)) refl refl refl
    where
      by_test : (t u v : Bool) → nat_eq b 125 ≡ t → nat_lt k n ≡ u → (is_digit b && not (nat_eq k 0)) ≡ v →
          IsRead n (Digits k) (b ∷ short) (placeholders own) (size own)
      by_test true true v i j l = hole_kept (Digits k) Plain k own (rw (i, j) refl) (rw (i, j) refl) is
      by_test true false v i j l = none_kept (Digits k) own (rw (i, j) refl) is
      by_test false u true i j l = moved_kept (Digits k) (Digits (k * 10 + (b - 48))) own (rw (i, l) refl) (rw (i, l) refl) is
      by_test false u false i j l = none_kept (Digits k) own (rw (i, l) refl) is

-- nothing is read in place of blanks
blanks_less : (n b : ℕ) (bytes : List ℕ) (p : Place) (own : List Mark) → is_blank b ≡ true → marks n p (b ∷ bytes) ≡ Some own →
    IsRead n p [] (placeholders own) (size own)
blanks_less n b bytes Plain own blank is = none_read n (placeholders own) (size own)
blanks_less n b bytes Behind own blank is =
    let two = blank_is b (λ x. marks n Behind (x ∷ bytes) ≡ before (Stands 92) (before (Stands x) (marks n Plain bytes))) refl refl blank in
    let f = parts (Stands 92) (before (Stands b) (marks n Plain bytes)) own (sym two ∙ is) in
    record { own = Stands 92 ∷ []; is = refl; few = omega arith; small = subst (λ l. 1 ≤ size l) (sym f.all) (omega arith) }
blanks_less n b bytes Opened own blank is =
    let none = blank_is b (λ x. marks n Opened (x ∷ bytes) ≡ None) refl refl blank in absurd cc
blanks_less n b bytes (Digits k) own blank is =
    let none = blank_is b (λ x. marks n (Digits k) (x ∷ bytes) ≡ None) refl refl blank in absurd cc

first_blank : (b : ℕ) (bytes : List ℕ) → list_all is_blank (b ∷ bytes) ≡ true → is_blank b ≡ true
first_blank b bytes is = by_test (is_blank b) refl
  where
    by_test : (t : Bool) → is_blank b ≡ t → is_blank b ≡ true
    by_test true t = t
    by_test false t = let h = rw t at is in absurd cc

-- without the blanks at the end
trailing_read : (n : ℕ) (bytes : List ℕ) → Later n bytes (without_trailing bytes)
trailing_read n [] = λ p own is. record { own = own; is = is; few = omega arith; small = omega arith }
trailing_read n (b ∷ bytes) = by_test (trailing_read n bytes) (list_all is_blank (b ∷ bytes)) refl
  where
    by_test : Later n bytes (without_trailing bytes) → (t : Bool) → list_all is_blank (b ∷ bytes) ≡ t →
        Later n (b ∷ bytes) (without_trailing (b ∷ bytes))
    by_test later true t = rw t (λ p own is. blanks_less n b bytes p own (first_blank b bytes t) is)
    by_test later false t = rw t (front_kept n b bytes (without_trailing bytes) later)

-- without those at the front
leading_read : (n : ℕ) (bytes : List ℕ) (few most : ℕ) → IsRead n Plain bytes few most → IsRead n Plain (past_leading bytes) few most
leading_read n [] few most r = r
leading_read n (b ∷ bytes) few most r = by_test (leading_read n bytes few most) (is_blank b) refl
  where
    by_test : (IsRead n Plain bytes few most → IsRead n Plain (past_leading bytes) few most) → (t : Bool) → is_blank b ≡ t →
        IsRead n Plain (past_leading (b ∷ bytes)) few most
    by_test later true t =
        let one = blank_is b (λ x. marks n Plain (x ∷ bytes) ≡ before (Stands x) (marks n Plain bytes)) refl refl t in
        let f = parts (Stands b) (marks n Plain bytes) r.own (sym one ∙ r.is) in
        let less : IsRead n Plain bytes few most = record {
          own = f.rest;
          is = f.is;
          few = omega (arith, r.few, ap placeholders f.all);
          small = omega (arith, r.small, ap size f.all);
        } in
        rw t (later less)
    by_test later false t = rw t r

-- a text stays a template between its blanks
pub trimmed_read : (n : ℕ) (bytes : List ℕ) (few most : ℕ) → IsRead n Plain bytes few most → IsRead n Plain (trimmed bytes) few most
trimmed_read n bytes few most r =
    leading_read n (without_trailing bytes) few most (
    weaker n Plain (without_trailing bytes) (placeholders r.own) (size r.own) few most r.few r.small (trailing_read n bytes Plain r.own r.is)
    )

-- what is read so, with at most 16 placeholders and 65,536 bytes, is a template
pub text_read : (n : ℕ) (bytes : List ℕ) (few : ℕ) → n ≤ 16 → few ≤ 64 → IsRead n Plain bytes few 65536 → IsText bytes n
text_read n bytes few h g r = record {
  few = h;
  template = rw (r.is, le-leb (placeholders r.own) 64 (omega (arith, r.few)), le-leb (size r.own) 65536 r.small) refl;
}

-- A template's text is read exactly as it is written.
use Rattle.std.proofs.Common.{◌≡◌, ℕ, ◌+◌, ◌*◌, ◌-◌, ◌<◌, ◌≤◌, Bool, true, false, not, ◌&&◌, nat_eq, nat_lt, List, [], ◌∷◌, ◌++◌, Option, Some, None, refl, sym, ap, ◌∙◌, subst, arith, append_assoc}
use Rattle.std.specs.List.{list_all}
use Rattle.std.proofs.lemmas.Bool.Decides.{nat_tests}
use Rattle.yarn_value.specs.Numbers.{is_digit, are_digits, value_after}
use Rattle.yarn_value.specs.Templates.{Mark, Stands, Brace, Placeholder, Plain, Behind, Opened, Digits, marks, before, is_brace}
use Rattle.yarn_value.specs.TemplateSpelling.{Written, Itself, Pair, Numbered, spelling, marks_of, no_spare_zero, IsProper, AllProper, spelled, all_marks, end_text, end_marks, IsSpelled, MarksAreSpelled}

differs : (a b : ℕ) → ¬ (a ≡ b) → nat_eq a b ≡ false
differs a b h = grind (arith, nat_tests)

same : (a b : ℕ) → nat_eq a b ≡ true → a ≡ b
same a b h = grind (arith, nat_tests)

apart : (a b : ℕ) → nat_eq a b ≡ false → ¬ (a ≡ b)
apart a b h e = grind (arith, nat_tests)

below : (a b : ℕ) → a < b → nat_lt a b ≡ true
below a b h = grind (arith, nat_tests)

is_below : (a b : ℕ) → nat_lt a b ≡ true → a < b
is_below a b h = grind (arith, nat_tests)

both : (a b : Bool) → (a && b) ≡ true → (a ≡ true) × (b ≡ true)
both true b h = (refl, h)
both false b h = absurd cc

digit_no_end : (b : ℕ) → is_digit b ≡ true → nat_eq b 125 ≡ false
digit_no_end b h = grind (arith, nat_tests)

digit_bounds : (b : ℕ) → is_digit b ≡ true → (48 ≤ b) × (b ≤ 57)
digit_bounds b h = grind (arith, nat_tests)

-- ---- what is written is read

module _ (holes : ℕ) where
  digits_read : (k : ℕ) (digits rest : List ℕ) → list_all is_digit digits ≡ true → (k ≡ 0 → digits ≡ []) → value_after k digits < holes →
      marks holes (Digits k) (digits ++ 125 ∷ rest) ≡ before (Placeholder (value_after k digits)) (marks holes Plain rest)
  digits_read k [] rest all spare small = rw (below k holes small) refl
  digits_read k (d ∷ digits) rest all spare small =
      let parts = both (is_digit d) (list_all is_digit digits) all in
      let some : nat_eq k 0 ≡ false = differs k 0 (λ e. cons_is_not (spare e)) in
      rw (digit_no_end d parts.0, parts.0, some) (digits_read (k * 10 + (d - 48)) digits rest parts.1 (λ e. absurd (apart k 0 some (omega arith))) small)
    where
      cons_is_not : d ∷ digits ≡ [] → ⊥
      cons_is_not e = absurd cc

  pair_read : (b : ℕ) (rest : List ℕ) (found : List Mark) → marks holes Plain rest ≡ Some found → marks holes Behind (b ∷ rest) ≡ Some (marks_of (Pair b) ++ found)
  pair_read b rest found h = by_test (is_brace b) refl
    where
      by_test : (t : Bool) → is_brace b ≡ t → marks holes Behind (b ∷ rest) ≡ Some (marks_of (Pair b) ++ found)
      by_test true is = rw is (ap (before (Brace b)) h)
      by_test false is = rw is (ap (λ o. before (Stands 92) (before (Stands b) o)) h)

  numbered_read : (digits rest : List ℕ) (found : List Mark) → IsProper holes (Numbered digits) → marks holes Plain rest ≡ Some found →
      marks holes Opened (digits ++ 125 ∷ rest) ≡ Some (Placeholder (value_after 0 digits) ∷ found)
  numbered_read [] rest found proper h = absurd (false_is_not proper.0)
    where
      false_is_not : false ≡ true → ⊥
      false_is_not e = absurd cc
  numbered_read (d ∷ digits) rest found proper h =
      let parts = both (is_digit d) (list_all is_digit digits) proper.0 in
      let value : 0 * 10 + (d - 48) ≡ d - 48 = omega arith in
      let small : value_after (d - 48) digits < holes = subst (λ n. value_after n digits < holes) value proper.2 in
      let read : marks holes (Digits (d - 48)) (digits ++ 125 ∷ rest) ≡ Some (Placeholder (value_after (d - 48) digits) ∷ found) =
      digits_read (d - 48) digits rest parts.1 (λ e. alone d digits (digit_bounds d parts.0).0 e proper.1) small ∙ ap (before (Placeholder (value_after (d - 48) digits))) h in
      rw (parts.0, value) read
    where
      alone : (d : ℕ) (digits : List ℕ) → 48 ≤ d → d - 48 ≡ 0 → no_spare_zero (d ∷ digits) ≡ true → digits ≡ []
      alone d [] least e h = refl
      alone d (x ∷ digits) least e h = absurd (not_both (nat_eq d 48) (equal d 48 (omega arith)) h)
        where
          equal : (a b : ℕ) → a ≡ b → nat_eq a b ≡ true
          equal a b e = grind (arith, nat_tests)

          not_both : (t : Bool) → t ≡ true → not t ≡ true → ⊥
          not_both true e h = absurd cc
          not_both false e h = absurd cc

  spelled_read : (pieces : List Written) (lone : Bool) → AllProper holes pieces → marks holes Plain (spelled pieces (end_text lone)) ≡ Some (all_marks pieces (end_marks lone))
  spelled_read [] true proper = refl
  spelled_read [] false proper = refl
  spelled_read (Itself b ∷ pieces) lone proper =
      rw (differs b 92 proper.0.0, differs b 123 proper.0.1) (ap (before (Stands b)) (spelled_read pieces lone proper.1))
  spelled_read (Pair b ∷ pieces) lone proper = pair_read b (spelled pieces (end_text lone)) (all_marks pieces (end_marks lone)) (spelled_read pieces lone proper.1)
  spelled_read (Numbered digits ∷ pieces) lone proper =
      ap (marks holes Opened) (append_assoc digits (125 ∷ []) (spelled pieces (end_text lone)))
      ∙ numbered_read digits (spelled pieces (end_text lone)) (all_marks pieces (end_marks lone)) proper.0 (spelled_read pieces lone proper.1)

-- ---- what is read was written

before_some : (m : Mark) (o : Option (List Mark)) (found : List Mark) → before m o ≡ Some found → (rest : List Mark) × (o ≡ Some rest) × (found ≡ m ∷ rest)
before_some m None found h = absurd cc
before_some m (Some rest) found h = let e : found ≡ m ∷ rest = cc in (rest, refl, e)

none_is_not : (found : List Mark) → None ≡ Some found → ⊥
none_is_not found h = absurd cc

some_is : (a b : List Mark) → Some a ≡ Some b → b ≡ a
some_is a b h = cc

module _ (holes : ℕ) where
  -- the digits that follow those of a number so far
  record IsNumbered (k : ℕ) (text : List ℕ) (found : List Mark) : Type 0 where
    pub more : List ℕ
    pub rest : List ℕ
    pub behind : List Mark
    pub digits : list_all is_digit more ≡ true
    pub spare : k ≡ 0 → more ≡ []
    pub small : value_after k more < holes
    pub text_is : text ≡ more ++ 125 ∷ rest
    pub marks_are : found ≡ Placeholder (value_after k more) ∷ behind
    pub after : IsSpelled holes rest behind

  record IsRead (text : List ℕ) : Type 0 where
    pub plain : (found : List Mark) → marks holes Plain text ≡ Some found → IsSpelled holes text found
    pub behind : (found : List Mark) → marks holes Behind text ≡ Some found → IsSpelled holes (92 ∷ text) found
    pub opened : (found : List Mark) → marks holes Opened text ≡ Some found → IsSpelled holes (123 ∷ text) found
    pub digits : (k : ℕ) (found : List Mark) → marks holes (Digits k) text ≡ Some found → IsNumbered k text found

  piece_before : (piece : Written) (text : List ℕ) (found : List Mark) → IsProper holes piece → IsSpelled holes text found → IsSpelled holes (spelling piece ++ text) (marks_of piece ++ found)
  piece_before piece text found proper is = record {
    pieces = piece ∷ is.pieces;
    lone = is.lone;
    proper = (proper, is.proper);
    text_is = ap (λ l. spelling piece ++ l) is.text_is;
    marks_are = ap (λ l. marks_of piece ++ l) is.marks_are;
  }

  empty_read : IsRead []
  empty_read = record {
    plain = λ found h. record { pieces = []; lone = false; proper = tt; text_is = refl; marks_are = some_is [] found h };
    behind = λ found h. record { pieces = []; lone = true; proper = tt; text_is = refl; marks_are = some_is (Stands 92 ∷ []) found h };
    opened = λ found h. absurd (none_is_not found h);
    digits = λ k found h. absurd (none_is_not found h);
  }

  module _ (b : ℕ) (text : List ℕ) (is : IsRead text) where
    plain_read : (found : List Mark) → marks holes Plain (b ∷ text) ≡ Some found → IsSpelled holes (b ∷ text) found
    plain_read found h = by_backslash (nat_eq b 92) refl
      where
        by_opening : (t : Bool) → nat_eq b 123 ≡ t → nat_eq b 92 ≡ false → IsSpelled holes (b ∷ text) found
        by_opening true e f = subst (λ x. IsSpelled holes (x ∷ text) found) (sym (same b 123 e)) (is.opened found (rw (f, e) at h))
        by_opening false e f =
            let parts = before_some (Stands b) (marks holes Plain text) found (rw (f, e) at h) in
            subst (IsSpelled holes (b ∷ text)) (sym parts.2) (piece_before (Itself b) text parts.0 (apart b 92 f, apart b 123 e) (is.plain parts.0 parts.1))

        by_backslash : (t : Bool) → nat_eq b 92 ≡ t → IsSpelled holes (b ∷ text) found
        by_backslash true e = subst (λ x. IsSpelled holes (x ∷ text) found) (sym (same b 92 e)) (is.behind found (rw e at h))
        by_backslash false e = by_opening (nat_eq b 123) refl e

    behind_read : (found : List Mark) → marks holes Behind (b ∷ text) ≡ Some found → IsSpelled holes (92 ∷ b ∷ text) found
    behind_read found h = by_test (is_brace b) refl
      where
        by_test : (t : Bool) → is_brace b ≡ t → IsSpelled holes (92 ∷ b ∷ text) found
        by_test true e =
            let parts = before_some (Brace b) (marks holes Plain text) found (rw e at h) in
            let pair : marks_of (Pair b) ≡ Brace b ∷ [] = rw e refl in
            subst (IsSpelled holes (92 ∷ b ∷ text)) (ap (λ l. l ++ parts.0) pair ∙ sym parts.2) (piece_before (Pair b) text parts.0 tt (is.plain parts.0 parts.1))
        by_test false e =
            let first = before_some (Stands 92) (before (Stands b) (marks holes Plain text)) found (rw e at h) in
            let parts = before_some (Stands b) (marks holes Plain text) first.0 first.1 in
            let pair : marks_of (Pair b) ≡ Stands 92 ∷ Stands b ∷ [] = rw e refl in
            subst (IsSpelled holes (92 ∷ b ∷ text)) (ap (λ l. l ++ parts.0) pair ∙ ap (λ l. Stands 92 ∷ l) (sym parts.2) ∙ sym first.2) (piece_before (Pair b) text parts.0 tt (is.plain parts.0 parts.1))

    opened_read : (found : List Mark) → marks holes Opened (b ∷ text) ≡ Some found → IsSpelled holes (123 ∷ b ∷ text) found
    opened_read found h = by_test (is_digit b) refl
      where
        by_number : is_digit b ≡ true → IsNumbered (b - 48) text found → IsSpelled holes (123 ∷ b ∷ text) found
        by_number e n =
            let value : 0 * 10 + (b - 48) ≡ b - 48 = omega arith in
            let all : are_digits (b ∷ n.more) ≡ true = rw e n.digits in
            let small : value_after 0 (b ∷ n.more) < holes = subst (λ x. value_after x n.more < holes) (sym value) n.small in
            let whole : 123 ∷ b ∷ text ≡ spelling (Numbered (b ∷ n.more)) ++ n.rest = ap (λ l. 123 ∷ b ∷ l) (n.text_is ∙ sym (append_assoc n.more (125 ∷ []) n.rest)) in
            let mark : found ≡ Placeholder (value_after 0 (b ∷ n.more)) ∷ n.behind = n.marks_are ∙ ap (λ x. Placeholder (value_after x n.more) ∷ n.behind) (sym value) in
            let piece : IsSpelled holes (spelling (Numbered (b ∷ n.more)) ++ n.rest) (Placeholder (value_after 0 (b ∷ n.more)) ∷ n.behind) =
            piece_before (Numbered (b ∷ n.more)) n.rest n.behind (all, alone b n.more (λ zero. n.spare (omega arith)), small) n.after in
            subst (λ l. IsSpelled holes l found) (sym whole) (subst (IsSpelled holes (spelling (Numbered (b ∷ n.more)) ++ n.rest)) (sym mark) piece)
          where
            alone : (b : ℕ) (more : List ℕ) → (b ≡ 48 → more ≡ []) → no_spare_zero (b ∷ more) ≡ true
            alone b [] none = refl
            alone b (x ∷ more) none = rw (differs b 48 (λ e. cons_is_not (none e))) refl
              where
                cons_is_not : x ∷ more ≡ [] → ⊥
                cons_is_not e = absurd cc

        by_test : (t : Bool) → is_digit b ≡ t → IsSpelled holes (123 ∷ b ∷ text) found
        by_test true e = by_number e (is.digits (b - 48) found (rw e at h))
        by_test false e = absurd (none_is_not found (rw e at h))

    digits_found : (k : ℕ) (found : List Mark) → marks holes (Digits k) (b ∷ text) ≡ Some found → IsNumbered k (b ∷ text) found
    digits_found k found h = by_end (nat_eq b 125) refl
      where
        by_size : (t : Bool) → nat_lt k holes ≡ t → nat_eq b 125 ≡ true → IsNumbered k (b ∷ text) found
        by_size true s e =
            let parts = before_some (Placeholder k) (marks holes Plain text) found (rw (e, s) at h) in
            record {
              more = [];
              rest = text;
              behind = parts.0;
              digits = refl;
              spare = λ zero. refl;
              small = is_below k holes s;
              text_is = ap (λ x. x ∷ text) (same b 125 e);
              marks_are = parts.2;
              after = is.plain parts.0 parts.1;
            }
        by_size false s e = absurd (none_is_not found (rw (e, s) at h))

        by_more : is_digit b ≡ true → ¬ (k ≡ 0) → IsNumbered (k * 10 + (b - 48)) text found → IsNumbered k (b ∷ text) found
        by_more d some n = record {
          more = b ∷ n.more;
          rest = n.rest;
          behind = n.behind;
          digits = rw d n.digits;
          spare = λ zero. absurd (some zero);
          small = n.small;
          text_is = ap (λ l. b ∷ l) n.text_is;
          marks_are = n.marks_are;
          after = n.after;
        }

        by_digit : (t : Bool) → (is_digit b && not (nat_eq k 0)) ≡ t → nat_eq b 125 ≡ false → IsNumbered k (b ∷ text) found
        by_digit true d e =
            let parts = both (is_digit b) (not (nat_eq k 0)) d in
            by_more parts.0 (nonzero (nat_eq k 0) refl parts.1) (is.digits (k * 10 + (b - 48)) found (rw (e, d) at h))
          where
            nonzero : (t : Bool) → nat_eq k 0 ≡ t → not t ≡ true → ¬ (k ≡ 0)
            nonzero true z n = absurd cc
            nonzero false z n = apart k 0 z
        by_digit false d e = absurd (none_is_not found (rw (e, d) at h))

        by_end : (t : Bool) → nat_eq b 125 ≡ t → IsNumbered k (b ∷ text) found
        by_end true e = by_size (nat_lt k holes) refl e
        by_end false e = by_digit (is_digit b && not (nat_eq k 0)) refl e

  all_read : (text : List ℕ) → IsRead text
  all_read [] = empty_read
  all_read (b ∷ text) = record {
    plain = plain_read b text (all_read text);
    behind = behind_read b text (all_read text);
    opened = opened_read b text (all_read text);
    digits = digits_found b text (all_read text);
  }

pub marks_are_spelled : MarksAreSpelled
marks_are_spelled holes text found =
    ((λ h. (all_read holes text).plain found h), (λ is. ap (marks holes Plain) is.text_is ∙ spelled_read holes is.pieces is.lone is.proper ∙ ap Some (sym is.marks_are)))

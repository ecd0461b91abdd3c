-- What std's `parse` reads, against the numbers of a variables file, and that a number's decimal digits spell it.
use Rattle.std.proofs.Common.{◌≡◌, ℕ, zero, suc, ◌<◌, ◌≤◌, ◌^◌, ℤ, pos, neg_ℤ, List, [], ◌∷◌, length, get_or, Bool, true, false, ◌&&◌, not, nat_eq, nat_lt, Option, None, Some, Result, Ok, Err, refl, sym, ap, ◌∙◌, arith, rules, true≢false, w64, subst}
use Rattle.std.specs.Prelude.{◌≢◌, MatchOption, codes}
use Rattle.std.specs.List.{list_all}
use Rattle.std.specs.Result.{OkIff, result_ok}
use Rattle.std.specs.Str.Parse.{ParsesSigned}
use Rattle.std.proofs.lemmas.Bool.{eqb-true}
use Rattle.std.proofs.lemmas.Bool.Decides.{nat_tests}
use Rattle.std.proofs.lemmas.Str.Parse.{IsNumeralModel, numerals_by_fold, parse_signed_minus, parse_signed_plain}
use Rattle.yarn_value.specs.Numbers.{fits, is_digit, value_after, digits_value, negated, fitting, signed_number}
use Rattle.yarn_store.specs.Variables.{behind_minus, has_spare_zero, SpellsNumber}
use Rattle.yarn_store.specs.Steps.{IsNumber, begins_plainly, begins_with_zero}

abbrev AreDigits : List ℕ → Type 0
AreDigits ds = list_all is_digit ds ≡ true

pub own : IsNumeralModel AreDigits (value_after 0)
own = numerals_by_fold AreDigits (search rules) value_after (search rules)

-- ---- the digits of a number

pub digits_some : (ds : List ℕ) → AreDigits ds → 0 < length ds → digits_value ds ≡ Some (value_after 0 ds)
digits_some [] all some = absurd (omega arith)
digits_some (d ∷ ds) all some = rw all refl

pub record Digits (ds : List ℕ) (v : ℕ) : Type 0 where
  pub all : AreDigits ds
  pub some : 0 < length ds
  pub value : value_after 0 ds ≡ v

pub digits_only : (ds : List ℕ) (v : ℕ) → digits_value ds ≡ Some v → Digits ds v
digits_only [] v e = absurd cc
digits_only (d ∷ ds) v e = by_test (list_all is_digit (d ∷ ds)) refl
  where
    by_test : (t : Bool) → list_all is_digit (d ∷ ds) ≡ t → Digits (d ∷ ds) v
    by_test true t = let h = rw t at e in record { all = t; some = omega arith; value = cc }
    by_test false t = let h = rw t at e in absurd cc

pub fitting_only : (z n : ℤ) → fitting (Some z) ≡ Some n → (fits z ≡ true) × (z ≡ n)
fitting_only z n e = by_test (fits z) refl
  where
    by_test : (t : Bool) → fits z ≡ t → (fits z ≡ true) × (z ≡ n)
    by_test true t = let h = rw t at e in (t, cc)
    by_test false t = let h = rw t at e in absurd cc

fits-negated : (v : ℕ) → v ≤ 2 ^ 63 → fits (negated v) ≡ true
fits-negated zero le = refl
fits-negated (suc v) le = grind (arith, nat_tests)

negated-fits : (v : ℕ) → fits (negated v) ≡ true → v ≤ 2 ^ 63
negated-fits zero f = omega arith
negated-fits (suc v) f = grind (arith, nat_tests)

fits-pos : (v : ℕ) → v < 2 ^ 63 → fits (pos v) ≡ true
fits-pos v lt = grind (arith, nat_tests)

pos-fits : (v : ℕ) → fits (pos v) ≡ true → v < 2 ^ 63
pos-fits v f = grind (arith, nat_tests)

-- ---- what `parse` reads

-- the number is what the text writes, or it writes none
abbrev Reads : {E : Type 0} → List ℕ → Result ℤ E → Type 0
Reads text (Ok n) = signed_number text ≡ Some n
Reads text (Err e) = (n : ℤ) → signed_number text ≡ Some n → ⊥

pub minus_some : (cs : List ℕ) (v : ℕ) → digits_value cs ≡ Some v → v ≤ 2 ^ 63 → signed_number (45 ∷ cs) ≡ Some (negated v)
minus_some cs v e le = rw (e, fits-negated v le) refl

minus_only : (cs : List ℕ) (n : ℤ) → signed_number (45 ∷ cs) ≡ Some n → AreDigits cs × (0 < length cs) × (value_after 0 cs ≤ 2 ^ 63)
minus_only cs n e = by_digits (digits_value cs) refl
  where
    by_digits : (o : Option ℕ) → digits_value cs ≡ o → AreDigits cs × (0 < length cs) × (value_after 0 cs ≤ 2 ^ 63)
    by_digits None o = let h = rw o at e in absurd cc
    by_digits (Some v) o =
        let h : fitting (Some (negated v)) ≡ Some n = rw o at e in
        let d = digits_only cs v o in
        (d.all, d.some, rw d.value (negated-fits v (fitting_only (negated v) n h).0))

reads-minus : {E : Type 0} (cs : List ℕ) (r : Result ℤ E) → OkIff r (AreDigits cs × (0 < length cs) × (value_after 0 cs ≤ 2 ^ 63)) (neg_ℤ (pos (value_after 0 cs))) → Reads (45 ∷ cs) r
reads-minus cs (Ok n) h = minus_some cs (value_after 0 cs) (digits_some cs h.0.0 h.0.1) h.0.2 ∙ ap Some (sym h.1)
reads-minus cs (Err e) h = λ n is. h (minus_only cs n is)

pub plain_some : (c : ℕ) (cs : List ℕ) → ¬ (c ≡ 45) → AreDigits (c ∷ cs) → value_after 0 (c ∷ cs) < 2 ^ 63 → signed_number (c ∷ cs) ≡ Some (pos (value_after 0 (c ∷ cs)))
plain_some c cs other all lt = by_test (nat_eq c 45) refl
  where
    by_test : (t : Bool) → nat_eq c 45 ≡ t → signed_number (c ∷ cs) ≡ Some (pos (value_after 0 (c ∷ cs)))
    by_test true t = absurd (other (eqb-true c 45 t))
    by_test false t = rw (t, digits_some (c ∷ cs) all (omega arith), fits-pos (value_after 0 (c ∷ cs)) lt) refl

plain_only : (c : ℕ) (cs : List ℕ) (n : ℤ) → ¬ (c ≡ 45) → signed_number (c ∷ cs) ≡ Some n → AreDigits (c ∷ cs) × (0 < length (c ∷ cs)) × (value_after 0 (c ∷ cs) < 2 ^ 63)
plain_only c cs n other e = by_test (nat_eq c 45) refl
  where
    Goal : Type 0
    Goal = AreDigits (c ∷ cs) × (0 < length (c ∷ cs)) × (value_after 0 (c ∷ cs) < 2 ^ 63)

    by_digits : nat_eq c 45 ≡ false → (o : Option ℕ) → digits_value (c ∷ cs) ≡ o → Goal
    by_digits t None o = let h = rw (t, o) at e in absurd cc
    by_digits t (Some v) o =
        let h : fitting (Some (pos v)) ≡ Some n = rw (t, o) at e in
        let d = digits_only (c ∷ cs) v o in
        (d.all, d.some, rw d.value (pos-fits v (fitting_only (pos v) n h).0))

    by_test : (t : Bool) → nat_eq c 45 ≡ t → Goal
    by_test true t = absurd (other (eqb-true c 45 t))
    by_test false t = by_digits t (digits_value (c ∷ cs)) refl

reads-plain : {E : Type 0} (c : ℕ) (cs : List ℕ) (r : Result ℤ E) → ¬ (c ≡ 45) →
    OkIff r (AreDigits (c ∷ cs) × (0 < length (c ∷ cs)) × (value_after 0 (c ∷ cs) < 2 ^ 63)) (pos (value_after 0 (c ∷ cs))) → Reads (c ∷ cs) r
reads-plain c cs (Ok n) other h = plain_some c cs other h.0.0 h.0.2 ∙ ap Some (sym h.1)
reads-plain c cs (Err e) other h = λ n is. h (plain_only c cs n other is)

reads-none : {E : Type 0} (r : Result ℤ E) → OkIff r (AreDigits [] × (0 < length {A = ℕ} []) × (value_after 0 [] < 2 ^ 63)) (pos 0) → Reads [] r
reads-none (Ok n) h = absurd (omega (arith, h.0.1))
reads-none (Err e) h = λ n is. absurd cc

pub reads : {E : Type 0} (text : List ℕ) (r : Result ℤ E) → get_or text 0 0 ≢ 43 → ParsesSigned w64 10 text r → Reads text r
reads [] r plus h = reads-none r (parse_signed_plain own w64 [] r h (λ e. omega arith) (λ e. omega arith))
reads (c ∷ cs) r plus h = by_test (nat_eq c 45) refl
  where
    by_test : (t : Bool) → nat_eq c 45 ≡ t → Reads (c ∷ cs) r
    by_test true t =
        let same : c ≡ 45 = eqb-true c 45 t in
        subst (λ x. Reads (x ∷ cs) r) (sym same) (reads-minus cs r (parse_signed_minus own w64 (c ∷ cs) r h same))
    by_test false t =
        let other : ¬ (c ≡ 45) = λ e. true≢false (sym (ap (λ x. nat_eq x 45) e) ∙ t) in
        reads-plain c cs r other (parse_signed_plain own w64 (c ∷ cs) r h plus other)

-- ---- the one spelling

and_both : (a b : Bool) → (a && b) ≡ true → (a ≡ true) × (b ≡ true)
and_both true true e = (refl, refl)
and_both true false e = absurd cc
and_both false b e = absurd cc

not_so : (a : Bool) → not a ≡ true → a ≡ false
not_so true e = absurd cc
not_so false e = refl

some_length : (ds : List ℕ) → nat_lt 0 (length ds) ≡ false → ds ≡ []
some_length [] e = refl
some_length (d ∷ ds) e = absurd (grind (arith, nat_tests))

pub plain_plus : (text : List ℕ) → begins_plainly text ≡ true → get_or text 0 0 ≢ 43
plain_plus [] e is = omega arith
plain_plus (b ∷ bytes) e is =
    let first = (and_both (not (nat_eq b 43)) (not (nat_eq b 45 && begins_with_zero bytes)) (and_both (not (nat_eq b 43) && not (nat_eq b 45 && begins_with_zero bytes)) (not (nat_eq b 48 && nat_lt 0 (length bytes))) e).0).0 in
    let h = rw (is) at (not_so (nat_eq b 43) first) in
    true≢false h

minus_zero : (bytes : List ℕ) → begins_with_zero bytes ≡ false → has_spare_zero bytes ≡ false
minus_zero [] e = refl
minus_zero (b ∷ bytes) e = rw e refl

pub plain_spared : (text : List ℕ) → begins_plainly text ≡ true → has_spare_zero (behind_minus text) ≡ false
plain_spared [] e = refl
plain_spared (b ∷ bytes) e =
    let both = and_both (not (nat_eq b 43) && not (nat_eq b 45 && begins_with_zero bytes)) (not (nat_eq b 48 && nat_lt 0 (length bytes))) e in
    let front = and_both (not (nat_eq b 43)) (not (nat_eq b 45 && begins_with_zero bytes)) both.0 in
    by_test (not_so (nat_eq b 45 && begins_with_zero bytes) front.1) (not_so (nat_eq b 48 && nat_lt 0 (length bytes)) both.1) (nat_eq b 45) refl
  where
    by_test : (nat_eq b 45 && begins_with_zero bytes) ≡ false → (nat_eq b 48 && nat_lt 0 (length bytes)) ≡ false →
        (t : Bool) → nat_eq b 45 ≡ t → has_spare_zero (behind_minus (b ∷ bytes)) ≡ false
    by_test minus spare true t = rw t (minus_zero bytes (rw t at minus))
    by_test minus spare false t = rw t spare

pub plain_minus_zero : (text : List ℕ) → begins_plainly text ≡ true → text ≡ codes "-0" → ⊥
plain_minus_zero text e is = let h = rw is at e in absurd cc

pub not_plain : (text : List ℕ) → begins_plainly text ≡ false → IsNumber text → ⊥
not_plain [] e is = absurd cc
not_plain (b ∷ bytes) e (n, spells) = by_plus (nat_eq b 43) refl
  where
    by_zero : (zs : List ℕ) → begins_with_zero zs ≡ true → SpellsNumber (45 ∷ zs) n → ⊥
    by_zero [] z s = absurd cc
    by_zero (d ∷ ds) z s = by_more (some_length ds) (nat_lt 0 (length ds)) refl
      where
        zero_is : d ≡ 48
        zero_is = eqb-true d 48 z

        by_more : (nat_lt 0 (length ds) ≡ false → ds ≡ []) → (t : Bool) → nat_lt 0 (length ds) ≡ t → ⊥
        by_more none true t = let h = rw (z, t) at s.no_spare_zero in true≢false h
        by_more none false t = let none : ds ≡ [] = none t in s.no_minus_zero (rw (zero_is, none) refl)

    spare : nat_eq b 43 ≡ false → nat_eq b 45 ≡ false → (u : Bool) → (nat_eq b 48 && nat_lt 0 (length bytes)) ≡ u → ⊥
    spare p m true u = let h = rw (m, u) at spells.no_spare_zero in true≢false h
    spare p m false u = let h = rw (p, m, u) at e in true≢false h

    minus : nat_eq b 43 ≡ false → nat_eq b 45 ≡ true → (z : Bool) → begins_with_zero bytes ≡ z → (u : Bool) → nat_eq b 48 ≡ u → ⊥
    minus p m true z u q = let same : b ≡ 45 = eqb-true b 45 m in by_zero bytes z (subst (λ x. SpellsNumber (x ∷ bytes) n) same spells)
    minus p m false z true q = let h : ◌≡◌ {A = ℕ} 45 48 = sym (eqb-true b 45 m) ∙ eqb-true b 48 q in omega (arith, h)
    minus p m false z false q = let h = rw (p, m, z, q) at e in true≢false h

    by_minus : nat_eq b 43 ≡ false → (t : Bool) → nat_eq b 45 ≡ t → ⊥
    by_minus p true t = minus p t (begins_with_zero bytes) refl (nat_eq b 48) refl
    by_minus p false t = spare p t (nat_eq b 48 && nat_lt 0 (length bytes)) refl

    plus_none : (c : ℕ) → c ≡ 43 → signed_number (c ∷ bytes) ≡ None
    plus_none c is = rw is refl

    by_plus : (t : Bool) → nat_eq b 43 ≡ t → ⊥
    by_plus true t = let h : None ≡ Some n = sym (plus_none b (eqb-true b 43 t)) ∙ spells.number in absurd cc
    by_plus false t = by_minus t (nat_eq b 45) refl

pub found_number : {E : Type 0} (text : List ℕ) (r : Result ℤ E) → begins_plainly text ≡ true → Reads text r →
    MatchOption (result_ok r) (¬ IsNumber text) (λ n. SpellsNumber text n)
found_number text (Ok n) plain h = record { number = h; no_spare_zero = plain_spared text plain; no_minus_zero = plain_minus_zero text plain }
found_number text (Err e) plain h = λ number. h number.0 number.1.number

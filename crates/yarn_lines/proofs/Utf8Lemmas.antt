-- Which parts of a text are UTF-8: its pieces, and what stands between the blanks of one.
use Rattle.std.proofs.Common.{◌≡◌, ℕ, zero, suc, ◌+◌, ◌<◌, ◌≤◌, List, [], ◌∷◌, ◌++◌, length, take, drop, Bool, true, false, nat_eq, None, Result, Ok, Err, MatchResult, ◌⊎◌, inl, inr, refl, sym, ap, subst, ◌∙◌, arith, add-one, get_or, IsUtf8}
use Rattle.std.specs.Str.{is_utf8, IsCharBoundary}
use Rattle.std.specs.Result.{is_ok}
use Rattle.std.proofs.lemmas.Bool.{eqb-true, cases_lt}
use Rattle.std.proofs.lemmas.List.{take-append-drop, take_all, drop_all, drop_more, length-drop}
use Rattle.std.proofs.lemmas.Str.{IsUtf8-append, IsUtf8-from_is_utf8, is_utf8-from_IsUtf8, IsUtf8-nil, IsUtf8-take, IsUtf8-drop, IsCharBoundary-before_ascii, IsCharBoundary-after_ascii}
use Rattle.yarn_lines.specs.Lines.{pieces_of, first_from}
use Rattle.yarn_lines.specs.Piece.{length_to_lf}
use Rattle.yarn_lines.specs.Fault.{is_bad}
use Rattle.yarn_lines.proofs.PieceLemmas.{pieces_of-cut, pieces_of-last, pieces_of-first, first_from-none}

pub is_utf8-no : (bytes : List ℕ) → (IsUtf8 bytes → ⊥) → is_utf8 bytes ≡ false
is_utf8-no bytes refuse = by_test (is_utf8 bytes) refl
  where
    by_test : (is : Bool) → is_utf8 bytes ≡ is → is_utf8 bytes ≡ false
    by_test true is = absurd (refuse (IsUtf8-from_is_utf8 bytes is))
    by_test false is = is

pub is_ok-is_utf8 : {T E : Type 0} (P : T → Type 0) (Q : E → Type 0) (bytes : List ℕ) (r : Result T E) →
    MatchResult r (λ s. P s × IsUtf8 bytes) (λ e. (IsUtf8 bytes → ⊥) × Q e) → is_ok r ≡ is_utf8 bytes
is_ok-is_utf8 P Q bytes (Ok s) cases = sym (is_utf8-from_IsUtf8 bytes cases.1)
is_ok-is_utf8 P Q bytes (Err e) cases = sym (is_utf8-no bytes cases.0)

pub length_to_lf-lf : (bytes : List ℕ) → length_to_lf bytes < length bytes → get_or bytes (length_to_lf bytes) 0 ≡ 10
length_to_lf-lf [] lt = absurd (omega arith)
length_to_lf-lf (b ∷ bytes) lt = by_test (length_to_lf-lf bytes) (nat_eq b 10) refl
  where
    by_test : (length_to_lf bytes < length bytes → get_or bytes (length_to_lf bytes) 0 ≡ 10) → (is : Bool) → nat_eq b 10 ≡ is →
        get_or (b ∷ bytes) (length_to_lf (b ∷ bytes)) 0 ≡ 10
    by_test later true is = rw is (eqb-true b 10 is)
    by_test later false is =
        let shorter : length_to_lf bytes < length bytes = let h = rw is at lt in omega arith in
        rw (is, add-one) (later shorter)

boundary_at_lf : (bytes : List ℕ) → length_to_lf bytes < length bytes → IsCharBoundary bytes (length_to_lf bytes)
boundary_at_lf bytes lt = IsCharBoundary-before_ascii bytes (length_to_lf bytes) lt (omega (arith, length_to_lf-lf bytes lt))

boundary_behind_lf : (bytes : List ℕ) → IsUtf8 bytes → length_to_lf bytes < length bytes → IsCharBoundary bytes (length_to_lf bytes + 1)
boundary_behind_lf bytes utf8 lt = IsCharBoundary-after_ascii bytes (length_to_lf bytes) utf8 lt (omega (arith, length_to_lf-lf bytes lt))

newline_utf8 : IsUtf8 (10 ∷ [])
unfolding lib.Utf8.encode
newline_utf8 = (10 ∷ [], (refl, refl))

utf8_join : (bytes : List ℕ) (end : ℕ) → end < length bytes → get_or bytes end 0 ≡ 10 →
    IsUtf8 (take end bytes) → IsUtf8 (drop (end + 1) bytes) → IsUtf8 bytes
utf8_join bytes end lt lf front back =
    let joined = IsUtf8-append (take end bytes) (10 ∷ drop (end + 1) bytes) front (IsUtf8-append (10 ∷ []) (drop (end + 1) bytes) newline_utf8 back) in
    let same : take end bytes ++ 10 ∷ drop (end + 1) bytes ≡ bytes =
    ap (λ b. take end bytes ++ b ∷ drop (end + 1) bytes) (sym lf) ∙ ap (λ l. take end bytes ++ l) (sym (drop_more bytes end 0 lt)) ∙ take-append-drop end bytes in
    subst IsUtf8 same joined

good_past : (n : ℕ) (piece : List ℕ) (pieces : List (List ℕ)) → IsUtf8 piece → first_from is_bad n (piece ∷ pieces) ≡ first_from is_bad (n + 1) pieces
good_past n piece pieces utf8 = let is = is_utf8-from_IsUtf8 piece utf8 in rw is refl

good_front : (n : ℕ) (piece : List ℕ) (pieces : List (List ℕ)) → first_from is_bad n (piece ∷ pieces) ≡ None →
    IsUtf8 piece × (first_from is_bad (n + 1) pieces ≡ None)
good_front n piece pieces none =
    let parts = first_from-none is_bad n piece pieces none in
    (IsUtf8-from_is_utf8 piece (by_test (is_utf8 piece) refl parts.0), parts.1)
  where
    by_test : (is : Bool) → is_utf8 piece ≡ is → is_bad piece ≡ false → is_utf8 piece ≡ true
    by_test true is good = is
    by_test false is good = let h = rw is at good in absurd cc

-- the first piece of UTF-8, and what stands behind it
pub utf8_first : (bytes : List ℕ) → IsUtf8 bytes → IsUtf8 (take (length_to_lf bytes) bytes) × IsUtf8 (drop (length_to_lf bytes + 1) bytes)
utf8_first bytes utf8 = by_end (cases_lt (length_to_lf bytes) (length bytes))
  where
    by_end : (length_to_lf bytes < length bytes) ⊎ (length bytes ≤ length_to_lf bytes) →
        IsUtf8 (take (length_to_lf bytes) bytes) × IsUtf8 (drop (length_to_lf bytes + 1) bytes)
    by_end (inl lt) = (
      IsUtf8-take bytes (length_to_lf bytes) utf8 (boundary_at_lf bytes lt),
      IsUtf8-drop bytes (length_to_lf bytes + 1) utf8 (boundary_behind_lf bytes utf8 lt),
    )
    by_end (inr ge) = (
      subst IsUtf8 (sym (take_all (length_to_lf bytes) bytes ge)) utf8,
      subst IsUtf8 (sym (drop_all (length_to_lf bytes + 1) bytes (omega arith))) IsUtf8-nil,
    )

none_step : (most n : ℕ) (all : List ℕ) → 0 < length all → length all ≤ suc most → IsUtf8 all →
    ((rest : List ℕ) (m : ℕ) → length rest ≤ most → IsUtf8 rest → first_from is_bad m (pieces_of rest) ≡ None) →
    first_from is_bad n (pieces_of all) ≡ None
none_step most n all some le utf8 later =
    let end = length_to_lf all in
    let parts = utf8_first all utf8 in
    let shorter : length (drop (end + 1) all) ≤ most = omega (arith, length-drop (end + 1) all) in
    ap (first_from is_bad n) (pieces_of-first all some) ∙ good_past n (take end all) (pieces_of (drop (end + 1) all)) parts.0
    ∙ later (drop (end + 1) all) (n + 1) shorter parts.1

-- no line of UTF-8 is bad
first_bad-within : (most : ℕ) (bytes : List ℕ) (n : ℕ) → length bytes ≤ most → IsUtf8 bytes → first_from is_bad n (pieces_of bytes) ≡ None
first_bad-within most [] n le utf8 = refl
first_bad-within zero (b ∷ bytes) n le utf8 = absurd (omega arith)
first_bad-within (suc most) (b ∷ bytes) n le utf8 =
    none_step most n (b ∷ bytes) (omega arith) le utf8 (λ rest m. first_bad-within most rest m)

pub first_bad-none : (bytes : List ℕ) (n : ℕ) → IsUtf8 bytes → first_from is_bad n (pieces_of bytes) ≡ None
first_bad-none bytes n utf8 = first_bad-within (length bytes) bytes n (omega arith) utf8

only_step : (most n : ℕ) (all : List ℕ) → 0 < length all → length all ≤ suc most → first_from is_bad n (pieces_of all) ≡ None →
    ((rest : List ℕ) (m : ℕ) → length rest ≤ most → first_from is_bad m (pieces_of rest) ≡ None → IsUtf8 rest) → IsUtf8 all
only_step most n all some le none later = by_end (cases_lt (length_to_lf all) (length all))
  where
    by_end : (length_to_lf all < length all) ⊎ (length all ≤ length_to_lf all) → IsUtf8 all
    by_end (inl lt) =
        let end = length_to_lf all in
        let here = good_front n (take end all) (pieces_of (drop (end + 1) all)) (sym (ap (first_from is_bad n) (pieces_of-cut all lt)) ∙ none) in
        let shorter : length (drop (end + 1) all) ≤ most = omega (arith, length-drop (end + 1) all) in
        utf8_join all end lt (length_to_lf-lf all lt) here.0 (later (drop (end + 1) all) (n + 1) shorter here.1)
    by_end (inr ge) = (good_front n all [] (sym (ap (first_from is_bad n) (pieces_of-last all some ge)) ∙ none)).0

-- bytes without a bad line are UTF-8
only_within : (most : ℕ) (bytes : List ℕ) (n : ℕ) → length bytes ≤ most → first_from is_bad n (pieces_of bytes) ≡ None → IsUtf8 bytes
only_within most [] n le none = IsUtf8-nil
only_within zero (b ∷ bytes) n le none = absurd (omega arith)
only_within (suc most) (b ∷ bytes) n le none =
    only_step most n (b ∷ bytes) (omega arith) le none (λ rest m. only_within most rest m)

pub first_bad-only : (bytes : List ℕ) (n : ℕ) → first_from is_bad n (pieces_of bytes) ≡ None → IsUtf8 bytes
first_bad-only bytes n none = only_within (length bytes) bytes n (omega arith) none

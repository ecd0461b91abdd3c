-- Which records are good.
use Rattle.std.proofs.Common.{◌≡◌, ◌≢◌, ◌+◌, ℕ, List, [], ◌∷◌, ◌++◌, length, Option, Some, None, Bool, true, false, ◌&&◌, nat_eq, IsUtf8, refl, sym, ap, ◌∙◌, arith, append-nil}
use Rattle.std.specs.Prelude.{IfSome}
use Rattle.std.specs.List.{list_all}
use Rattle.std.specs.Str.{is_utf8}
use Rattle.std.proofs.lemmas.Bool.{eqb-true, eq-eqb}
use Rattle.std.proofs.lemmas.Str.{IsUtf8-from_is_utf8, is_utf8-from_IsUtf8}
use Rattle.std.proofs.lemmas.List.Folds.{list_all-append}
use Rattle.csv.specs.Records.{AllText}
use Rattle.yarn_table.specs.Reader.{AllGood, width_if}
use Rattle.yarn_table.specs.Records.{Fields, is_good, first_bad, bad_record, width_of}

pub utf8_text : (fields : Fields) → AllText fields → list_all is_utf8 fields ≡ true
unfolding AllText
utf8_text [] t = refl
utf8_text (f ∷ fs) t = rw (is_utf8-from_IsUtf8 f t.0) (utf8_text fs t.1)

pub text_utf8 : (fields : Fields) → list_all is_utf8 fields ≡ true → AllText fields
unfolding AllText
text_utf8 [] t = tt
text_utf8 (f ∷ fs) t = by (is_utf8 f) refl t (text_utf8 fs)
  where
    by : (b : Bool) → is_utf8 f ≡ b → (is_utf8 f && list_all is_utf8 fs) ≡ true → (list_all is_utf8 fs ≡ true → AllText fs) → IsUtf8 f × AllText fs
    by true e h more = (IsUtf8-from_is_utf8 f e, more (rw e at h))
    by false e h more = cc (rw e at h)

first_bad-good : (width at : ℕ) (rows rest : List Fields) → list_all (is_good width) rows ≡ true → first_bad width at (rows ++ rest) ≡ first_bad width (at + length rows) rest
first_bad-good width at [] rest g = let n : at ≡ at + 0 = omega arith in ap (λ (k : ℕ). first_bad width k rest) n
first_bad-good width at (r ∷ rows) rest g = by (is_good width r) refl g (first_bad-good width (at + 1) rows rest)
  where
    by : (b : Bool) → is_good width r ≡ b → (is_good width r && list_all (is_good width) rows) ≡ true
        → (list_all (is_good width) rows ≡ true → first_bad width (at + 1) (rows ++ rest) ≡ first_bad width (at + 1 + length rows) rest)
        → first_bad width at ((r ∷ rows) ++ rest) ≡ first_bad width (at + length (r ∷ rows)) rest
    by true e h more =
        let n : at + 1 + length rows ≡ at + length (r ∷ rows) = omega arith in
        rw e (more (rw e at h) ∙ ap (λ (k : ℕ). first_bad width k rest) n)
    by false e h more = cc (rw e at h)

pub no_bad : (rows : List Fields) → AllGood rows → bad_record rows ≡ None
no_bad [] g = refl
no_bad (header ∷ rows) g = ap (first_bad (length header) 0) (sym (append-nil (header ∷ rows))) ∙ first_bad-good (length header) 0 (header ∷ rows) [] g

first_bad-here : (width at : ℕ) (f : Fields) (more : List Fields) → is_good width f ≡ false → first_bad width at (f ∷ more) ≡ Some at
first_bad-here width at f more e = rw e refl

pub bad_at : (rows : List Fields) (f : Fields) (more : List Fields) → AllGood rows → is_good (width_of (rows ++ (f ∷ []))) f ≡ false → bad_record (rows ++ (f ∷ more)) ≡ Some (length rows)
bad_at [] f more g e = first_bad-here (length f) 0 f more e
bad_at (header ∷ rows) f more g e =
    first_bad-good (length header) 0 (header ∷ rows) (f ∷ more) g ∙ first_bad-here (length header) (0 + length (header ∷ rows)) f more e
    ∙ ap Some (omega arith)

good_one : (width : ℕ) (f : Fields) → length f ≡ width → AllText f → is_good width f ≡ true
good_one width f l t = rw (l, utf8_text f t) (rw (eq-eqb width width refl) refl)

pub good_more : (rows : List Fields) (f : Fields) (new : Option ℕ) → AllGood rows → AllText f
    → IfSome (width_if rows) (λ e. new ≡ Some e) → new ≡ Some (length f)
    → AllGood (rows ++ (f ∷ [])) × (new ≡ width_if (rows ++ (f ∷ [])))
good_more [] f new g t before after = (rw (good_one (length f) f refl t) refl, after)
good_more (header ∷ rows) f new g t before after =
    let same : length f ≡ length header = cc in
    (list_all-append (is_good (length header)) (header ∷ rows) (f ∷ []) ∙ rw (g, good_one (length header) f same t) refl, before)

pub bad_length : (rows : List Fields) (f : Fields) (expected : ℕ) → width_if rows ≡ Some expected → expected ≢ length f → is_good (width_of (rows ++ (f ∷ []))) f ≡ false
bad_length [] f expected e other = cc
bad_length (header ∷ rows) f expected e other =
    let same : length header ≡ expected = cc in
    by (nat_eq (length f) (length header)) refl
  where
    by : (b : Bool) → nat_eq (length f) (length header) ≡ b → is_good (length header) f ≡ false
    by true t = let eq = eqb-true (length f) (length header) t in absurd (other (cc))
    by false t = rw t refl

pub bad_text : (width : ℕ) (f : Fields) → ¬ (AllText f) → is_good width f ≡ false
bad_text width f other = by (nat_eq (length f) width) (list_all is_utf8 f) refl
  where
    by : (a b : Bool) → list_all is_utf8 f ≡ b → (a && b) ≡ false
    by a true t = absurd (other (text_utf8 f t))
    by true false t = refl
    by false false t = refl

-- A line stands for one pair at most, and where it is cut.
use Rattle.std.proofs.Common.{◌≡◌, ℕ, suc, ◌<◌, ℤ, List, [], ◌∷◌, ◌++◌, length, get_or, Bool, true, false, Option, None, Some, inl, inr, refl, sym, ap, ◌∙◌, arith, subst, true≢false, IsUtf8}
use Rattle.std.specs.Prelude.{MatchOption}
use Rattle.std.specs.Str.{chars}
use Rattle.std.specs.Str.Pattern.{LacksTextAt}
use Rattle.yarn_base.specs.Name.{is_variable_of}
use Rattle.yarn_value.specs.Numbers.{signed_number}
use Rattle.yarn_value.specs.Quoting.{quoted, IsQuoted}
use Rattle.yarn_value.proofs.QuotingLemmas.{quoted_once}
use Rattle.yarn_value.specs.declared.value.Value.{Value}
use Rattle.yarn_value.specs.declared.value.Value.TheVariants.{Number, Str, Truth}
use Rattle.yarn_value.specs.Pairs.{Pair}
use Rattle.yarn_store.specs.Variables.{SpellsNumber, Spells, StandsFor}
use Rattle.yarn_store.specs.Steps.{IsCut, CanBeCut, IsPairLine, IsPlain, IsShortQuoted, IsValue}
use Rattle.yarn_store.proofs.NameLemmas.{NoByte, space_foreign, variable_free, utf8_before, at_seam, within}

-- ---- values

no_number_truth : (b : Bool) (s : List ℕ) (n : ℤ) → SpellsNumber s n → Spells s (Truth b) → ⊥
no_number_truth true s n number truth = let h : None ≡ Some n = ap signed_number (sym truth) ∙ number.number in absurd cc
no_number_truth false s n number truth = let h : None ≡ Some n = ap signed_number (sym truth) ∙ number.number in absurd cc

no_number_text : (s t : List ℕ) (n : ℤ) → SpellsNumber s n → s ≡ quoted t → ⊥
no_number_text s t n number text = let h : None ≡ Some n = ap signed_number (sym text) ∙ number.number in absurd cc

no_truth_text : (b : Bool) (s t : List ℕ) → Spells s (Truth b) → s ≡ quoted t → ⊥
no_truth_text true s t truth text = let h : ◌≡◌ {A = ℕ} 116 34 = ap (λ l. get_or l 0 0) (sym truth ∙ text) in omega (arith, h)
no_truth_text false s t truth text = let h : ◌≡◌ {A = ℕ} 102 34 = ap (λ l. get_or l 0 0) (sym truth ∙ text) in omega (arith, h)

one_truth : (a b : Bool) (s : List ℕ) → Spells s (Truth a) → Spells s (Truth b) → a ≡ b
one_truth true true s x y = refl
one_truth true false s x y = let h : ◌≡◌ {A = ℕ} 116 102 = ap (λ l. get_or l 0 0) (sym x ∙ y) in absurd (omega (arith, h))
one_truth false true s x y = let h : ◌≡◌ {A = ℕ} 102 116 = ap (λ l. get_or l 0 0) (sym x ∙ y) in absurd (omega (arith, h))
one_truth false false s x y = refl

one_number : (m n : ℤ) (s : List ℕ) → SpellsNumber s m → SpellsNumber s n → m ≡ n
one_number m n s x y = let h : Some m ≡ Some n = sym x.number ∙ y.number in cc

pub one_value : (v w : Value) (s : List ℕ) → Spells s v → Spells s w → v ≡ w
one_value (Number m) (Number n) s x y = ap Number (one_number m n s x y)
one_value (Number m) (Str t) s x y = absurd (no_number_text s t m x y.0)
one_value (Number m) (Truth b) s x y = absurd (no_number_truth b s m x y)
one_value (Str t) (Number n) s x y = absurd (no_number_text s t n y x.0)
one_value (Str t) (Str u) s x y = ap Str (quoted_once t u (sym x.0 ∙ y.0))
one_value (Str t) (Truth b) s x y = absurd (no_truth_text b s t y x.0)
one_value (Truth b) (Number n) s x y = absurd (no_number_truth b s n y x)
one_value (Truth b) (Str t) s x y = absurd (no_truth_text b s t x y.0)
one_value (Truth a) (Truth b) s x y = ap Truth (one_truth a b s x y)

-- what a text that spells a value spells
pub plain_or_quoted : (s : List ℕ) → IsValue s → ¬ IsPlain s → ¬ IsShortQuoted s → ⊥
plain_or_quoted s (Number n, x) plain quoted = plain (inl (n, x))
plain_or_quoted s (Str t, x) plain quoted = quoted (t, x)
plain_or_quoted s (Truth b, x) plain quoted = plain (inr (b, x))

-- ---- the first space

tail_free : (b x : ℕ) (bytes : List ℕ) → NoByte b (x ∷ bytes) → NoByte b bytes
tail_free b x bytes free i lt = free (suc i) (omega arith)

pub cut_once : (a b xs ys : List ℕ) → NoByte 32 a → NoByte 32 b → a ++ 32 ∷ xs ≡ b ++ 32 ∷ ys → (a ≡ b) × (xs ≡ ys)
cut_once [] [] xs ys fa fb e = let rest : xs ≡ ys = cc in (refl, rest)
cut_once [] (y ∷ b) xs ys fa fb e = let h : ◌≡◌ {A = ℕ} 32 y = ap (λ l. get_or l 0 0) e in absurd (fb 0 (omega arith) (sym h))
cut_once (x ∷ a) [] xs ys fa fb e = let h : x ≡ 32 = ap (λ l. get_or l 0 0) e in absurd (fa 0 (omega arith) h)
cut_once (x ∷ a) (y ∷ b) xs ys fa fb e =
    let first : x ≡ y = cc in
    let rest : a ++ 32 ∷ xs ≡ b ++ 32 ∷ ys = cc in
    let later = cut_once a b xs ys (tail_free 32 x a fa) (tail_free 32 y b fb) rest in
    ((λ j. first j ∷ later.0 j), later.1)

-- ---- lines

pub cut_of : (line : List ℕ) (p : Pair) (stands : StandsFor line p) → IsCut line p.0 stands.spelled
cut_of line p stands = record {
  parts = stands.parts;
  utf8 = stands.utf8;
  no_space = variable_free 32 space_foreign p.0 (utf8_before p.0 32 (61 ∷ 32 ∷ stands.spelled) (omega arith) (subst IsUtf8 stands.parts stands.utf8)) stands.variable;
}

pub same_cut : (line a s b t : List ℕ) → IsCut line a s → IsCut line b t → (a ≡ b) × (s ≡ t)
same_cut line a s b t x y =
    let both = cut_once a b (61 ∷ 32 ∷ s) (61 ∷ 32 ∷ t) x.no_space y.no_space (sym x.parts ∙ y.parts) in
    let rest : s ≡ t = let h = both.1 in cc in
    (both.0, rest)

pub one_pair : (line : List ℕ) (p q : Pair) → StandsFor line p → StandsFor line q → p ≡ q
one_pair line p q x y =
    let both = same_cut line p.0 x.spelled q.0 y.spelled (cut_of line p x) (cut_of line q y) in
    let value = one_value p.1 q.1 y.spelled (subst (λ s. Spells s p.1) both.1 x.value) y.value in
    (λ j. (both.0 j, value j))

pub cut_of_line : (line : List ℕ) → IsPairLine line → CanBeCut line
cut_of_line line (p, stands) = (p.0, stands.spelled, cut_of line p stands)

module _ (line name spelled : List ℕ) (cut : IsCut line name spelled) where
  pub no_variable : is_variable_of (chars name) ≡ false → IsPairLine line → ⊥
  no_variable other (p, stands) =
      let both = same_cut line p.0 stands.spelled name spelled (cut_of line p stands) cut in
      true≢false (sym stands.variable ∙ ap (λ l. is_variable_of (chars l)) both.0 ∙ other)

  pub no_value : ¬ IsValue spelled → IsPairLine line → ⊥
  no_value none (p, stands) =
      let both = same_cut line p.0 stands.spelled name spelled (cut_of line p stands) cut in
      none (p.1, subst (λ s. Spells s p.1) both.1 stands.value)

  pub stands_for : (value : Value) → is_variable_of (chars name) ≡ true → Spells spelled value → StandsFor line (name, value)
  stands_for value variable spells = record { spelled = spelled; parts = cut.parts; utf8 = cut.utf8; variable = variable; value = spells }

-- where a line has no space, or its first space doesn't begin ` = `
module _ (line : List ℕ) where
  pub no_space_no_cut : NoByte 32 line → CanBeCut line → ⊥
  no_space_no_cut free (name, spelled, cut) =
      let place : length name < length line = omega (arith, within name 32 (61 ∷ 32 ∷ spelled), ap length cut.parts) in
      free (length name) place (ap (λ l. get_or l (length name) 0) cut.parts ∙ at_seam name 32 (61 ∷ 32 ∷ spelled))

  pub other_sign_no_cut : (front behind : List ℕ) → line ≡ front ++ 32 ∷ behind → NoByte 32 front → LacksTextAt (61 ∷ 32 ∷ []) behind 0 → CanBeCut line → ⊥
  other_sign_no_cut front behind is free lacks (name, spelled, cut) =
      let both = cut_once front name behind (61 ∷ 32 ∷ spelled) free cut.no_space (sym is ∙ cut.parts) in
      lacks spelled both.1

  pub cut_at_sign : (front behind spelled : List ℕ) → IsUtf8 line → line ≡ front ++ 32 ∷ behind → NoByte 32 front → behind ≡ 61 ∷ 32 ∷ spelled → IsCut line front spelled
  cut_at_sign front behind spelled utf8 is free sign = record { parts = is ∙ ap (λ l. front ++ 32 ∷ l) sign; utf8 = utf8; no_space = free }

-- a text that was unquoted, and is too long or none
module _ (s : List ℕ) where
  too_long : (t : List ℕ) → s ≡ quoted t → 65536 < length t → IsShortQuoted s → ⊥
  too_long t is long (u, short) =
      let same : u ≡ t = quoted_once u t (sym short.0 ∙ is) in
      omega (arith, short.1, ap length same)

  pub long_quoted : (found : Option (List ℕ)) (t : List ℕ) → MatchOption found (¬ IsQuoted s) (λ v. s ≡ quoted v) → found ≡ Some t → 65536 < length t → IsShortQuoted s → ⊥
  long_quoted found t h is long = too_long t (subst (λ o. MatchOption o (¬ IsQuoted s) (λ v. s ≡ quoted v)) is h) long

  pub none_quoted : (found : Option (List ℕ)) → MatchOption found (¬ IsQuoted s) (λ v. s ≡ quoted v) → found ≡ None → IsShortQuoted s → ⊥
  none_quoted found h is (u, short) = subst (λ o. MatchOption o (¬ IsQuoted s) (λ v. s ≡ quoted v)) is h (u, short.0)

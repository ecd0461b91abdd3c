-- The function that reads a line against what a line stands for.
use Rattle.std.proofs.Common.{◌≡◌, ℕ, suc, ℤ, List, [], ◌∷◌, ◌++◌, length, take, drop, Bool, true, false, ◌&&◌, nat_eq, nat_le, Option, None, Some, option_map, refl, sym, ap, ◌∙◌, arith, subst, true≢false, take-append-drop}
use Rattle.std.specs.Prelude.{◌≢◌, MatchOption, codes}
use Rattle.std.specs.Option.{option_or}
use Rattle.std.specs.Str.{chars, is_utf8}
use Rattle.std.proofs.lemmas.Bool.{eqb-true, eq-eqb}
use Rattle.std.proofs.lemmas.Bool.Decides.{nat_tests}
use Rattle.std.proofs.lemmas.Str.{IsUtf8-from_is_utf8, is_utf8-from_IsUtf8}
use Rattle.yarn_base.specs.Name.{is_variable_of}
use Rattle.yarn_value.specs.Numbers.{signed_number}
use Rattle.yarn_value.specs.Quoting.{letter, spelled, escape, quoted}
use Rattle.yarn_value.specs.declared.value.Value.{Value}
use Rattle.yarn_value.specs.declared.value.Value.TheVariants.{Number, Str, Truth}
use Rattle.yarn_value.specs.Pairs.{Pair, same_name as same_bytes}
use Rattle.yarn_store.specs.Variables.{StandsFor, Spells, SpellsNumber, behind_minus, has_spare_zero}
use Rattle.yarn_store.specs.LineReading.{number_of, truth_of, meant, itself, with_byte, empty_text, text_behind, unquoted, short_text, value_of, before_space, from_space, value_behind, pair_of, LinesAreRead}
use Rattle.yarn_store.specs.Steps.{IsPairLine}
use Rattle.yarn_store.proofs.NameLemmas.{NoByte}
use Rattle.yarn_store.proofs.SpellingLemmas.{one_value, cut_of}

-- ---- equal bytes

pub same_bytes-true : (a b : List ℕ) → same_bytes a b ≡ true → a ≡ b
same_bytes-true [] [] e = refl
same_bytes-true [] (y ∷ b) e = absurd cc
same_bytes-true (x ∷ a) [] e = absurd cc
same_bytes-true (x ∷ a) (y ∷ b) e =
    let both = and_both (nat_eq x y) (same_bytes a b) e in
    let first : x ≡ y = eqb-true x y both.0 in
    let rest = same_bytes-true a b both.1 in
    (λ j. first j ∷ rest j)
  where
    and_both : (a b : Bool) → (a && b) ≡ true → (a ≡ true) × (b ≡ true)
    and_both true true e = (refl, refl)
    and_both true false e = absurd cc
    and_both false b e = absurd cc

pub same_bytes-refl : (a : List ℕ) → same_bytes a a ≡ true
same_bytes-refl [] = refl
same_bytes-refl (x ∷ a) = rw (eq-eqb x x refl, same_bytes-refl a) refl

pub same_bytes-same : (a b : List ℕ) → a ≡ b → same_bytes a b ≡ true
same_bytes-same a b e = ap (λ l. same_bytes l b) e ∙ same_bytes-refl b

-- ---- quoted strings

meant-letter : (x l : ℕ) → letter x ≡ Some l → meant l ≡ Some x
meant-letter x l e = grind (arith, nat_tests)

letter-meant : (x l : ℕ) → meant l ≡ Some x → letter x ≡ Some l
letter-meant x l e = grind (arith, nat_tests)

record Plain (b : ℕ) : Type 0 where
  quote : nat_eq b 34 ≡ false
  backslash : nat_eq b 92 ≡ false
  byte : itself b ≡ Some b

plain_letter : (b : ℕ) → letter b ≡ None → Plain b
plain_letter b e = record { quote = grind (arith, nat_tests); backslash = grind (arith, nat_tests); byte = grind (arith, nat_tests) }

letter_plain : (b x : ℕ) → nat_eq b 34 ≡ false → nat_eq b 92 ≡ false → itself b ≡ Some x → (letter b ≡ None) × (x ≡ b)
letter_plain b x q s e = (grind (arith, nat_tests), grind (arith, nat_tests))

read_escape : (t : List ℕ) → text_behind (escape t ++ 34 ∷ []) false ≡ Some t
read_escape [] = refl
read_escape (x ∷ t) = by_letter (read_escape t) (letter x) refl
  where
    by_letter : text_behind (escape t ++ 34 ∷ []) false ≡ Some t → (o : Option ℕ) → letter x ≡ o → text_behind ((spelled x o ++ escape t) ++ 34 ∷ []) false ≡ Some (x ∷ t)
    by_letter later None e = let plain = plain_letter x e in rw (plain.quote, plain.backslash, plain.byte, later) refl
    by_letter later (Some l) e = rw (meant-letter x l e, later) refl

pub read_quoted : (t : List ℕ) → unquoted (quoted t) ≡ Some t
read_quoted t = read_escape t

record WithByte (o : Option ℕ) (r : Option (List ℕ)) (t : List ℕ) : Type 0 where
  b : ℕ
  rest : List ℕ
  byte_is : o ≡ Some b
  rest_is : r ≡ Some rest
  text_is : t ≡ b ∷ rest

with_byte_only : (o : Option ℕ) (r : Option (List ℕ)) (t : List ℕ) → with_byte o r ≡ Some t → WithByte o r t
with_byte_only None r t e = absurd cc
with_byte_only (Some b) None t e = absurd cc
with_byte_only (Some b) (Some rest) t e = record { b = b; rest = rest; byte_is = refl; rest_is = refl; text_is = cc }

escape-cons : (x : ℕ) (o : Option ℕ) (t : List ℕ) → letter x ≡ o → escape (x ∷ t) ≡ spelled x o ++ escape t
escape-cons x o t e = ap (λ l. spelled x l ++ escape t) e

abbrev Sound : List ℕ → Type 0
Sound bytes = ((t : List ℕ) → text_behind bytes false ≡ Some t → bytes ≡ escape t ++ 34 ∷ [])
    × ((t : List ℕ) → text_behind bytes true ≡ Some t → 92 ∷ bytes ≡ escape t ++ 34 ∷ [])

sound : (bytes : List ℕ) → Sound bytes
sound [] = (λ t e. absurd cc, λ t e. absurd cc)
sound (b ∷ bytes) = let later = sound bytes in (λ t e. plain later t e, λ t e. escaped later t e)
  where
    escaped : Sound bytes → (t : List ℕ) → text_behind (b ∷ bytes) true ≡ Some t → 92 ∷ b ∷ bytes ≡ escape t ++ 34 ∷ []
    escaped later t e =
        let w = with_byte_only (meant b) (text_behind bytes false) t e in
        let rest = later.0 w.rest w.rest_is in
        ap (λ l. 92 ∷ b ∷ l) rest ∙ ap (λ l. l ++ 34 ∷ []) (sym (escape-cons w.b (Some b) w.rest (letter-meant w.b b w.byte_is))) ∙ ap (λ l. escape l ++ 34 ∷ []) (sym w.text_is)

    ends : (bytes t : List ℕ) → empty_text bytes ≡ Some t → 34 ∷ bytes ≡ escape t ++ 34 ∷ []
    ends [] t e = let none : t ≡ [] = cc in rw none refl
    ends (c ∷ bytes) t e = absurd cc

    by_byte : Sound bytes → (t : List ℕ) → nat_eq b 34 ≡ false → nat_eq b 92 ≡ false → with_byte (itself b) (text_behind bytes false) ≡ Some t → b ∷ bytes ≡ escape t ++ 34 ∷ []
    by_byte later t q s e =
        let w = with_byte_only (itself b) (text_behind bytes false) t e in
        let rest = later.0 w.rest w.rest_is in
        let is = letter_plain b w.b q s w.byte_is in
        ap (λ l. b ∷ l) rest ∙ ap (λ l. l ++ 34 ∷ []) (sym (escape-cons b None w.rest is.0)) ∙ ap (λ x. escape (x ∷ w.rest) ++ 34 ∷ []) (sym is.1) ∙ ap (λ l. escape l ++ 34 ∷ []) (sym w.text_is)

    by_backslash : Sound bytes → (t : List ℕ) → nat_eq b 34 ≡ false → (s : Bool) → nat_eq b 92 ≡ s → text_behind (b ∷ bytes) false ≡ Some t → b ∷ bytes ≡ escape t ++ 34 ∷ []
    by_backslash later t q true s e = ap (λ x. x ∷ bytes) (eqb-true b 92 s) ∙ later.1 t (rw (q, s) at e)
    by_backslash later t q false s e = by_byte later t q s (rw (q, s) at e)

    by_quote : Sound bytes → (t : List ℕ) → (q : Bool) → nat_eq b 34 ≡ q → text_behind (b ∷ bytes) false ≡ Some t → b ∷ bytes ≡ escape t ++ 34 ∷ []
    by_quote later t true q e = ap (λ x. x ∷ bytes) (eqb-true b 34 q) ∙ ends bytes t (rw q at e)
    by_quote later t false q e = by_backslash later t q (nat_eq b 92) refl e

    plain : Sound bytes → (t : List ℕ) → text_behind (b ∷ bytes) false ≡ Some t → b ∷ bytes ≡ escape t ++ 34 ∷ []
    plain later t e = by_quote later t (nat_eq b 34) refl e

pub unquoted_only : (s t : List ℕ) → unquoted s ≡ Some t → s ≡ quoted t
unquoted_only [] t e = absurd cc
unquoted_only (b ∷ bytes) t e = by_quote (nat_eq b 34) refl
  where
    by_quote : (q : Bool) → nat_eq b 34 ≡ q → b ∷ bytes ≡ quoted t
    by_quote true q =
        let first : b ≡ 34 = eqb-true b 34 q in
        let rest = (sound bytes).0 t (rw q at e) in
        (λ j. first j ∷ rest j)
    by_quote false q = let h = rw q at e in absurd cc

-- ---- values

truth_only : (s : List ℕ) (v : Value) → truth_of s ≡ Some v → Spells s v
truth_only s v e = by_true (same_bytes s (codes "true")) refl
  where
    by_false : same_bytes s (codes "true") ≡ false → (t : Bool) → same_bytes s (codes "false") ≡ t → Spells s v
    by_false n true t =
        let h : Some (Truth false) ≡ Some v = rw (n, t) at e in
        let is : Truth false ≡ v = cc in
        subst (Spells s) is (same_bytes-true s (codes "false") t)
    by_false n false t = let h = rw (n, t) at e in absurd cc

    by_true : (t : Bool) → same_bytes s (codes "true") ≡ t → Spells s v
    by_true true t =
        let h : Some (Truth true) ≡ Some v = rw t at e in
        let is : Truth true ≡ v = cc in
        subst (Spells s) is (same_bytes-true s (codes "true") t)
    by_true false t = by_false t (same_bytes s (codes "false")) refl

truth_some : (b : Bool) (s : List ℕ) → Spells s (Truth b) → truth_of s ≡ None → ⊥
truth_some true s spells none = let h = rw spells at none in absurd cc
truth_some false s spells none = let h = rw spells at none in absurd cc

number_only : (s : List ℕ) (v : Value) → number_of s ≡ Some v → Spells s v
number_only s v e = by_spare (has_spare_zero (behind_minus s)) refl
  where
    by_number : has_spare_zero (behind_minus s) ≡ false → same_bytes s (codes "-0") ≡ false → (o : Option ℤ) → signed_number s ≡ o → option_map Number o ≡ Some v → Spells s v
    by_number spare minus None is h = absurd cc
    by_number spare minus (Some n) is h =
        let same : Number n ≡ v = cc in
        subst (Spells s) same (record { number = is; no_spare_zero = spare; no_minus_zero = λ z. true≢false (sym (same_bytes-same s (codes "-0") z) ∙ minus) })

    by_minus : has_spare_zero (behind_minus s) ≡ false → (t : Bool) → same_bytes s (codes "-0") ≡ t → Spells s v
    by_minus spare true t = let h = rw (spare, t) at e in absurd cc
    by_minus spare false t = by_number spare t (signed_number s) refl (rw (spare, t) at e)

    by_spare : (t : Bool) → has_spare_zero (behind_minus s) ≡ t → Spells s v
    by_spare true t = let h = rw t at e in absurd cc
    by_spare false t = by_minus t (same_bytes s (codes "-0")) refl

number_some : (s : List ℕ) (n : ℤ) → SpellsNumber s n → number_of s ≡ None → ⊥
number_some s n spells none = by_minus (same_bytes s (codes "-0")) refl
  where
    by_minus : (t : Bool) → same_bytes s (codes "-0") ≡ t → ⊥
    by_minus true t = spells.no_minus_zero (same_bytes-true s (codes "-0") t)
    by_minus false t = let h : Some (Number n) ≡ None = rw (spells.no_spare_zero, t, spells.number) at none in absurd cc

text_only : (s : List ℕ) (v : Value) → short_text (unquoted s) ≡ Some v → Spells s v
text_only s v e = by_text (unquoted s) refl e
  where
    by_length : (t : List ℕ) → unquoted s ≡ Some t → (b : Bool) → nat_le (length t) 65536 ≡ b → short_text (Some t) ≡ Some v → Spells s v
    by_length t is true b h =
        let g : Some (Str t) ≡ Some v = rw b at h in
        let same : Str t ≡ v = cc in
        subst (Spells s) same (unquoted_only s t is, grind (arith, nat_tests))
    by_length t is false b h = let g = rw b at h in absurd cc

    by_text : (o : Option (List ℕ)) → unquoted s ≡ o → short_text o ≡ Some v → Spells s v
    by_text None is h = absurd cc
    by_text (Some t) is h = by_length t is (nat_le (length t) 65536) refl h

text_some : (s t : List ℕ) → Spells s (Str t) → short_text (unquoted s) ≡ None → ⊥
text_some s t spells none =
    let found : unquoted s ≡ Some t = ap unquoted spells.0 ∙ read_quoted t in
    let le : nat_le (length t) 65536 ≡ true = grind (arith, nat_tests, spells.1) in
    let h : Some (Str t) ≡ None = rw (found, le) at none in
    absurd cc

pub value_only : (s : List ℕ) (v : Value) → value_of s ≡ Some v → Spells s v
value_only s v e = by_truth (truth_of s) refl e
  where
    by_number : (o : Option Value) → number_of s ≡ o → option_or o (short_text (unquoted s)) ≡ Some v → Spells s v
    by_number None is h = text_only s v h
    by_number (Some w) is h = number_only s v (is ∙ h)

    by_truth : (o : Option Value) → truth_of s ≡ o → option_or o (option_or (number_of s) (short_text (unquoted s))) ≡ Some v → Spells s v
    by_truth None is h = by_number (number_of s) refl h
    by_truth (Some w) is h = truth_only s v (is ∙ h)

value_some : (s : List ℕ) (v : Value) → Spells s v → value_of s ≡ None → ⊥
value_some s v spells none = by_truth (truth_of s) refl none
  where
    each : (v : Value) → Spells s v → truth_of s ≡ None → number_of s ≡ None → short_text (unquoted s) ≡ None → ⊥
    each (Number n) x t n' q = number_some s n x n'
    each (Str u) x t n' q = text_some s u x q
    each (Truth b) x t n' q = truth_some b s x t

    by_number : truth_of s ≡ None → (o : Option Value) → number_of s ≡ o → option_or o (short_text (unquoted s)) ≡ None → ⊥
    by_number t None is h = each v spells t is h
    by_number t (Some w) is h = absurd cc

    by_truth : (o : Option Value) → truth_of s ≡ o → option_or o (option_or (number_of s) (short_text (unquoted s))) ≡ None → ⊥
    by_truth None is h = by_number is (number_of s) refl h
    by_truth (Some w) is h = absurd cc

pub value_is : (s : List ℕ) (v : Value) → Spells s v → value_of s ≡ Some v
value_is s v spells = by_value (value_of s) refl
  where
    by_value : (o : Option Value) → value_of s ≡ o → value_of s ≡ Some v
    by_value None is = absurd (value_some s v spells is)
    by_value (Some w) is = is ∙ ap Some (one_value w v s (value_only s w is) spells)

-- ---- lines

split_at_space : (line : List ℕ) → line ≡ before_space line ++ from_space line
split_at_space [] = refl
split_at_space (b ∷ bytes) = by_test (split_at_space bytes) (nat_eq b 32) refl
  where
    by_test : bytes ≡ before_space bytes ++ from_space bytes → (t : Bool) → nat_eq b 32 ≡ t → b ∷ bytes ≡ before_space (b ∷ bytes) ++ from_space (b ∷ bytes)
    by_test later true t = rw t refl
    by_test later false t = rw t (ap (λ l. b ∷ l) later)

first_space : (name rest : List ℕ) → NoByte 32 name → (before_space (name ++ 32 ∷ rest) ≡ name) × (from_space (name ++ 32 ∷ rest) ≡ 32 ∷ rest)
first_space [] rest free = (refl, refl)
first_space (x ∷ name) rest free =
    let later = first_space name rest (λ i lt. free (suc i) (omega arith)) in
    let other : nat_eq x 32 ≡ false = test x (free 0 (omega arith)) in
    (rw (other, later.0) refl, rw (other, later.1) refl)
  where
    test : (x : ℕ) → x ≢ 32 → nat_eq x 32 ≡ false
    test x n = by (nat_eq x 32) refl
      where
        by : (t : Bool) → nat_eq x 32 ≡ t → nat_eq x 32 ≡ false
        by true t = absurd (n (eqb-true x 32 t))
        by false t = t

pub pair_is : (line : List ℕ) (p : Pair) → StandsFor line p → pair_of line ≡ Some p
pair_is line p stands =
    let space = first_space p.0 (61 ∷ 32 ∷ stands.spelled) (cut_of line p stands).no_space in
    let before : before_space line ≡ p.0 = ap before_space stands.parts ∙ space.0 in
    let from : from_space line ≡ 32 ∷ 61 ∷ 32 ∷ stands.spelled = ap from_space stands.parts ∙ space.1 in
    rw (is_utf8-from_IsUtf8 line stands.utf8, before, from, stands.variable, value_is stands.spelled p.1 stands.value) refl

behind_only : (bytes : List ℕ) (v : Value) → value_behind bytes ≡ Some v → (spelled : List ℕ) × (bytes ≡ codes " = " ++ spelled) × Spells spelled v
behind_only bytes v e = by_sign (same_bytes (take 3 bytes) (codes " = ")) refl
  where
    by_sign : (t : Bool) → same_bytes (take 3 bytes) (codes " = ") ≡ t → (spelled : List ℕ) × (bytes ≡ codes " = " ++ spelled) × Spells spelled v
    by_sign true t =
        (drop 3 bytes, sym (take-append-drop 3 bytes) ∙ ap (λ l. l ++ drop 3 bytes) (same_bytes-true (take 3 bytes) (codes " = ") t), value_only (drop 3 bytes) v (rw t at e))
    by_sign false t = let h = rw t at e in absurd cc

pub pair_only : (line : List ℕ) (p : Pair) → pair_of line ≡ Some p → StandsFor line p
pair_only line p e = by_utf8 (is_utf8 line) refl
  where
    by_value : is_utf8 line ≡ true → is_variable_of (chars (before_space line)) ≡ true → (o : Option Value) → value_behind (from_space line) ≡ o →
        option_map (λ value. (before_space line, value)) o ≡ Some p → StandsFor line p
    by_value u n None is h = absurd cc
    by_value u n (Some v) is h =
        let same : (before_space line, v) ≡ p = cc in
        let behind = behind_only (from_space line) v is in
        subst (StandsFor line) same (record {
          spelled = behind.0;
          parts = split_at_space line ∙ ap (λ l. before_space line ++ l) behind.1;
          utf8 = IsUtf8-from_is_utf8 line u;
          variable = n;
          value = behind.2;
        })

    by_name : is_utf8 line ≡ true → (t : Bool) → is_variable_of (chars (before_space line)) ≡ t → StandsFor line p
    by_name u true t = by_value u t (value_behind (from_space line)) refl (rw (u, t) at e)
    by_name u false t = let h = rw (u, t) at e in absurd cc

    by_utf8 : (t : Bool) → is_utf8 line ≡ t → StandsFor line p
    by_utf8 true t = by_name t (is_variable_of (chars (before_space line))) refl
    by_utf8 false t = let h = rw t at e in absurd cc

pub lines_are_read : LinesAreRead
lines_are_read line p = (λ e. pair_only line p e, λ s. pair_is line p s)

-- what was found of a line is what the function reads
pub found_is : (line : List ℕ) (found : Option Pair) → MatchOption found (¬ IsPairLine line) (λ p. StandsFor line p) → pair_of line ≡ found
found_is line None none = by_pair (pair_of line) refl
  where
    by_pair : (o : Option Pair) → pair_of line ≡ o → pair_of line ≡ None
    by_pair None is = is
    by_pair (Some p) is = absurd (none (p, pair_only line p is))
found_is line (Some p) stands = pair_is line p stands

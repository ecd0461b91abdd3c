-- The first token of a text, and all its tokens.
use Rattle.std.proofs.Common.{◌≡◌, ℕ, ◌+◌, ◌<◌, ◌≤◌, List, [], ◌∷◌, ◌++◌, length, drop, get_or, Bool, true, false, ◌&&◌, ◌||◌, nat_eq, nat_lt, nat_le, Option, None, Some, if◌then◌else◌, refl, sym, ap, ◌∙◌, arith, subst, drop-cons, add-one, append-nil, append_assoc, length-append}
use Rattle.std.specs.Prelude.{⊤}
use Rattle.std.specs.List.{list_all}
use Rattle.std.specs.Cmp.Lexicographic.{pointwise}
use Rattle.std.proofs.lemmas.Bool.{eqb-true}
use Rattle.std.proofs.lemmas.Bool.Decides.{nat_tests}
use Rattle.yarn_plural.specs.declared.rule.Category.TheVariants as category
use Rattle.yarn_plural.specs.declared.rule.Operand.TheVariants as operand
use Rattle.yarn_plural.specs.declared.table.Form.TheVariants as form
use Rattle.yarn_plural.specs.declared.token.TheConstants.{WORDS}
use Rattle.yarn_plural.specs.declared.token.Token.{Token}
use Rattle.yarn_plural.specs.declared.token.Token.TheVariants as token
use Rattle.yarn_plural.specs.declared.token.Word.{Word}
use Rattle.yarn_plural.specs.declared.token.Word.TheVariants as word
use Rattle.yarn_plural.specs.declared.token.Sign.{Sign}
use Rattle.yarn_plural.specs.declared.token.Sign.TheVariants as sign
use Rattle.yarn_plural.specs.Tokens.{is_blank, is_letter, is_digit, front, past, begins_run, word_text, sign_text, number_after, IsValue, IsPart, MayStandBehind, IsNext, Spells}
use Rattle.yarn_plural.specs.Steps.{AreTokens, find_word, word_of, value_of, Next, word_next, value_next, if_next, sign_next, next_of}
use Rattle.yarn_plural.proofs.ScanLemmas.{front-all}

-- ---- words

pub find-step : (text : List ℕ) (ws : List Word) (at : ℕ) (d : Word) → at < length ws → pointwise nat_eq text (word_text (get_or ws at d)) ≡ false →
    find_word text (drop (at + 1) ws) ≡ find_word text (drop at ws)
find-step text ws at d lt other = sym (ap (find_word text) (drop-cons ws at d lt) ∙ rw (other, add-one) refl)

same_bytes : (a b : List ℕ) → pointwise nat_eq a b ≡ true → a ≡ b
same_bytes [] [] e = refl
same_bytes [] (y ∷ b) e = absurd cc
same_bytes (x ∷ a) [] e = absurd cc
same_bytes (x ∷ a) (y ∷ b) e = by (nat_eq x y) (pointwise nat_eq a b) refl (same_bytes a b) e
  where
    by : (t u : Bool) → nat_eq x y ≡ t → (u ≡ true → a ≡ b) → (t && u) ≡ true → x ∷ a ≡ y ∷ b
    by true u t later e = let first : x ≡ y = eqb-true x y t in let rest = later e in (λ j. first j ∷ rest j)
    by false u t later e = absurd cc

find_word-only : (text : List ℕ) (ws : List Word) (w : Word) → find_word text ws ≡ Some w → text ≡ word_text w
find_word-only text [] w e = absurd cc
find_word-only text (v ∷ ws) w e = by (find_word-only text ws w) (pointwise nat_eq text (word_text v)) refl e
  where
    by : (find_word text ws ≡ Some w → text ≡ word_text w) → (t : Bool) → pointwise nat_eq text (word_text v) ≡ t →
        (if t then Some v else find_word text ws) ≡ Some w → text ≡ word_text w
    by later true t e = let same : v ≡ w = cc in same_bytes text (word_text v) t ∙ ap word_text same
    by later false t e = later e

word_of-there : (w : Word) → word_of (word_text w) ≡ Some w
word_of-there (word.Form form.Cardinal) = refl
word_of-there (word.Form form.Ordinal) = refl
word_of-there (word.Category category.Zero) = refl
word_of-there (word.Category category.One) = refl
word_of-there (word.Category category.Two) = refl
word_of-there (word.Category category.Few) = refl
word_of-there (word.Category category.Many) = refl
word_of-there (word.Category category.Other) = refl
word_of-there (word.Operand operand.N) = refl
word_of-there (word.Operand operand.I) = refl
word_of-there (word.Operand operand.V) = refl
word_of-there (word.Operand operand.W) = refl
word_of-there (word.Operand operand.F) = refl
word_of-there (word.Operand operand.T) = refl
word_of-there (word.Operand operand.C) = refl
word_of-there (word.Operand operand.E) = refl
word_of-there word.And = refl
word_of-there word.Or = refl

abbrev IsRunOf : (ℕ → Bool) → List ℕ → Type 0
IsRunOf p part = (list_all p part ≡ true) × (0 < length part)

word_text-letters : (w : Word) → IsRunOf is_letter (word_text w)
word_text-letters (word.Form form.Cardinal) = (refl, omega arith)
word_text-letters (word.Form form.Ordinal) = (refl, omega arith)
word_text-letters (word.Category category.Zero) = (refl, omega arith)
word_text-letters (word.Category category.One) = (refl, omega arith)
word_text-letters (word.Category category.Two) = (refl, omega arith)
word_text-letters (word.Category category.Few) = (refl, omega arith)
word_text-letters (word.Category category.Many) = (refl, omega arith)
word_text-letters (word.Category category.Other) = (refl, omega arith)
word_text-letters (word.Operand operand.N) = (refl, omega arith)
word_text-letters (word.Operand operand.I) = (refl, omega arith)
word_text-letters (word.Operand operand.V) = (refl, omega arith)
word_text-letters (word.Operand operand.W) = (refl, omega arith)
word_text-letters (word.Operand operand.F) = (refl, omega arith)
word_text-letters (word.Operand operand.T) = (refl, omega arith)
word_text-letters (word.Operand operand.C) = (refl, omega arith)
word_text-letters (word.Operand operand.E) = (refl, omega arith)
word_text-letters word.And = (refl, omega arith)
word_text-letters word.Or = (refl, omega arith)

-- ---- runs

front-past : (p : ℕ → Bool) (text : List ℕ) → text ≡ front p text ++ past p text
front-past p [] = refl
front-past p (b ∷ text) = by_test (front-past p text) (p b) refl
  where
    by_test : text ≡ front p text ++ past p text → (t : Bool) → p b ≡ t → b ∷ text ≡ front p (b ∷ text) ++ past p (b ∷ text)
    by_test later true t = rw t (ap (λ l. b ∷ l) later)
    by_test later false t = rw t refl

-- no byte that passes comes next
abbrev Stops : (ℕ → Bool) → List ℕ → Type 0
Stops p [] = ⊤
Stops p (b ∷ rest) = p b ≡ false

record IsCutOff (p : ℕ → Bool) (part rest : List ℕ) : Type 0 where
  front_is : front p (part ++ rest) ≡ part
  past_is : past p (part ++ rest) ≡ rest

cut_off : (p : ℕ → Bool) (part rest : List ℕ) → list_all p part ≡ true → Stops p rest → IsCutOff p part rest
cut_off p [] [] all stops = record { front_is = refl; past_is = refl }
cut_off p [] (b ∷ rest) all stops = record { front_is = rw stops refl; past_is = rw stops refl }
cut_off p (b ∷ part) rest all stops = by (λ h. cut_off p part rest h stops) (p b) refl all
  where
    by : (list_all p part ≡ true → IsCutOff p part rest) → (t : Bool) → p b ≡ t → (t && list_all p part) ≡ true → IsCutOff p (b ∷ part) rest
    by later true t all = let l = later all in record { front_is = rw (t, l.front_is) refl; past_is = rw (t, l.past_is) refl }
    by later false t all = absurd cc

stops-letters : (rest : List ℕ) → begins_run rest ≡ false → Stops is_letter rest
stops-letters [] h = tt
stops-letters (b ∷ rest) h = by (is_letter b) (is_digit b) h
  where
    by : (t u : Bool) → (t || u) ≡ false → t ≡ false
    by true u h = h
    by false u h = refl

stops-digits : (rest : List ℕ) → begins_run rest ≡ false → Stops is_digit rest
stops-digits [] h = tt
stops-digits (b ∷ rest) h = by (is_letter b) (is_digit b) h
  where
    by : (t u : Bool) → (t || u) ≡ false → u ≡ false
    by true u h = absurd cc
    by false u h = h

-- ---- what is next, from the tokens

abbrev IsMark : ℕ → Type 0
IsMark b = (nat_eq b 35 ≡ false) × (nat_eq b 64 ≡ false)

letter_mark : (b : ℕ) → is_letter b ≡ true → IsMark b
letter_mark b is = (grind (arith, nat_tests), grind (arith, nat_tests))

digit_mark : (b : ℕ) → is_digit b ≡ true → IsMark b × (is_letter b ≡ false)
digit_mark b is = ((grind (arith, nat_tests), grind (arith, nat_tests)), grind (arith, nat_tests))

first_passes : (p : ℕ → Bool) (b : ℕ) (part : List ℕ) → list_all p (b ∷ part) ≡ true → p b ≡ true
first_passes p b part all = by (p b) (list_all p part) all
  where
    by : (t u : Bool) → (t && u) ≡ true → t ≡ true
    by true u h = refl
    by false u h = absurd cc

next_letters : (part rest : List ℕ) → IsRunOf is_letter part → next_of (part ++ rest) ≡ word_next (part ++ rest)
next_letters [] rest run = absurd (omega (arith, run.1))
next_letters (b ∷ part) rest run =
    let is = first_passes is_letter b part run.0 in
    let mark = letter_mark b is in
    rw (mark.0, mark.1, is) refl

next_digits : (part rest : List ℕ) → IsRunOf is_digit part → next_of (part ++ rest) ≡ value_next (part ++ rest)
next_digits [] rest run = absurd (omega (arith, run.1))
next_digits (b ∷ part) rest run =
    let is = first_passes is_digit b part run.0 in
    let mark = digit_mark b is in
    rw (mark.0.0, mark.0.1, mark.1, is) refl

value_of-there : (part : List ℕ) (n : ℕ) → IsValue part n → value_of part ≡ Some n
value_of-there part n v =
    let some : nat_lt 0 (length part) ≡ true = grind (arith, nat_tests, v.some) in
    let most : nat_le (length part) 18 ≡ true = grind (arith, nat_tests, v.most) in
    rw (some, most) (ap Some v.number)

next_part : (part : List ℕ) (t : Token) (rest : List ℕ) → IsPart part t → MayStandBehind t rest → next_of (part ++ rest) ≡ Some (t, rest)
next_part part (token.Word w) rest is behind =
    let run = word_text-letters w in
    let cut = cut_off is_letter (word_text w) rest run.0 (stops-letters rest behind) in
    ap (λ p. next_of (p ++ rest)) is ∙ next_letters (word_text w) rest run ∙ rw (cut.front_is, cut.past_is, word_of-there w, behind) refl
next_part part (token.Value n) rest is behind =
    let run : IsRunOf is_digit part = (is.are_digits, is.some) in
    let cut = cut_off is_digit part rest is.are_digits (stops-digits rest behind) in
    next_digits part rest run ∙ rw (cut.front_is, cut.past_is, value_of-there part n is, behind) refl
next_part part (token.Sign sign.Colon) rest is behind = ap (λ p. next_of (p ++ rest)) is
next_part part (token.Sign sign.Percent) rest is behind = ap (λ p. next_of (p ++ rest)) is
next_part part (token.Sign sign.Equal) rest is behind = ap (λ p. next_of (p ++ rest)) is
next_part part (token.Sign sign.Differ) rest is behind = ap (λ p. next_of (p ++ rest)) is
next_part part (token.Sign sign.Comma) rest is behind = ap (λ p. next_of (p ++ rest)) is
next_part part (token.Sign sign.To) rest is behind = ap (λ p. next_of (p ++ rest)) is
next_part part token.Comment rest is behind = ap (λ p. next_of (p ++ rest)) is.1 ∙ ap (λ r. Some (token.Comment, r)) (sym behind)
next_part part token.Samples rest is behind = ap (λ p. next_of (p ++ rest)) is.1 ∙ ap (λ r. Some (token.Samples, r)) (sym behind)

pub next_of-there : (text : List ℕ) (t : Token) (rest : List ℕ) → IsNext text t rest → next_of text ≡ Some (t, rest)
next_of-there text t rest next = ap next_of next.parts ∙ next_part next.part t rest next.is next.behind

-- ---- the tokens, from what is next

abbrev Sound : List ℕ → Option Next → Type 0
Sound text None = ⊤
Sound text (Some n) = IsNext text n.0 n.1

sound_word : (text : List ℕ) → Sound text (word_next text)
sound_word text = by (word_of (front is_letter text)) refl (begins_run (past is_letter text)) refl
  where
    by : (o : Option Word) → word_of (front is_letter text) ≡ o → (t : Bool) → begins_run (past is_letter text) ≡ t → Sound text (word_next text)
    by None is t free = rw is tt
    by (Some w) is true free = rw (is, free) tt
    by (Some w) is false free = rw (is, free) (record {
      part = front is_letter text;
      parts = front-past is_letter text;
      is = find_word-only (front is_letter text) WORDS w is;
      behind = free;
    })

value_of-only : (ds : List ℕ) (n : ℕ) → list_all is_digit ds ≡ true → value_of ds ≡ Some n → IsValue ds n
value_of-only ds n all e = by (nat_lt 0 (length ds)) refl (nat_le (length ds) 18) refl e
  where
    by : (t : Bool) → nat_lt 0 (length ds) ≡ t → (u : Bool) → nat_le (length ds) 18 ≡ u → (if t && u then Some (number_after 0 ds) else None) ≡ Some n → IsValue ds n
    by true t true u e = record { are_digits = all; some = grind (arith, nat_tests); most = grind (arith, nat_tests); number = cc }
    by true t false u e = absurd cc
    by false t u u_is e = absurd cc

sound_value : (text : List ℕ) → Sound text (value_next text)
sound_value text = by (value_of (front is_digit text)) refl (begins_run (past is_digit text)) refl
  where
    by : (o : Option ℕ) → value_of (front is_digit text) ≡ o → (t : Bool) → begins_run (past is_digit text) ≡ t → Sound text (value_next text)
    by None is t free = rw is tt
    by (Some n) is true free = rw (is, free) tt
    by (Some n) is false free = rw (is, free) (record {
      part = front is_digit text;
      parts = front-past is_digit text;
      is = value_of-only (front is_digit text) n (front-all is_digit text) is;
      behind = free;
    })

sound_two : (b c : ℕ) (s : Sign) → sign_text s ≡ b ∷ c ∷ [] → (bytes : List ℕ) → Sound (b ∷ bytes) (if_next c s bytes)
sound_two b c s is [] = tt
sound_two b c s is (d ∷ bytes) = by (nat_eq d c) refl
  where
    by : (t : Bool) → nat_eq d c ≡ t → Sound (b ∷ d ∷ bytes) (if_next c s (d ∷ bytes))
    by true t = rw t (record {
      part = b ∷ c ∷ [];
      parts = ap (λ x. b ∷ x ∷ bytes) (eqb-true d c t);
      is = sym is;
      behind = tt;
    })
    by false t = rw t tt

sound_one : (b c : ℕ) (s : Sign) (bytes : List ℕ) → sign_text s ≡ c ∷ [] → b ≡ c → IsNext (b ∷ bytes) (token.Sign s) bytes
sound_one b c s bytes is same = record { part = c ∷ []; parts = ap (λ x. x ∷ bytes) same; is = sym is; behind = tt }

sound_if : (text : List ℕ) (t : Bool) (n m : Option Next) → (t ≡ true → Sound text n) → (t ≡ false → Sound text m) → Sound text (if t then n else m)
sound_if text true n m f g = f refl
sound_if text false n m f g = g refl

sound_pair : (b a c : ℕ) (s : Sign) (bytes : List ℕ) → sign_text s ≡ a ∷ c ∷ [] → nat_eq b a ≡ true → Sound (b ∷ bytes) (if_next c s bytes)
sound_pair b a c s bytes is t = subst (λ x. Sound (x ∷ bytes) (if_next c s bytes)) (sym (eqb-true b a t)) (sound_two a c s is bytes)

sound_sign : (text : List ℕ) → Sound text (sign_next text)
sound_sign [] = tt
sound_sign (b ∷ bytes) =
    sound_if (b ∷ bytes) (nat_eq b 58) _ _ (λ t. sound_one b 58 sign.Colon bytes refl (eqb-true b 58 t)) (λ f1.
    sound_if (b ∷ bytes) (nat_eq b 37) _ _ (λ t. sound_one b 37 sign.Percent bytes refl (eqb-true b 37 t)) (λ f2.
    sound_if (b ∷ bytes) (nat_eq b 61) _ _ (λ t. sound_one b 61 sign.Equal bytes refl (eqb-true b 61 t)) (λ f3.
    sound_if (b ∷ bytes) (nat_eq b 33) _ _ (sound_pair b 33 61 sign.Differ bytes refl) (λ f4.
    sound_if (b ∷ bytes) (nat_eq b 44) _ _ (λ t. sound_one b 44 sign.Comma bytes refl (eqb-true b 44 t)) (λ f5.
    sound_if (b ∷ bytes) (nat_eq b 46) _ _ (sound_pair b 46 46 sign.To bytes refl) (λ f6. tt))))))

sound_rest : (mark : ℕ) (t : Token) (b : ℕ) (bytes : List ℕ) → nat_eq b mark ≡ true → (IsPart (mark ∷ bytes) t) → MayStandBehind t [] → IsNext (b ∷ bytes) t []
sound_rest mark t b bytes e is behind = record {
  part = mark ∷ bytes;
  parts = ap (λ x. x ∷ bytes) (eqb-true b mark e) ∙ sym (append-nil (mark ∷ bytes));
  is = is;
  behind = behind;
}

sound_next : (text : List ℕ) → Sound text (next_of text)
sound_next [] = tt
sound_next (b ∷ bytes) =
    sound_if (b ∷ bytes) (nat_eq b 35) _ _ (λ t. sound_rest 35 token.Comment b bytes t (bytes, refl) refl) (λ f1.
    sound_if (b ∷ bytes) (nat_eq b 64) _ _ (λ t. sound_rest 64 token.Samples b bytes t (bytes, refl) refl) (λ f2.
    sound_if (b ∷ bytes) (is_letter b) _ _ (λ t. sound_word (b ∷ bytes)) (λ f3.
    sound_if (b ∷ bytes) (is_digit b) _ _ (λ t. sound_value (b ∷ bytes)) (λ f4. sound_sign (b ∷ bytes)))))

pub next_of-only : (text : List ℕ) (t : Token) (rest : List ℕ) → next_of text ≡ Some (t, rest) → IsNext text t rest
next_of-only text t rest e = subst (Sound text) e (sound_next text)

part-some : (part : List ℕ) (t : Token) → IsPart part t → 0 < length part
part-some part (token.Word w) is = rw is (word_text-letters w).1
part-some part (token.Value n) is = is.some
part-some part (token.Sign sign.Colon) is = rw is (omega arith)
part-some part (token.Sign sign.Percent) is = rw is (omega arith)
part-some part (token.Sign sign.Equal) is = rw is (omega arith)
part-some part (token.Sign sign.Differ) is = rw is (omega arith)
part-some part (token.Sign sign.Comma) is = rw is (omega arith)
part-some part (token.Sign sign.To) is = rw is (omega arith)
part-some part token.Comment is = rw is.1 (omega arith)
part-some part token.Samples is = rw is.1 (omega arith)

pub next_of-shorter : (text : List ℕ) (t : Token) (rest : List ℕ) → next_of text ≡ Some (t, rest) → length rest < length text
next_of-shorter text t rest e =
    let next = next_of-only text t rest e in
    let some = part-some next.part t next.is in
    let len : length text ≡ length next.part + length rest = ap length next.parts ∙ length-append next.part rest in
    omega (arith, some, len)

pub past-shorter : (p : ℕ → Bool) (text : List ℕ) → length (past p text) ≤ length text
past-shorter p [] = omega arith
past-shorter p (b ∷ text) = by (past-shorter p text) (p b) refl
  where
    by : length (past p text) ≤ length text → (t : Bool) → p b ≡ t → length (past p (b ∷ text)) ≤ length (b ∷ text)
    by later true t = rw t (omega arith)
    by later false t = rw t (omega arith)

-- ---- all tokens

-- the tokens of a text that begins with no blank
abbrev pub SpellsFrom : List ℕ → List Token → Type 0
SpellsFrom text [] = text ≡ []
SpellsFrom text (t ∷ ts) = (rest : List ℕ) × IsNext text t rest × Spells rest ts

from_blanks : (text : List ℕ) (ts : List Token) → SpellsFrom (past is_blank text) ts → Spells text ts
from_blanks text [] s = s
from_blanks text (t ∷ ts) s = s

to_blanks : (text : List ℕ) (ts : List Token) → Spells text ts → SpellsFrom (past is_blank text) ts
to_blanks text [] s = s
to_blanks text (t ∷ ts) s = s

-- the first tokens stand there, and only they
pub record IsScanning (text : List ℕ) (done : List Token) (rest : List ℕ) : Type 0 where
  pub there : (ts : List Token) → SpellsFrom rest ts → Spells text (done ++ ts)
  pub only : (ts : List Token) → Spells text ts → (later : List Token) × (ts ≡ done ++ later) × SpellsFrom rest later

pub IsScanning-start : (text : List ℕ) → IsScanning text [] (past is_blank text)
IsScanning-start text = record { there = from_blanks text; only = λ ts s. (ts, refl, to_blanks text ts s) }

pub IsScanning-step : (text : List ℕ) (done : List Token) (rest : List ℕ) (t : Token) (behind : List ℕ) → IsScanning text done rest →
    next_of rest ≡ Some (t, behind) → IsScanning text (done ++ t ∷ []) (past is_blank behind)
IsScanning-step text done rest t behind so_far next = record {
  there = λ ts s. subst (Spells text) (sym (append_assoc done (t ∷ []) ts)) (so_far.there (t ∷ ts) (behind, next_of-only rest t behind next, from_blanks behind ts s));
  only = λ ts s. let l = so_far.only ts s in step ts l.0 l.1 l.2;
}
  where
    step : (ts later : List Token) → ts ≡ done ++ later → SpellsFrom rest later → (after : List Token) × (ts ≡ (done ++ t ∷ []) ++ after) × SpellsFrom (past is_blank behind) after
    step ts [] is none = let h : next_of [] ≡ Some (t, behind) = ap next_of (sym none) ∙ next in absurd cc
    step ts (u ∷ us) is s =
        let same : Some (u, s.0) ≡ Some (t, behind) = sym (next_of-there rest u s.0 s.1) ∙ next in
        let pair : (u, s.0) ≡ (t, behind) = cc in
        let first : u ≡ t = ap (λ (p : Next). p.0) pair in
        let behind_is : s.0 ≡ behind = ap (λ (p : Next). p.1) pair in
        (us, is ∙ ap (λ x. done ++ x ∷ us) first ∙ sym (append_assoc done (t ∷ []) us), to_blanks behind us (subst (λ r. Spells r us) behind_is s.2))

pub IsScanning-end : (text : List ℕ) (done : List Token) (rest : List ℕ) → IsScanning text done rest → rest ≡ [] → Spells text done
IsScanning-end text done rest so_far none = subst (Spells text) (append-nil done) (so_far.there [] none)

none_some : {A : Type 0} → (o : Option A) (x : A) → o ≡ None → o ≡ Some x → ⊥
none_some None x n s = absurd cc
none_some (Some y) x n s = absurd cc

pub IsScanning-none : (text : List ℕ) (done : List Token) (rest : List ℕ) → IsScanning text done rest → ¬ (rest ≡ []) → next_of rest ≡ None → ¬ AreTokens text
IsScanning-none text done rest so_far some none tokens = let l = so_far.only tokens.0 tokens.1 in step l.0 l.2
  where
    step : (later : List Token) → SpellsFrom rest later → ⊥
    step [] s = some s
    step (u ∷ us) s = none_some (next_of rest) (u, s.0) none (next_of-there rest u s.0 s.1)

-- a text is one list of tokens at most
pub spells_one : (text : List ℕ) (ts us : List Token) → Spells text ts → Spells text us → ts ≡ us
spells_one text [] [] s r = refl
spells_one text [] (u ∷ us) s r = let h : next_of [] ≡ Some (u, r.0) = ap next_of (sym s) ∙ next_of-there (past is_blank text) u r.0 r.1 in absurd cc
spells_one text (t ∷ ts) [] s r = let h : next_of [] ≡ Some (t, s.0) = ap next_of (sym r) ∙ next_of-there (past is_blank text) t s.0 s.1 in absurd cc
spells_one text (t ∷ ts) (u ∷ us) s r =
    let same : Some (t, s.0) ≡ Some (u, r.0) = sym (next_of-there (past is_blank text) t s.0 s.1) ∙ next_of-there (past is_blank text) u r.0 r.1 in
    let pair : (t, s.0) ≡ (u, r.0) = cc in
    let first : t ≡ u = ap (λ (p : Next). p.0) pair in
    let behind_is : s.0 ≡ r.0 = ap (λ (p : Next). p.1) pair in
    let rest = spells_one r.0 ts us (subst (λ l. Spells l ts) behind_is s.2) r.2 in
    (λ j. first j ∷ rest j)

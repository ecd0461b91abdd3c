-- Reading a template mark by mark.
use Rattle.std.proofs.Common.{◌≡◌, ℕ, zero, suc, ◌+◌, ◌*◌, ◌-◌, ◌<◌, ◌≤◌, Bool, true, false, not, ◌&&◌, nat_eq, nat_lt, ◌⊎◌, inl, inr, List, [], ◌∷◌, ◌++◌, map, length, get_or, Option, Some, None, IsUtf8, encode_utf8, Bor, refl, sym, ap, ◌∙◌, subst, arith, append-nil, length-append}
use Rattle.std.proofs.lemmas.Str.{inside_one, encode_ascii, char_from_byte, length-encode, len_utf8_bounds}
use Rattle.std.proofs.lemmas.Bool.Decides.{nat_tests}
use Rattle.yarn_value.specs.Numbers.{is_digit}
use Rattle.yarn_value.specs.Templates as templates
use Rattle.yarn_value.specs.Templates.{Place, Plain, Behind, Opened, Digits, Stands, Brace, Placeholder, marks, before, is_brace}
use Rattle.yarn_value.specs.declared.mark.Mark.TheVariants.{Char, Backslashes, OpenBrace, CloseBrace, Hole}
use Rattle.yarn_value.specs.TemplateSteps.{marks_in, all_before, IsStep, digit_next, IsDigit}

differs : (a b : ℕ) → ¬ (a ≡ b) → nat_eq a b ≡ false
differs a b h = grind (arith, nat_tests)

none_before : (o : Option (List templates.Mark)) → all_before [] o ≡ o
none_before None = refl
none_before (Some ms) = refl

one_before : (m : templates.Mark) (o : Option (List templates.Mark)) → before m o ≡ all_before (m ∷ []) o
one_before m None = refl
one_before m (Some ms) = refl

more_before : (m : templates.Mark) (front : List templates.Mark) (o : Option (List templates.Mark)) → before m (all_before front o) ≡ all_before (m ∷ front) o
more_before m front None = refl
more_before m front (Some ms) = refl

-- ---- characters

plain_bytes : (holes : ℕ) (bytes after : List ℕ) → ((k : ℕ) → k < length bytes → ¬ (get_or bytes k 0 ≡ 92)) → ((k : ℕ) → k < length bytes → ¬ (get_or bytes k 0 ≡ 123)) →
    marks holes Plain (bytes ++ after) ≡ all_before (map Stands bytes) (marks holes Plain after)
plain_bytes holes [] after n m = sym (none_before (marks holes Plain after))
plain_bytes holes (b ∷ bytes) after n m =
    let first : nat_eq b 92 ≡ false = differs b 92 (n 0 (omega arith)) in
    let second : nat_eq b 123 ≡ false = differs b 123 (m 0 (omega arith)) in
    let rest : marks holes Plain (bytes ++ after) ≡ all_before (map Stands bytes) (marks holes Plain after) =
    plain_bytes holes bytes after (λ k h. n (suc k) (omega arith)) (λ k h. m (suc k) (omega arith)) in
    rw (first, second) (ap (before (Stands b)) rest ∙ more_before (Stands b) (map Stands bytes) (marks holes Plain after))

byte_not : (c d k : ℕ) → d < 128 → ¬ (c ≡ d) → k < length (encode_utf8 c) → ¬ (get_or (encode_utf8 c) k 0 ≡ d)
byte_not c d k small n h e = n (inside_one c [] (encode_utf8 c) k (sym (append-nil (encode_utf8 c))) h (omega arith) ∙ e)

pub plain_step : (holes c : ℕ) (rest : Bor (List ℕ)) → IsUtf8 rest.now → ¬ (c ≡ 92) → ¬ (c ≡ 123) → IsStep holes Plain (encode_utf8 c ++ rest.now) (record { mark = Char c; rest = rest })
plain_step holes c rest utf8 n m = record {
  goes = plain_bytes holes (encode_utf8 c) rest.now (λ k h. byte_not c 92 k (omega arith) n h) (λ k h. byte_not c 123 k (omega arith) m h);
  utf8 = utf8;
  shorter = omega (arith, length-append (encode_utf8 c) rest.now);
}

-- ---- behind a backslash

pub open_step : (holes : ℕ) (text : List ℕ) (rest : Bor (List ℕ)) → text ≡ 123 ∷ rest.now → IsUtf8 rest.now → IsStep holes Behind text (record { mark = OpenBrace; rest = rest })
open_step holes text rest bytes utf8 = record {
  goes = ap (marks holes Behind) bytes ∙ one_before (Brace 123) (marks holes Plain rest.now);
  utf8 = utf8;
  shorter = omega (arith, ap length bytes);
}

pub close_step : (holes : ℕ) (text : List ℕ) (rest : Bor (List ℕ)) → text ≡ 125 ∷ rest.now → IsUtf8 rest.now → IsStep holes Behind text (record { mark = CloseBrace; rest = rest })
close_step holes text rest bytes utf8 = record {
  goes = ap (marks holes Behind) bytes ∙ one_before (Brace 125) (marks holes Plain rest.now);
  utf8 = utf8;
  shorter = omega (arith, ap length bytes);
}

pub backslashes_step : (holes : ℕ) (text : List ℕ) (rest : Bor (List ℕ)) → text ≡ 92 ∷ rest.now → IsUtf8 rest.now → IsStep holes Behind text (record { mark = Backslashes; rest = rest })
backslashes_step holes text rest bytes utf8 =
    let goes : marks holes Behind (92 ∷ rest.now) ≡ all_before (Stands 92 ∷ Stands 92 ∷ []) (marks holes Plain rest.now) =
    ap (before (Stands 92)) (one_before (Stands 92) (marks holes Plain rest.now)) ∙ more_before (Stands 92) (Stands 92 ∷ []) (marks holes Plain rest.now) in
    record {
      goes = ap (marks holes Behind) bytes ∙ goes;
      utf8 = utf8;
      shorter = omega (arith, ap length bytes);
    }

first_byte : (holes b : ℕ) (bytes : List ℕ) → ¬ (b ≡ 92) → ¬ (b ≡ 123) → ¬ (b ≡ 125) → marks holes Behind (b ∷ bytes) ≡ all_before (Stands 92 ∷ []) (marks holes Plain (b ∷ bytes))
first_byte holes b bytes n m l =
    let backslash : nat_eq b 92 ≡ false = differs b 92 n in
    let opening : nat_eq b 123 ≡ false = differs b 123 m in
    let closing : nat_eq b 125 ≡ false = differs b 125 l in
    rw (opening, closing, backslash) (one_before (Stands 92) (before (Stands b) (marks holes Plain bytes)))

backslash_is : marks_in (Char 92) ≡ Stands 92 ∷ []
backslash_is = ap (map Stands) (encode_ascii 92 (omega arith))

pub lone_step : (holes c : ℕ) (text : Bor (List ℕ)) (rest : List ℕ) → IsUtf8 text.now → text.now ≡ encode_utf8 c ++ rest → ¬ (c ≡ 92) → ¬ (c ≡ 123) → ¬ (c ≡ 125) → IsStep holes Behind text.now (record { mark = Char 92; rest = text })
lone_step holes c text rest utf8 bytes n m l = by_bytes (encode_utf8 c) refl
  where
    by_bytes : (front : List ℕ) → encode_utf8 c ≡ front → IsStep holes Behind text.now (record { mark = Char 92; rest = text })
    by_bytes [] is = absurd (omega (arith, length-encode c, len_utf8_bounds c, ap length is))
    by_bytes (b ∷ front) is =
        let same : b < 128 → c ≡ b = λ small. char_from_byte (b ∷ front) [] c (sym is ∙ sym (append-nil (encode_utf8 c))) small (omega arith) in
        let whole : text.now ≡ b ∷ (front ++ rest) = bytes ∙ ap (λ x. x ++ rest) is in
        let goes : marks holes Behind (b ∷ (front ++ rest)) ≡ all_before (Stands 92 ∷ []) (marks holes Plain (b ∷ (front ++ rest))) =
        first_byte holes b (front ++ rest) (λ e. n (same (omega arith) ∙ e)) (λ e. m (same (omega arith) ∙ e)) (λ e. l (same (omega arith) ∙ e)) in
        record {
          goes =
              subst (λ x. marks holes Behind x ≡ all_before (Stands 92 ∷ []) (marks holes Plain x)) (sym whole) goes
              ∙ ap (λ front. all_before front (marks holes Plain text.now)) (sym backslash_is);
          utf8 = utf8;
          shorter = omega arith;
        }

not_below : (k holes : ℕ) → holes ≤ k → nat_lt k holes ≡ false
not_below k holes h = grind (arith, nat_tests)

is_below : (k holes : ℕ) → k < holes → nat_lt k holes ≡ true
is_below k holes h = grind (arith, nat_tests)

eqb_is : (a b : ℕ) → nat_eq a b ≡ true → a ≡ b
eqb_is a b h = grind (arith, nat_tests)

-- ---- placeholders

digit_is : (d : ℕ) → d ≤ 9 → is_digit (d + 48) ≡ true
digit_is d h = grind (arith, nat_tests)

digit_not : (c : ℕ) → (c < 48) ⊎ (57 < c) → is_digit c ≡ false
digit_not c h = grind (arith, nat_tests)

digit_byte : (c b : ℕ) → (c < 48) ⊎ (57 < c) → (b < 128 → c ≡ b) → is_digit b ≡ false
digit_byte c b n same = grind (arith, nat_tests)

pub no_digit : (c : ℕ) (text rest : List ℕ) → (c < 48) ⊎ (57 < c) → text ≡ encode_utf8 c ++ rest → digit_next text ≡ false
no_digit c [] rest n is = refl
no_digit c (b ∷ text) rest n is = digit_byte c b n (λ small. char_from_byte (b ∷ text) rest c is small (omega arith))

pub opened : (holes digit : ℕ) (text rest : List ℕ) → IsDigit text digit rest → marks holes Opened text ≡ marks holes (Digits digit) rest
opened holes digit text rest is =
    let first : is_digit (digit + 48) ≡ true = digit_is digit is.small in
    let value : digit + 48 - 48 ≡ digit = omega arith in
    ap (marks holes Opened) is.bytes ∙ (rw (first, value) refl)

closing_not : (d : ℕ) → d ≤ 9 → nat_eq (d + 48) 125 ≡ false
closing_not d h = grind (arith, nat_tests)

pub longer_is : (holes number digit : ℕ) (text rest : List ℕ) → IsDigit text digit rest → ¬ (number ≡ 0) → marks holes (Digits number) text ≡ marks holes (Digits (number * 10 + digit)) rest
longer_is holes number digit text rest is some =
    let first : is_digit (digit + 48) ≡ true = digit_is digit is.small in
    let closing : nat_eq (digit + 48) 125 ≡ false = closing_not digit is.small in
    let zero : nat_eq number 0 ≡ false = differs number 0 some in
    let value : digit + 48 - 48 ≡ digit = omega arith in
    ap (marks holes (Digits number)) is.bytes ∙ (rw (closing, first, zero, value) refl)

leading_zero : (holes digit : ℕ) (text rest : List ℕ) → IsDigit text digit rest → marks holes (Digits 0) text ≡ None
leading_zero holes digit text rest is =
    let first : is_digit (digit + 48) ≡ true = digit_is digit is.small in
    let closing : nat_eq (digit + 48) 125 ≡ false = closing_not digit is.small in
    ap (marks holes (Digits 0)) is.bytes ∙ (rw (closing, first) refl)

-- a number that is too large stays so
too_large : (holes k : ℕ) (text : List ℕ) → holes ≤ k → marks holes (Digits k) text ≡ None
too_large holes k [] h = refl
too_large holes k (b ∷ text) h = by_tests (nat_eq b 125) refl (is_digit b && not (nat_eq k 0)) refl (too_large holes (k * 10 + (b - 48)) text (omega arith))
  where
    by_tests : (s : Bool) → nat_eq b 125 ≡ s → (t : Bool) → (is_digit b && not (nat_eq k 0)) ≡ t → marks holes (Digits (k * 10 + (b - 48))) text ≡ None → marks holes (Digits k) (b ∷ text) ≡ None
    by_tests true is t it below = let large : nat_lt k holes ≡ false = not_below k holes h in rw is (rw large refl)
    by_tests false is true it below = rw (is, it) below
    by_tests false is false it below = rw (is, it) refl

pub refused : (holes number digit : ℕ) (text rest : List ℕ) → IsDigit text digit rest → (number ≡ 0) ⊎ (holes ≤ number * 10 + digit) → marks holes (Digits number) text ≡ None
refused holes number digit text rest is (inl none) = ap (λ n. marks holes (Digits n) text) none ∙ leading_zero holes digit text rest is
refused holes zero digit text rest is (inr large) = leading_zero holes digit text rest is
refused holes (suc n) digit text rest is (inr large) = longer_is holes (suc n) digit text rest is (λ e. omega arith) ∙ too_large holes (suc n * 10 + digit) rest large

pub closed_step : (holes number : ℕ) (text : List ℕ) (rest : Bor (List ℕ)) → text ≡ 125 ∷ rest.now → number < holes → IsUtf8 rest.now → IsStep holes (Digits number) text (record { mark = Hole number; rest = rest })
closed_step holes number text rest bytes h utf8 =
    let below : nat_lt number holes ≡ true = is_below number holes h in
    let goes : marks holes (Digits number) (125 ∷ rest.now) ≡ all_before (Placeholder number ∷ []) (marks holes Plain rest.now) = rw below (one_before (Placeholder number) (marks holes Plain rest.now)) in
    record {
      goes = ap (marks holes (Digits number)) bytes ∙ goes;
      utf8 = utf8;
      shorter = omega (arith, ap length bytes);
    }

-- a number that no digit and no `}` follows, or that is too large
pub not_closed : (holes number : ℕ) (text : List ℕ) → digit_next text ≡ false → ((rest : List ℕ) → text ≡ 125 ∷ rest → holes ≤ number) → marks holes (Digits number) text ≡ None
not_closed holes number [] none n = refl
not_closed holes number (b ∷ text) none n = by_test (nat_eq b 125) refl
  where
    by_test : (s : Bool) → nat_eq b 125 ≡ s → marks holes (Digits number) (b ∷ text) ≡ None
    by_test true is =
        let same : b ≡ 125 = eqb_is b 125 is in
        too_large holes number (b ∷ text) (n text (ap (λ x. x ∷ text) same))
    by_test false is = rw (is, none) refl

-- the first character of a text that begins with an ASCII byte
pub first_is : (c b : ℕ) (text behind rest : List ℕ) → text ≡ encode_utf8 c ++ behind → text ≡ b ∷ rest → b < 128 → c ≡ b
first_is c b text behind rest bytes is small =
    let byte : get_or text 0 0 ≡ b = ap (λ l. get_or l 0 0) is in
    char_from_byte text behind c bytes (omega arith) (omega (arith, ap length is)) ∙ byte

-- What the scan of a line's bytes finds is its number.
use Rattle.std.proofs.Common.{◌≡◌, ℕ, zero, suc, ◌+◌, ◌-◌, ◌*◌, ◌^◌, ◌≤◌, ◌<◌, List, [], ◌∷◌, length, Bool, true, false, nat_le, nat_lt, ◌&&◌, if◌then◌else◌, refl, sym, ap, ◌∙◌, arith}
use Rattle.std.proofs.Math.Nat.{pow-le-pow_right}
use Rattle.std.proofs.lemmas.Grind.{pow_more}
use Rattle.std.proofs.lemmas.Bool.Decides.{nat_tests}
use Rattle.std.specs.List.{list_all}
use Rattle.yarn_value.specs.Numbers.{is_digit, value_after}
use Rattle.yarn_code.specs.Answer.{is_blank, behind_blanks, before_blanks, trimmed, is_short, number_of}
use Rattle.yarn_code.specs.Scan.{scanned, scan_number}
use Rattle.yarn_code.specs.declared.scan.Scan.{Scan}
use Rattle.yarn_code.specs.declared.scan.Scan.TheVariants.{Blank, Digits, Behind, Bad}

pub small_value : (value count : ℕ) → value < 10 ^ count → count < 9 → value < 100000000
small_value value count small few =
    let positive : zero < 10 = omega arith in
    let le : count ≤ 8 = omega arith in
    omega (arith, pow-le-pow_right positive le, small)

pub small_digit : (b : ℕ) → is_digit b ≡ true → b - 48 ≤ 9
small_digit b is = grind (arith, nat_tests)

pub one_more_digit : (value count digit : ℕ) → value < 10 ^ count → digit ≤ 9 → value * 10 + digit < 10 ^ (count + 1)
one_more_digit value count digit small one = omega (arith, pow_more 10 count)

abbrev pub scans : Scan → List ℕ → Scan
scans s [] = s
scans s (b ∷ bytes) = scans (scanned s b) bytes

bad : (bytes : List ℕ) → scan_number (scans Bad bytes) ≡ 0
bad [] = refl
bad (b ∷ bytes) = bad bytes

behind : (value : ℕ) (bytes : List ℕ) → scan_number (scans (Behind value) bytes) ≡ (if list_all is_blank bytes then value else 0)
behind value [] = refl
behind value (b ∷ bytes) = by_test (behind value bytes) (is_blank b) refl
  where
    by_test : scan_number (scans (Behind value) bytes) ≡ (if list_all is_blank bytes then value else 0) →
        (t : Bool) → is_blank b ≡ t → scan_number (scans (Behind value) (b ∷ bytes)) ≡ (if list_all is_blank (b ∷ bytes) then value else 0)
    by_test later true is = rw is later
    by_test later false is = rw is (bad bytes)

-- the number of digits behind others, of such a value and so many
number_from : ℕ → ℕ → List ℕ → ℕ
number_from value count digits = if list_all is_digit digits && nat_le (count + length digits) 9 then value_after value digits else 0

from_none : (value count : ℕ) → count ≤ 9 → number_from value count [] ≡ value
unfolding number_from
from_none value count few = let small : nat_le (count + 0) 9 ≡ true = grind (arith, nat_tests) in rw small refl

from_other : (value count b : ℕ) (digits : List ℕ) → is_digit b ≡ false → number_from value count (b ∷ digits) ≡ 0
unfolding number_from
from_other value count b digits other = rw other refl

from_digit : (value count b : ℕ) (digits : List ℕ) → is_digit b ≡ true →
    number_from value count (b ∷ digits) ≡ number_from (value * 10 + (b - 48)) (count + 1) digits
unfolding number_from
from_digit value count b digits is = let e : count + suc (length digits) ≡ count + 1 + length digits = omega arith in rw (is, e) refl

from_many : (value count : ℕ) (digits : List ℕ) → 9 < count → number_from value count digits ≡ 0
unfolding number_from
from_many value count digits many =
    let large : nat_le (count + length digits) 9 ≡ false = grind (arith, nat_tests) in rw large (neither (list_all is_digit digits))
  where
    neither : (t : Bool) → (if t && false then value_after value digits else 0) ≡ 0
    neither true = refl
    neither false = refl

blank_other : (b : ℕ) → is_blank b ≡ true → is_digit b ≡ false
unfolding is_blank
blank_other b is = grind (arith, nat_tests)

-- what stands before the blanks, by the first byte
keeps_first : (b : ℕ) (bytes : List ℕ) → list_all is_blank (b ∷ bytes) ≡ false → before_blanks (b ∷ bytes) ≡ b ∷ before_blanks bytes
unfolding before_blanks
keeps_first b bytes other = rw other refl

all_blank : (b : ℕ) (bytes : List ℕ) → list_all is_blank (b ∷ bytes) ≡ true → before_blanks (b ∷ bytes) ≡ []
unfolding before_blanks
all_blank b bytes is = rw is refl

not_first : (b : ℕ) (bytes : List ℕ) → is_blank b ≡ false → list_all is_blank (b ∷ bytes) ≡ false
not_first b bytes other = rw other refl

nothing_before : before_blanks [] ≡ []
unfolding before_blanks
nothing_before = refl

trims_first : (b : ℕ) (bytes : List ℕ) → is_blank b ≡ true → trimmed (b ∷ bytes) ≡ trimmed bytes
unfolding trimmed behind_blanks
trims_first b bytes is = rw is refl

trims_end : (b : ℕ) (bytes : List ℕ) → is_blank b ≡ false → trimmed (b ∷ bytes) ≡ b ∷ before_blanks bytes
unfolding trimmed behind_blanks
trims_end b bytes other = rw other (keeps_first b bytes (not_first b bytes other))

if_true : (t : Bool) (value : ℕ) → t ≡ true → (if t then value else 0) ≡ value
if_true t value is = rw is refl

if_false : (t : Bool) (value : ℕ) → t ≡ false → (if t then value else 0) ≡ 0
if_false t value is = rw is refl

nothing : number_of (trimmed []) ≡ 0
unfolding trimmed behind_blanks before_blanks number_of is_short
nothing = refl

-- the steps of the scan from the start on
first_blank : (b : ℕ) → is_blank b ≡ true → scanned Blank b ≡ Blank
first_blank b is = rw is refl

first_digit : (b : ℕ) → is_blank b ≡ false → is_digit b ≡ true → scanned Blank b ≡ Digits (0 * 10 + (b - 48)) (0 + 1)
first_digit b other is = rw (other, is) refl

first_bad : (b : ℕ) → is_blank b ≡ false → is_digit b ≡ false → scanned Blank b ≡ Bad
first_bad b other is = rw (other, is) refl

-- the steps of the scan from digits on
to_behind : (value count b : ℕ) → is_blank b ≡ true → scanned (Digits value count) b ≡ Behind value
to_behind value count b is = rw is refl

to_bad : (value count b : ℕ) → is_blank b ≡ false → is_digit b ≡ false → scanned (Digits value count) b ≡ Bad
to_bad value count b other is = rw (other, is) refl

to_more : (value count b : ℕ) → is_blank b ≡ false → is_digit b ≡ true → nat_lt count 9 ≡ true → scanned (Digits value count) b ≡ Digits (value * 10 + (b - 48)) (count + 1)
to_more value count b other is lt = rw (other, is, lt) refl

to_many : (value count b : ℕ) → is_blank b ≡ false → is_digit b ≡ true → nat_lt count 9 ≡ false → scanned (Digits value count) b ≡ Bad
to_many value count b other is ge = rw (other, is, ge) refl

-- digits so far, and the other bytes of the line
abbrev Reads : List ℕ → ℕ → ℕ → Type 0
Reads bytes value count = scan_number (scans (Digits value count) bytes) ≡ number_from value count (before_blanks bytes)

digits : (value count : ℕ) (bytes : List ℕ) → count ≤ 9 → Reads bytes value count
digits value count [] few = sym (ap (number_from value count) nothing_before ∙ from_none value count few)
digits value count (b ∷ bytes) few = by_blank (λ v c. digits v c bytes) (is_blank b) refl
  where
    at_blank : is_blank b ≡ true → (t : Bool) → list_all is_blank bytes ≡ t → Reads (b ∷ bytes) value count
    at_blank is true all =
        ap (λ s. scan_number (scans s bytes)) (to_behind value count b is) ∙ (behind value bytes ∙ if_true (list_all is_blank bytes) value all)
        ∙ sym (ap (number_from value count) (all_blank b bytes (rw (is, all) refl)) ∙ from_none value count few)
    at_blank is false all =
        ap (λ s. scan_number (scans s bytes)) (to_behind value count b is) ∙ (behind value bytes ∙ if_false (list_all is_blank bytes) value all)
        ∙ sym (ap (number_from value count) (keeps_first b bytes (rw (is, all) refl)) ∙ from_other value count b (before_blanks bytes) (blank_other b is))

    kept : is_blank b ≡ false → number_from value count (before_blanks (b ∷ bytes)) ≡ number_from value count (b ∷ before_blanks bytes)
    kept other = ap (number_from value count) (keeps_first b bytes (not_first b bytes other))

    by_count : ((v c : ℕ) → c ≤ 9 → Reads bytes v c) → is_blank b ≡ false → is_digit b ≡ true → (t : Bool) → nat_lt count 9 ≡ t → Reads (b ∷ bytes) value count
    by_count later other is true lt =
        let more : count + 1 ≤ 9 = grind (arith, nat_tests) in
        ap (λ s. scan_number (scans s bytes)) (to_more value count b other is lt) ∙ later (value * 10 + (b - 48)) (count + 1) more
        ∙ sym (kept other ∙ from_digit value count b (before_blanks bytes) is)
    by_count later other is false ge =
        let many : 9 < count + 1 = grind (arith, nat_tests) in
        ap (λ s. scan_number (scans s bytes)) (to_many value count b other is ge) ∙ bad bytes
        ∙ sym (kept other ∙ from_digit value count b (before_blanks bytes) is ∙ from_many (value * 10 + (b - 48)) (count + 1) (before_blanks bytes) many)

    by_digit : ((v c : ℕ) → c ≤ 9 → Reads bytes v c) → is_blank b ≡ false → (t : Bool) → is_digit b ≡ t → Reads (b ∷ bytes) value count
    by_digit later other true is = by_count later other is (nat_lt count 9) refl
    by_digit later other false is =
        ap (λ s. scan_number (scans s bytes)) (to_bad value count b other is) ∙ bad bytes
        ∙ sym (kept other ∙ from_other value count b (before_blanks bytes) is)

    by_blank : ((v c : ℕ) → c ≤ 9 → Reads bytes v c) → (t : Bool) → is_blank b ≡ t → Reads (b ∷ bytes) value count
    by_blank later true is = at_blank is (list_all is_blank bytes) refl
    by_blank later false is = by_digit later is (is_digit b) refl

-- one digit or more make the number that is read from the first on
short : (b : ℕ) (bytes : List ℕ) → number_of (b ∷ bytes) ≡ number_from 0 0 (b ∷ bytes)
unfolding number_from number_of is_short
short b bytes =
    let some : nat_le 1 (suc (length bytes)) ≡ true = grind (arith, nat_tests) in
    let e : 0 + suc (length bytes) ≡ suc (length bytes) = omega arith in
    rw (some, e) refl

-- the scan of all bytes finds the number
pub scans-number : (bytes : List ℕ) → scan_number (scans Blank bytes) ≡ number_of (trimmed bytes)
scans-number [] = sym nothing
scans-number (b ∷ bytes) = by_blank (scans-number bytes) (is_blank b) refl
  where
    kept : is_blank b ≡ false → number_of (trimmed (b ∷ bytes)) ≡ number_from 0 0 (b ∷ before_blanks bytes)
    kept other = ap number_of (trims_end b bytes other) ∙ short b (before_blanks bytes)

    by_digit : is_blank b ≡ false → (t : Bool) → is_digit b ≡ t → scan_number (scans Blank (b ∷ bytes)) ≡ number_of (trimmed (b ∷ bytes))
    by_digit other true is =
        ap (λ s. scan_number (scans s bytes)) (first_digit b other is) ∙ digits (0 * 10 + (b - 48)) (0 + 1) bytes (omega arith)
        ∙ sym (kept other ∙ from_digit 0 0 b (before_blanks bytes) is)
    by_digit other false is =
        ap (λ s. scan_number (scans s bytes)) (first_bad b other is) ∙ bad bytes
        ∙ sym (kept other ∙ from_other 0 0 b (before_blanks bytes) is)

    by_blank : scan_number (scans Blank bytes) ≡ number_of (trimmed bytes) → (t : Bool) → is_blank b ≡ t → scan_number (scans Blank (b ∷ bytes)) ≡ number_of (trimmed (b ∷ bytes))
    by_blank later true is = ap (λ s. scan_number (scans s bytes)) (first_blank b is) ∙ later ∙ sym (ap number_of (trims_first b bytes is))
    by_blank later false is = by_digit is (is_digit b) refl

-- What an operation gives on values of its row's kinds that fit: a value of its kind that fits, or a fault.
use Rattle.std.proofs.Common.{◌≡◌, ◌≤◌, ◌<◌, ◌^◌, ℕ, ℤ, pos, negsuc, ◌+ℤ◌, ◌-ℤ◌, ◌*ℤ◌, neg_ℤ, int_lt, int_le, int_div, int_rem, nat_le, List, [], ◌∷◌, ◌++◌, length, map, Bool, true, false, not, ◌&&◌, ◌||◌, if◌then◌else◌, Ok, Err, Option, Some, None, codes, refl, arith}
use Rattle.std.proofs.lemmas.Bool.{leb-true, ltb-true}
use Rattle.std.proofs.lemmas.Fmt.{length_signed_le}
use Rattle.yarn_value.specs.declared.value.Value.{Value}
use Rattle.yarn_value.specs.declared.value.Value.TheVariants.{Number, Str, Truth}
use Rattle.yarn_value.specs.declared.value.Kind.{Kind}
use Rattle.yarn_value.specs.declared.value.Kind.TheVariants as kind
use Rattle.yarn_value.specs.declared.fault.RunFault.TheVariants as run
use Rattle.yarn_value.specs.declared.operation.Op.{Op}
use Rattle.yarn_value.specs.declared.operation.Op.TheVariants as op
use Rattle.yarn_value.specs.declared.builtin.Param.{Param}
use Rattle.yarn_value.specs.declared.builtin.Param.TheVariants.{One, Any, Same}
use Rattle.yarn_value.specs.Values.{kind_of, text_of_value}
use Rattle.yarn_value.specs.Numbers.{fits, fitting, signed_value}
use Rattle.yarn_value.specs.Rows.{same_kind, takes, first_of, second_of, result_of}
use Rattle.yarn_value.specs.Operations.{Outcome, number, truth, quotient, remainder, is_zero, on_numbers, on_number, on_truths, on_truth, xor, joined, alike, same_value, same_text, truth_in, truth_of, number_found, number_of, of_one, of_two, operation}
use Rattle.yarn_code.specs.Fields.{IsFitting}
use Rattle.yarn_check.specs.Shaped.{AreFitting, IsOf}

-- a value of that kind that fits, or a fault
abbrev pub IsResult : Kind → Outcome → Type 0
IsResult k (Ok value) = IsOf k value
IsResult k (Err fault) = Unit {0}

-- there is an outcome, and it is such a one
abbrev pub IsMeant : Kind → Option Outcome → Type 0
IsMeant k (Some outcome) = IsResult k outcome
IsMeant k None = ⊥

-- ---- values

pub of_truth : (b : Bool) → IsOf kind.Truth (Truth b)
of_truth b = record { kind = refl; fits = tt }

pub of_number : (z : ℤ) → fits z ≡ true → IsOf kind.Number (Number z)
of_number z h = record { kind = refl; fits = h }

pub of_text : (text : List ℕ) → length text ≤ 65536 → IsOf kind.Str (Str text)
of_text text h = record { kind = refl; fits = h }

if_of : (k : Kind) (b : Bool) (x y : Outcome) → (b ≡ true → IsResult k x) → IsResult k y → IsResult k (if b then x else y)
if_of k true x y hx hy = hx refl
if_of k false x y hx hy = hy

number_gives : (z : ℤ) → IsResult kind.Number (number z)
number_gives z = if_of kind.Number (fits z) (Ok (Number z)) (Err run.Overflow) (of_number z) tt

quotient_gives : (a b : ℤ) → IsResult kind.Number (quotient a b)
quotient_gives a b =
    if_of kind.Number (is_zero b) (Err run.DivideByZero) (if is_zero (int_rem a b) then number (int_div a b) else Err run.Inexact) (λ h. tt)
    (if_of kind.Number (is_zero (int_rem a b)) (number (int_div a b)) (Err run.Inexact) (λ h. number_gives (int_div a b)) tt)

remainder_gives : (a b : ℤ) → IsResult kind.Number (remainder a b)
remainder_gives a b = if_of kind.Number (is_zero b) (Err run.DivideByZero) (number (int_rem a b)) (λ h. tt) (number_gives (int_rem a b))

truth_in_gives : (text : List ℕ) → IsResult kind.Truth (truth_in text)
truth_in_gives text =
    if_of kind.Truth (same_text text (codes "True") || same_text text (codes "true")) (truth true)
    (if same_text text (codes "False") || same_text text (codes "false") then truth false else Err run.BadBool) (λ h. of_truth true)
    (if_of kind.Truth (same_text text (codes "False") || same_text text (codes "false")) (truth false) (Err run.BadBool) (λ h. of_truth false) tt)

truth_of_gives : (v : Value) → IsResult kind.Truth (truth_of v)
truth_of_gives (Number n) = of_truth (not (is_zero n))
truth_of_gives (Str text) = truth_in_gives text
truth_of_gives (Truth b) = of_truth b

found_gives : (z : Option ℤ) → IsResult kind.Number (number_found (fitting z))
found_gives None = tt
found_gives (Some z) = by_test (fits z) refl
  where
    by_test : (b : Bool) → fits z ≡ b → IsResult kind.Number (number_found (if b then Some z else None))
    by_test true h = of_number z h
    by_test false h = tt

number_of_gives : (v : Value) → IsFitting v → IsResult kind.Number (number_of v)
number_of_gives (Number n) h = of_number n h
number_of_gives (Str text) h = found_gives (signed_value text)
number_of_gives (Truth true) h = of_number (pos 1) refl
number_of_gives (Truth false) h = of_number (pos 0) refl

text_fits : (v : Value) → IsFitting v → length (text_of_value v) ≤ 65536
text_fits (Number (pos n)) h = let small : n < 2 ^ 63 = ltb-true n (2 ^ 63) h in omega (arith, length_signed_le 20 (pos n) (omega arith) small)
text_fits (Number (negsuc n)) h = let small : n < 2 ^ 63 = ltb-true n (2 ^ 63) h in omega (arith, length_signed_le 20 (negsuc n) (omega arith) small)
text_fits (Str text) h = h
text_fits (Truth true) h = omega arith
text_fits (Truth false) h = omega arith

-- ---- by the kinds of the values

abbrev BothOf : Kind → Value → Value → Type 0
BothOf k x y = takes (Some (One k)) (Some (One k)) (kind_of x ∷ kind_of y ∷ []) ≡ true

abbrev IsTaken : Kind → Value → Type 0
IsTaken k x = takes (Some (One k)) None (kind_of x ∷ []) ≡ true

numbers_give : (k : Kind) (f : ℤ → ℤ → Outcome) → ((a b : ℤ) → IsResult k (f a b)) → (x y : Value) → BothOf kind.Number x y → IsMeant k (on_numbers f x y)
numbers_give k f gives (Number a) (Number b) h = gives a b
numbers_give k f gives x y h = absurd cc

truths_give : (f : Bool → Bool → Bool) (x y : Value) → BothOf kind.Truth x y → IsMeant kind.Truth (on_truths f x y)
truths_give f (Truth a) (Truth b) h = of_truth (f a b)
truths_give f x y h = absurd cc

joined_gives : (x y : Value) → BothOf kind.Str x y → IsMeant kind.Str (joined x y)
joined_gives (Str a) (Str b) h =
    if_of kind.Str (nat_le (length (a ++ b)) 65536) (Ok (Str (a ++ b))) (Err run.TextTooLong) (λ e. of_text (a ++ b) (leb-true (length (a ++ b)) 65536 e)) tt
joined_gives x y h = absurd cc

-- two values of one kind
alike_meant : (f : Bool → Bool) (x y : Value) (same : Bool) → same ≡ true → IsMeant kind.Truth (if same then Some (truth (f (same_value x y))) else None)
alike_meant f x y true h = of_truth (f (same_value x y))
alike_meant f x y false h = absurd cc

alike_gives : (f : Bool → Bool) (x y : Value) → takes (Some Any) (Some Same) (kind_of x ∷ kind_of y ∷ []) ≡ true → IsMeant kind.Truth (alike f x y)
alike_gives f x y h = alike_meant f x y (same_kind (kind_of x) (kind_of y)) h

one_number_gives : (f : ℤ → Outcome) → ((a : ℤ) → IsResult kind.Number (f a)) → (x : Value) → IsTaken kind.Number x → IsMeant kind.Number (on_number f x)
one_number_gives f gives (Number a) h = gives a
one_number_gives f gives x h = absurd cc

one_truth_gives : (f : Bool → Bool) (x : Value) → IsTaken kind.Truth x → IsMeant kind.Truth (on_truth f x)
one_truth_gives f (Truth a) h = of_truth (f a)
one_truth_gives f x h = absurd cc

-- ---- by the operation

-- of one value
of_one_gives : (o : Op) (x : Value) → takes (first_of o) (second_of o) (kind_of x ∷ []) ≡ true → IsFitting x → IsMeant (result_of o) (of_one o x)
of_one_gives op.Neg x h fit = one_number_gives (λ a. number (neg_ℤ a)) (λ a. number_gives (neg_ℤ a)) x h
of_one_gives op.Not x h fit = one_truth_gives not x h
of_one_gives op.TruthOf x h fit = truth_of_gives x
of_one_gives op.NumberOf x h fit = number_of_gives x fit
of_one_gives op.TextOf x h fit = of_text (text_of_value x) (text_fits x fit)
of_one_gives o x h fit = absurd cc

-- of two values
of_two_gives : (o : Op) (x y : Value) → takes (first_of o) (second_of o) (kind_of x ∷ kind_of y ∷ []) ≡ true → IsMeant (result_of o) (of_two o x y)
of_two_gives op.Add x y h = numbers_give kind.Number (λ a b. number (a +ℤ b)) (λ a b. number_gives (a +ℤ b)) x y h
of_two_gives op.And x y h = truths_give (λ a b. a && b) x y h
of_two_gives op.Concat x y h = joined_gives x y h
of_two_gives op.Div x y h = numbers_give kind.Number quotient quotient_gives x y h
of_two_gives op.Eq x y h = alike_gives (λ same. same) x y h
of_two_gives op.Gt x y h = numbers_give kind.Truth (λ a b. truth (int_lt b a)) (λ a b. of_truth (int_lt b a)) x y h
of_two_gives op.Gte x y h = numbers_give kind.Truth (λ a b. truth (int_le b a)) (λ a b. of_truth (int_le b a)) x y h
of_two_gives op.Lt x y h = numbers_give kind.Truth (λ a b. truth (int_lt a b)) (λ a b. of_truth (int_lt a b)) x y h
of_two_gives op.Lte x y h = numbers_give kind.Truth (λ a b. truth (int_le a b)) (λ a b. of_truth (int_le a b)) x y h
of_two_gives op.Mul x y h = numbers_give kind.Number (λ a b. number (a *ℤ b)) (λ a b. number_gives (a *ℤ b)) x y h
of_two_gives op.Neq x y h = alike_gives not x y h
of_two_gives op.Or x y h = truths_give (λ a b. a || b) x y h
of_two_gives op.Rem x y h = numbers_give kind.Number remainder remainder_gives x y h
of_two_gives op.Sub x y h = numbers_give kind.Number (λ a b. number (a -ℤ b)) (λ a b. number_gives (a -ℤ b)) x y h
of_two_gives op.Xor x y h = truths_give xor x y h
of_two_gives o x y h = absurd cc

-- no row takes more than two values, and none of an operation takes none
long_taken : (first second : Option Param) (k l m : Kind) (ks : List Kind) → takes first second (k ∷ l ∷ m ∷ ks) ≡ true → ⊥
long_taken None None k l m ks h = cc
long_taken None (Some q) k l m ks h = cc
long_taken (Some p) None k l m ks h = cc
long_taken (Some p) (Some q) k l m ks h = cc

none_taken : (o : Op) → takes (first_of o) (second_of o) [] ≡ true → ⊥
none_taken op.Neg h = cc
none_taken op.Not h = cc
none_taken op.TruthOf h = cc
none_taken op.NumberOf h = cc
none_taken op.TextOf h = cc
none_taken o h = cc

-- an operation on values of its row's kinds that fit
pub operation_gives : (o : Op) (args : List Value) → takes (first_of o) (second_of o) (map kind_of args) ≡ true → AreFitting args →
    IsMeant (result_of o) (operation o args)
operation_gives o [] h fit = absurd (none_taken o h)
operation_gives o (x ∷ []) h fit = of_one_gives o x h fit.0
operation_gives o (x ∷ y ∷ []) h fit = of_two_gives o x y h
operation_gives o (x ∷ y ∷ z ∷ vs) h fit = absurd (long_taken (first_of o) (second_of o) (kind_of x) (kind_of y) (kind_of z) (map kind_of vs) h)

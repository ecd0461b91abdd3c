-- What each operator and each builtin that needs no store gives: a value, or the fault of the run.
use Rattle.std.specs.Prelude.{◌≡◌, ℕ, ℤ, pos, ◌+ℤ◌, ◌-ℤ◌, ◌*ℤ◌, neg_ℤ, int_lt, int_le, int_div, int_rem, nat_eq, nat_le, List, [], ◌∷◌, ◌++◌, length, codes, Bool, true, false, not, ◌&&◌, ◌||◌, if◌then◌else◌, Result, Ok, Err, Option, Some, None, ⊤}
use Rattle.std.specs.Ordering.{int_eq}
use Rattle.std.specs.Cmp.Lexicographic.{pointwise}
use Rattle.yarn_value.specs.Values.{kind_of, text_of_value}
use Rattle.yarn_value.specs.Rows.{same_kind}
use Rattle.yarn_value.specs.Numbers.{fits, signed_number}
use Rattle.yarn_value.specs.declared.value.Value.{Value}
use Rattle.yarn_value.specs.declared.value.Value.TheVariants.{Number, Str, Truth}
use Rattle.yarn_value.specs.declared.operation.Op.{Op}
use Rattle.yarn_value.specs.declared.operation.Op.TheVariants.{Add, And, Concat, Div, Eq, Gt, Gte, Lt, Lte, Mul, Neg, Neq, Not, Or, Rem, Sub, Xor, TruthOf, NumberOf, TextOf}
use Rattle.yarn_value.specs.declared.fault.RunFault.{RunFault}
use Rattle.yarn_value.specs.declared.fault.RunFault.TheVariants.{Overflow, DivideByZero, Inexact, TextTooLong, BadNumber, BadBool}
use Rattle.yarn_value.specs.declared.fault.OpFault.{OpFault}
use Rattle.yarn_value.specs.declared.fault.OpFault.TheVariants.{Run, Memory}

-- a value, or the fault
abbrev pub Outcome : Type 0
Outcome = Result Value RunFault

-- ---- numbers

abbrev pub number : ℤ → Outcome
number z = if fits z then Ok (Number z) else Err Overflow

-- what a checked sum gives
abbrev pub within : Option ℤ → Outcome
within None = Err Overflow
within (Some z) = Ok (Number z)

abbrev pub truth : Bool → Outcome
truth b = Ok (Truth b)

abbrev pub is_zero : ℤ → Bool
is_zero z = int_eq z (pos 0)

-- the exact quotient
abbrev pub quotient : ℤ → ℤ → Outcome
quotient a b = if is_zero b then Err DivideByZero else if is_zero (int_rem a b) then number (int_div a b) else Err Inexact

-- what division toward zero leaves: it has the dividend's sign
abbrev pub remainder : ℤ → ℤ → Outcome
remainder a b = if is_zero b then Err DivideByZero else number (int_rem a b)

abbrev pub on_numbers : (ℤ → ℤ → Outcome) → Value → Value → Option Outcome
on_numbers f (Number a) (Number b) = Some (f a b)
on_numbers f _ _ = None

abbrev pub on_number : (ℤ → Outcome) → Value → Option Outcome
on_number f (Number a) = Some (f a)
on_number f _ = None

-- ---- truths

abbrev pub xor : Bool → Bool → Bool
xor a b = if a then not b else b

abbrev pub on_truths : (Bool → Bool → Bool) → Value → Value → Option Outcome
on_truths f (Truth a) (Truth b) = Some (truth (f a b))
on_truths f _ _ = None

abbrev pub on_truth : (Bool → Bool) → Value → Option Outcome
on_truth f (Truth a) = Some (truth (f a))
on_truth f _ = None

-- ---- texts

abbrev pub same_text : List ℕ → List ℕ → Bool
same_text a b = pointwise nat_eq a b

-- a text of a run has at most 65,536 bytes
abbrev pub joined : Value → Value → Option Outcome
joined (Str a) (Str b) = Some (if nat_le (length (a ++ b)) 65536 then Ok (Str (a ++ b)) else Err TextTooLong)
joined _ _ = None

-- ---- two values of one kind

abbrev pub same_value : Value → Value → Bool
same_value (Number a) (Number b) = int_eq a b
same_value (Str a) (Str b) = same_text a b
same_value (Truth a) (Truth b) = not (xor a b)
same_value _ _ = false

abbrev pub alike : (Bool → Bool) → Value → Value → Option Outcome
alike f a b = if same_kind (kind_of a) (kind_of b) then Some (truth (f (same_value a b))) else None

-- ---- conversions

abbrev pub truth_in : List ℕ → Outcome
truth_in text =
    if same_text text (codes "True") || same_text text (codes "true") then truth true
    else if same_text text (codes "False") || same_text text (codes "false") then truth false
    else Err BadBool

abbrev pub truth_of : Value → Outcome
truth_of (Number n) = truth (not (is_zero n))
truth_of (Str text) = truth_in text
truth_of (Truth b) = truth b

-- a number that isn't there, or doesn't fit, is a bad number
abbrev pub number_found : Option ℤ → Outcome
number_found None = Err BadNumber
number_found (Some z) = Ok (Number z)

abbrev pub number_of : Value → Outcome
number_of (Number n) = Ok (Number n)
number_of (Str text) = number_found (signed_number text)
number_of (Truth b) = Ok (Number (pos (if b then 1 else 0)))

-- ---- all rows

abbrev pub of_one : Op → Value → Option Outcome
of_one Neg a = on_number (λ x. number (neg_ℤ x)) a
of_one Not a = on_truth not a
of_one TruthOf a = Some (truth_of a)
of_one NumberOf a = Some (number_of a)
of_one TextOf a = Some (Ok (Str (text_of_value a)))
of_one _ a = None

abbrev pub of_two : Op → Value → Value → Option Outcome
of_two Add a b = on_numbers (λ x y. number (x +ℤ y)) a b
of_two And a b = on_truths (λ x y. x && y) a b
of_two Concat a b = joined a b
of_two Div a b = on_numbers quotient a b
of_two Eq a b = alike (λ same. same) a b
of_two Gt a b = on_numbers (λ x y. truth (int_lt y x)) a b
of_two Gte a b = on_numbers (λ x y. truth (int_le y x)) a b
of_two Lt a b = on_numbers (λ x y. truth (int_lt x y)) a b
of_two Lte a b = on_numbers (λ x y. truth (int_le x y)) a b
of_two Mul a b = on_numbers (λ x y. number (x *ℤ y)) a b
of_two Neq a b = alike not a b
of_two Or a b = on_truths (λ x y. x || y) a b
of_two Rem a b = on_numbers remainder a b
of_two Sub a b = on_numbers (λ x y. number (x -ℤ y)) a b
of_two Xor a b = on_truths xor a b
of_two _ a b = None

-- what the operation gives; None where the arguments haven't the kinds of its row
abbrev pub operation : Op → List Value → Option Outcome
operation op (a ∷ []) = of_one op a
operation op (a ∷ b ∷ []) = of_two op a b
operation op _ = None

-- the value or the fault that is meant, or want of memory, which is free
abbrev pub Answers : Result Value OpFault → Option Outcome → Type 0
Answers (Ok value) meant = meant ≡ Some (Ok value)
Answers (Err (Run fault)) meant = meant ≡ Some (Err fault)
Answers (Err Memory) meant = ⊤

-- the operations that make a text
abbrev pub makes_text : Op → Bool
makes_text Concat = true
makes_text TextOf = true
makes_text _ = false

-- a quotient times the divisor is the dividend: nothing is rounded
abbrev pub QuotientsAreExact : Type 0
QuotientsAreExact = (a b q : ℤ) → quotient a b ≡ Ok (Number q) → q *ℤ b ≡ a

-- What holds of the value that an evaluation gives, where it gives one.
use Rattle.std.proofs.Common.{◌≡◌, Bool, true, false, if◌then◌else◌, refl}
use Rattle.yarn_value.specs.declared.value.Value.{Value}
use Rattle.yarn_value.specs.declared.value.Kind.{Kind}
use Rattle.yarn_value.specs.Values.{kind_of}
use Rattle.yarn_value.specs.Tape.{Tape}
use Rattle.yarn_value.specs.Evaluation.{Evaluated, Gives, Halts, and_then}

abbrev pub Within : {A : Type 0} → (A → Type 0) → Evaluated A → Type 0
Within Q (Gives a t) = Q a
Within Q (Halts halt t) = Unit {0}

-- a value that is given is of that kind
abbrev pub IsOf : Kind → Evaluated Value → Type 0
IsOf k e = Within (λ value. kind_of value ≡ k) e

pub then_within : {A B : Type 0} (Q : A → Type 0) (R : B → Type 0) (e : Evaluated A) (f : A → Tape → Evaluated B) → Within Q e → ((a : A) (t : Tape) → Q a → Within R (f a t)) → Within R (and_then e f)
then_within Q R (Gives a t) f h g = g a t h
then_within Q R (Halts halt t) f h g = tt

pub if_within : {A : Type 0} (Q : A → Type 0) (b : Bool) (x y : Evaluated A) → (b ≡ true → Within Q x) → Within Q y → Within Q (if b then x else y)
if_within Q true x y h g = h refl
if_within Q false x y h g = g

pub within_any : {A : Type 0} (e : Evaluated A) → Within (λ a. Unit {0}) e
within_any (Gives a t) = tt
within_any (Halts halt t) = tt

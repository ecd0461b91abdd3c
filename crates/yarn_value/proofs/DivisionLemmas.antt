-- Quotients that are given are exact.
use Rattle.std.proofs.Common.{◌≡◌, ℤ, pos, ◌+ℤ◌, ◌*ℤ◌, Bool, true, false, Ok, Err, refl, sym, ap, ◌∙◌, arith}
use Rattle.std.specs.Prelude.{int_div, int_rem}
use Rattle.std.proofs.lemmas.Int.{quot-rem, ints}
use Rattle.std.proofs.lemmas.Bool.Decides.{Decides-int_eq}
use Rattle.yarn_value.specs.Numbers.{fits}
use Rattle.yarn_value.specs.Operations.{Outcome, QuotientsAreExact, number, is_zero}
use Rattle.yarn_value.specs.declared.value.Value.TheVariants.{Number}
use Rattle.yarn_value.specs.declared.fault.RunFault.{RunFault}
use Rattle.yarn_value.specs.declared.fault.RunFault.TheVariants.{Overflow, DivideByZero, Inexact}

fault_is_no_value : (f : RunFault) (q : ℤ) → ◌≡◌ {A = Outcome} (Err f) (Ok (Number q)) → ⊥
fault_is_no_value f q h = absurd cc

number_is : (z q : ℤ) → number z ≡ Ok (Number q) → z ≡ q
number_is z q h = by_fit (fits z) refl
  where
    by_fit : (b : Bool) → fits z ≡ b → z ≡ q
    by_fit true is = let e : ◌≡◌ {A = Outcome} (Ok (Number z)) (Ok (Number q)) = (rw is at h) in cc
    by_fit false is = absurd (fault_is_no_value Overflow q (rw is at h))

exact : (a b : ℤ) → is_zero (int_rem a b) ≡ true → int_div a b *ℤ b ≡ a
exact a b h =
    let none : int_rem a b ≡ pos 0 = (Decides-int_eq (int_rem a b) (pos 0)).0 h in
    let whole : int_div a b *ℤ b +ℤ pos 0 ≡ a = ap (λ r. int_div a b *ℤ b +ℤ r) (sym none) ∙ quot-rem a b in
    omega (arith, ints, whole)

pub quotients_are_exact : QuotientsAreExact
quotients_are_exact a b q h = by_zero (is_zero b) refl
  where
    by_rest : (s : Bool) → is_zero (int_rem a b) ≡ s → is_zero b ≡ false → q *ℤ b ≡ a
    by_rest true is some = let n : number (int_div a b) ≡ Ok (Number q) = (rw (some, is) at h) in ap (λ z. z *ℤ b) (sym (number_is (int_div a b) q n)) ∙ exact a b is
    by_rest false is some = absurd (fault_is_no_value Inexact q (rw (some, is) at h))

    by_zero : (s : Bool) → is_zero b ≡ s → q *ℤ b ≡ a
    by_zero true is = absurd (fault_is_no_value DivideByZero q (rw is at h))
    by_zero false is = by_rest (is_zero (int_rem a b)) refl is

-- What two looks, one behind the other, tell.
use Rattle.std.proofs.Common.{◌≡◌, ℕ, zero, suc, ◌+◌, ◌<◌, ◌≤◌, List, [], ◌∷◌, length, get_or, drop, Bool, true, false, Option, Some, None, Result, Ok, Err, refl, sym, ap, ◌∙◌, arith}
use Rattle.yarn_check.specs.Faults as spec
use Rattle.yarn_check.specs.Pass.{unless, if_none, first_of}
use Rattle.yarn_check.specs.declared.fault.CheckFault.{CheckFault}
use Rattle.yarn_check.specs.declared.fault.CheckFault.TheVariants as fault
use Rattle.yarn_check.specs.Told.{Names, Tells}
use Rattle.yarn_check.proofs.Alike.{drop_all}

-- a fault that is named stays the first
named_first : (o rest : Option spec.CheckFault) (g : spec.CheckFault) → o ≡ Some g → if_none o rest ≡ Some g
named_first None rest g e = absurd cc
named_first (Some f) rest g e = e

pub names_first : (o rest : Option spec.CheckFault) (f : CheckFault) → Names o f → Names (if_none o rest) f
names_first o rest (fault.BadLabel a b) e = named_first o rest (spec.BadLabel a b) e
names_first o rest (fault.BackwardJump a b) e = named_first o rest (spec.BackwardJump a b) e
names_first o rest (fault.UnknownVariable name) e = named_first o rest (spec.UnknownVariable name) e
names_first o rest (fault.UnknownFunction name) e = named_first o rest (spec.UnknownFunction name) e
names_first o rest (fault.UnknownLine id) e = named_first o rest (spec.UnknownLine id) e
names_first o rest (fault.NoShape a b) e = named_first o rest (spec.NoShape a b) e
names_first o rest (fault.TooManyDeep a b) e = named_first o rest (spec.TooManyDeep a b) e
names_first o rest fault.Memory e = tt

pub names_same : (o other : Option spec.CheckFault) (f : CheckFault) → o ≡ other → Names o f → Names other f
names_same o other (fault.BadLabel a b) is e = sym is ∙ e
names_same o other (fault.BackwardJump a b) is e = sym is ∙ e
names_same o other (fault.UnknownVariable name) is e = sym is ∙ e
names_same o other (fault.UnknownFunction name) is e = sym is ∙ e
names_same o other (fault.UnknownLine id) is e = sym is ∙ e
names_same o other (fault.NoShape a b) is e = sym is ∙ e
names_same o other (fault.TooManyDeep a b) is e = sym is ∙ e
names_same o other fault.Memory is e = tt

pub tells_same : (o other : Option spec.CheckFault) (r : Result (Unit {0}) CheckFault) → o ≡ other → Tells o r → Tells other r
tells_same o other (Ok done) is e = sym is ∙ e
tells_same o other (Err f) is e = names_same o other f is e

none_first : (o rest : Option spec.CheckFault) → o ≡ None → if_none o rest ≡ rest
none_first None rest e = refl
none_first (Some f) rest e = absurd cc

-- ---- an option: its label, then its line

parted : (a b : Bool) (f g : spec.CheckFault) (rest : Option spec.CheckFault) → unless a f (unless b g rest) ≡ if_none (unless a f (unless b g None)) rest
parted true true f g rest = refl
parted true false f g rest = refl
parted false b f g rest = refl

pub second_tells : (a b : Bool) (f g : spec.CheckFault) (rest : Option spec.CheckFault) (r : Result (Unit {0}) CheckFault) → unless a f (unless b g None) ≡ None → Tells rest r → Tells (unless a f (unless b g rest)) r
second_tells a b f g rest r none e = tells_same rest (unless a f (unless b g rest)) r (sym (parted a b f g rest ∙ none_first (unless a f (unless b g None)) rest none)) e

pub first_tells : (a b : Bool) (f g : spec.CheckFault) (rest : Option spec.CheckFault) (h : CheckFault) → Names (unless a f (unless b g None)) h → Names (unless a f (unless b g rest)) h
first_tells a b f g rest h e = names_same (if_none (unless a f (unless b g None)) rest) (unless a f (unless b g rest)) h (sym (parted a b f g rest)) (names_first (unless a f (unless b g None)) rest h e)

-- ---- a loop over items

module _ {A : Type 0} (F : ℕ → A → Option spec.CheckFault) (xs : List A) (place : ℕ) (x : A) (lt : place < length xs) (is : x ≡ get_or xs place x) where
  front : first_of F place (drop place xs) ≡ if_none (F place x) (first_of F (place + 1) (drop (place + 1) xs))
  front = ap (first_of F place) (drop_one xs place x lt is)
    where
      drop_one : {A : Type 0} (xs : List A) (i : ℕ) (x : A) → i < length xs → x ≡ get_or xs i x → drop i xs ≡ x ∷ drop (i + 1) xs
      drop_one [] i x lt e = absurd (omega (arith, lt))
      drop_one (y ∷ xs) zero x lt e = ap (λ z. z ∷ xs) (sym e)
      drop_one (y ∷ xs) (suc i) x lt e = let at : suc i + 1 ≡ suc (i + 1) = omega arith in drop_one xs i x (omega (arith, lt)) e ∙ ap (λ m. x ∷ drop m (y ∷ xs)) (sym at)

  pub goes_past : F place x ≡ None → first_of F (place + 1) (drop (place + 1) xs) ≡ first_of F place (drop place xs)
  goes_past none = sym (front ∙ none_first (F place x) (first_of F (place + 1) (drop (place + 1) xs)) none)

  pub stops_at : (f : CheckFault) → Names (F place x) f → (whole : Option spec.CheckFault) → first_of F place (drop place xs) ≡ whole → Names whole f
  stops_at f e whole all = names_same (if_none (F place x) (first_of F (place + 1) (drop (place + 1) xs))) whole f (sym front ∙ all) (names_first (F place x) (first_of F (place + 1) (drop (place + 1) xs)) f e)

pub none_behind : {A : Type 0} (F : ℕ → A → Option spec.CheckFault) (xs : List A) (place : ℕ) → length xs ≤ place → (whole : Option spec.CheckFault) → first_of F place (drop place xs) ≡ whole → whole ≡ None
none_behind F xs place le whole all = sym all ∙ ap (first_of F place) (drop_all xs place le)

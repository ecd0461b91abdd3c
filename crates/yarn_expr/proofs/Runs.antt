-- Runs of characters that pass a test, and what ends a name and a number.
use Rattle.std.proofs.Common.{◌≡◌, ℕ, List, [], ◌∷◌, ◌++◌, Bool, true, false, ◌==◌, None, refl, ap}
use Rattle.yarn_base.specs.Name.{continues_name}
use Rattle.yarn_expr.specs.Tokens.{is_digit, front, past, behind_point}

-- what stands next passes the test
abbrev pub next_is : (ℕ → Bool) → List ℕ → Bool
next_is p [] = false
next_is p (c ∷ cs) = p c

-- all of the characters pass
abbrev pub AllOf : (ℕ → Bool) → List ℕ → Type 0
AllOf p [] = Unit {0}
AllOf p (c ∷ cs) = (p c ≡ true) × AllOf p cs

pub AllOf-append : (p : ℕ → Bool) (cs ds : List ℕ) → AllOf p cs → AllOf p ds → AllOf p (cs ++ ds)
AllOf-append p [] ds all others = others
AllOf-append p (c ∷ cs) ds all others = (all.0, AllOf-append p cs ds all.1 others)

pub front-AllOf : (p : ℕ → Bool) (cs : List ℕ) → AllOf p (front p cs)
front-AllOf p [] = tt
front-AllOf p (c ∷ cs) = by_test (front-AllOf p cs) (p c) refl
  where
    by_test : AllOf p (front p cs) → (b : Bool) → p c ≡ b → AllOf p (front p (c ∷ cs))
    by_test others true is = rw is (is, others)
    by_test others false is = rw is tt

pub front-append : (p : ℕ → Bool) (cs rest : List ℕ) → AllOf p cs → next_is p rest ≡ false → front p (cs ++ rest) ≡ cs
front-append p [] [] all ends = refl
front-append p [] (d ∷ rest) all ends = rw ends refl
front-append p (c ∷ cs) rest all ends = let first = all.0 in rw first (ap (λ l. c ∷ l) (front-append p cs rest all.1 ends))

pub past-append : (p : ℕ → Bool) (cs rest : List ℕ) → AllOf p cs → next_is p rest ≡ false → past p (cs ++ rest) ≡ rest
past-append p [] [] all ends = refl
past-append p [] (d ∷ rest) all ends = rw ends refl
past-append p (c ∷ cs) rest all ends = let first = all.0 in rw first (past-append p cs rest all.1 ends)

-- what ends a name and a number
pub record Stops (rest : List ℕ) : Type 0 where
  pub digit : next_is is_digit rest ≡ false
  pub point : behind_point rest ≡ None
  pub name : next_is continues_name rest ≡ false

pub stops-nil : Stops []
stops-nil = record { digit = refl; point = refl; name = refl }

pub stops-at : (c : ℕ) (rest : List ℕ) → is_digit c ≡ false → (c == 46) ≡ false → continues_name c ≡ false → Stops (c ∷ rest)
stops-at c rest digit point name = record { digit = digit; point = rw point refl; name = name }

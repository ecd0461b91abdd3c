-- What each of a list's items gives, one by one.
use Rattle.std.proofs.Common.{◌≡◌, List, [], ◌∷◌, ◌++◌, Option, None, Some, refl, sym, ap, append_assoc}
use Rattle.yarn_plural.specs.Steps.{each, both}

-- what the items give behind those that are done
abbrev pub behind : {B : Type 0} → List B → Option (List B) → Option (List B)
behind ys None = None
behind ys (Some zs) = Some (ys ++ zs)

pub behind-start : {B : Type 0} → (r : Option (List B)) → r ≡ behind [] r
behind-start None = refl
behind-start (Some zs) = refl

pub behind-step : {A B : Type 0} → (f : A → Option B) (x : A) (y : B) (xs : List A) (ys : List B) → f x ≡ Some y →
    behind ys (each f (x ∷ xs)) ≡ behind (ys ++ y ∷ []) (each f xs)
behind-step f x y xs ys is = rw is (by ys y (each f xs))
  where
    by : {B : Type 0} → (ys : List B) → (y : B) → (r : Option (List B)) → behind ys (both (Some y) r) ≡ behind (ys ++ y ∷ []) r
    by ys y None = refl
    by ys y (Some zs) = ap Some (sym (append_assoc ys (y ∷ []) zs))

pub behind-none : {A B : Type 0} → (f : A → Option B) (x : A) (xs : List A) (ys : List B) → f x ≡ None → behind ys (each f (x ∷ xs)) ≡ None
behind-none f x xs ys is = rw is refl

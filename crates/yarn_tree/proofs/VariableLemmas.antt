-- A name that is known is no further one.
use Rattle.std.proofs.Common.{◌≡◌, ℕ, ◌-◌, List, ◌∷◌, Bool, true, false, cond, ◌||◌, nat_eq, bytes_eq, Some, refl, sym, ap, ◌∙◌}
use mathlib.Core.Path.{fun_ext}
use Rattle.std.proofs.lemmas.Slice.Eq.{bytes_eq-Decides}
use Rattle.yarn_base.specs.declared.Place.{Place}
use Rattle.yarn_tree.specs.Checks.{extra_name}
use Rattle.yarn_tree.specs.Names.{NameAt, and_name}

and-known : (name : List ℕ) (known : List ℕ → Bool) → known name ≡ true → and_name name known ≡ known
and-known name known is = fun_ext (λ other. by_test other (bytes_eq name other) refl)
  where
    by_test : (other : List ℕ) (t : Bool) → bytes_eq name other ≡ t → (bytes_eq name other || known other) ≡ known other
    by_test other true same = rw same (sym (ap known (sym ((bytes_eq-Decides name other).0 same)) ∙ is))
    by_test other false differ = rw differ refl

pub known-on : (left : ℕ) (name : List ℕ) (known more : List ℕ → Bool) → known name ≡ true → more ≡ and_name name known → (place : Place) (xs : List NameAt) →
    extra_name left known ((name, place) ∷ xs) ≡ extra_name left more xs
known-on left name known more is e place xs =
    ap (λ (t : Bool). cond t (extra_name left known xs) (cond (nat_eq left 0) (Some place) (extra_name (left - 1) (and_name name known) xs))) is
    ∙ ap (λ (k : List ℕ → Bool). extra_name left k xs) (sym (and-known name known is) ∙ sym e)

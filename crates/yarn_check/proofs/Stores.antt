-- What a store keeps where a variable is set to a value of its kind.
use Rattle.std.proofs.Common.{◌≡◌, ℕ, List, [], ◌∷◌, Bool, true, false, if◌then◌else◌, Option, Some, None, refl, sym, ap, ◌∙◌, subst}
use Rattle.std.specs.Option.{option_map}
use Rattle.std.proofs.lemmas.List.Elements.{All-head, All-tail}
use Rattle.std.proofs.lemmas.Slice.Eq.{bytes_eq-Decides}
use Rattle.yarn_value.specs.declared.value.Value.{Value}
use Rattle.yarn_value.specs.declared.value.Kind.{Kind}
use Rattle.yarn_value.specs.Values.{kind_of}
use Rattle.yarn_value.specs.Pairs.{Pair, Pairs, same_name, value_under, put}
use Rattle.yarn_code.specs.declared.program.Program.{Program}
use Rattle.yarn_code.specs.Fields.{IsFitting}
use Rattle.yarn_code.specs.Parts.{pairs_of}
use Rattle.yarn_code.specs.Kinds.{HasKind, Holds}
use Rattle.yarn_check.specs.Shapes.{kind_under}
use Rattle.yarn_check.specs.Shaped.{StoreFits, IsOf, IsStored}
use Rattle.yarn_check.proofs.Builtins.{FitsIf, under_fits}

pub names_same : (a b : List ℕ) → same_name a b ≡ true → a ≡ b
names_same a b h = (bytes_eq-Decides a b).0 h

pub same_names : (a b : List ℕ) → a ≡ b → same_name a b ≡ true
same_names a b e = (bytes_eq-Decides a b).1 e

-- ---- the value of a name behind a put

module _ (name : List ℕ) (value : Value) where
  -- of the name itself
  put_same : (ps : Pairs) → value_under (put ps name value) name ≡ Some value
  put_same [] = rw (same_names name name refl) refl
  put_same (p ∷ ps) = by_test (put_same ps) (same_name name p.0) refl
    where
      by_test : value_under (put ps name value) name ≡ Some value → (b : Bool) → same_name name p.0 ≡ b →
          value_under (put (p ∷ ps) name value) name ≡ Some value
      by_test later true is = rw (is, is) refl
      by_test later false is = rw (is, is) later

  -- of another name
  module _ (other : List ℕ) (apart : same_name other name ≡ false) where
    put_other : (ps : Pairs) → value_under (put ps name value) other ≡ value_under ps other
    put_other [] = rw apart refl
    put_other (p ∷ ps) = by_test (put_other ps) (same_name name p.0) refl
      where
        by_test : value_under (put ps name value) other ≡ value_under ps other → (b : Bool) → same_name name p.0 ≡ b →
            value_under (put (p ∷ ps) name value) other ≡ value_under (p ∷ ps) other
        by_test later true is =
            let differs : same_name other p.0 ≡ false = ap (same_name other) (sym (names_same name p.0 is)) ∙ apart in
            rw (is, differs) refl
        by_test later false is = rw (is, later) refl

  -- the kind of each name is kept, where that of the name is the value's
  put_kind : (ps : Pairs) (other : List ℕ) (k : Kind) → (other ≡ name → kind_of value ≡ k) → HasKind ps other k → HasKind (put ps name value) other k
  put_kind ps other k own has = by_test (same_name other name) refl
    where
      by_test : (b : Bool) → same_name other name ≡ b → HasKind (put ps name value) other k
      by_test true is =
          let e = names_same other name is in
          rw e (rw (put_same ps) (ap (λ j. Some j) (own e)))
      by_test false is = rw (put_other other is ps) has

-- ---- the variables of a program

held_kind : (variables : Pairs) (store : Pairs) (name : List ℕ) (k : Kind) → Holds variables store →
    option_map kind_of (value_under variables name) ≡ Some k → HasKind store name k
held_kind [] store name k holds is = absurd cc
held_kind (v ∷ vs) store name k holds is =
    by_test (held_kind vs store name k (All-tail (λ (v : Pair). HasKind store v.0 (kind_of v.1)) v vs holds)) (same_name name v.0) refl is
  where
    by_test : (option_map kind_of (value_under vs name) ≡ Some k → HasKind store name k) → (b : Bool) → same_name name v.0 ≡ b →
        option_map kind_of (if b then Some v.1 else value_under vs name) ≡ Some k → HasKind store name k
    by_test later true same h =
        let here = All-head (λ (v : Pair). HasKind store v.0 (kind_of v.1)) v vs holds in
        ap (λ x. option_map kind_of (value_under store x)) (names_same name v.0 same) ∙ here ∙ h
    by_test later false same h = later h

-- the value of a variable is there, and of its kind
pub record IsThere (store : Pairs) (name : List ℕ) (k : Kind) : Type 0 where
  pub value : Value
  pub there : value_under store name ≡ Some value
  pub of_kind : IsOf k value

put_fits : (ps : Pairs) (name : List ℕ) (v : Value) → IsFitting v → StoreFits ps → StoreFits (put ps name v)
put_fits [] name v h g = (h, tt)
put_fits (q ∷ ps) name v h g = by_test (put_fits ps name v h g.1) (same_name name q.0)
  where
    by_test : StoreFits (put ps name v) → (b : Bool) → StoreFits (if b then (q.0, v) ∷ ps else q ∷ put ps name v)
    by_test later true = (h, g.1)
    by_test later false = (g.0, later)

module _ (p : Program) (store : Pairs) (is : IsStored p store) where
  has_kind : (name : List ℕ) (k : Kind) → kind_under p name ≡ Some k → HasKind store name k
  has_kind name k known = held_kind (pairs_of p.variables) store name k is.holds known

  pub variable_is : (name : List ℕ) (k : Kind) → kind_under p name ≡ Some k → IsThere store name k
  variable_is name k known = by_found (value_under store name) refl (has_kind name k known)
    where
      by_found : (o : Option Value) → value_under store name ≡ o → option_map kind_of o ≡ Some k → IsThere store name k
      by_found (Some v) there h = record { value = v; there = there; of_kind = record { kind = cc; fits = subst FitsIf there (under_fits store name is.fits) } }
      by_found None there h = absurd cc

  pub put_stored : (name : List ℕ) (v : Value) (k : Kind) → kind_under p name ≡ Some k → IsOf k v → IsStored p (put store name v)
  put_stored name v k known of_kind = record {
    holds = λ i d inside. put_kind name v store _ _
        (λ e. let one : Some _ ≡ Some k = sym (is.holds i d inside) ∙ ap (λ x. option_map kind_of (value_under store x)) e ∙ has_kind name k known in
        let same = of_kind.kind in cc)
        (is.holds i d inside);
    fits = put_fits store name v of_kind.fits is.fits;
  }

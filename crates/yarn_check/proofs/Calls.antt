-- What a call that has a kind takes and gives.
use Rattle.std.proofs.Common.{◌≡◌, List, [], ◌∷◌, Bool, true, false, if◌then◌else◌, Option, Some, None, refl, sym, ◌∙◌}
use Rattle.std.proofs.lemmas.Bool.{and_parts}
use Rattle.yarn_value.specs.declared.value.Value.{Value}
use Rattle.yarn_value.specs.declared.value.Kind.{Kind}
use Rattle.yarn_value.specs.declared.signature.Signature.{Signature}
use Rattle.yarn_value.specs.Rows.{same_kind, takes}
use Rattle.yarn_value.specs.Builtins.{Row}
use Rattle.yarn_value.specs.Calls.{same_kinds, kind_of_call}
use Rattle.yarn_check.specs.Shaped.{AreOf}
use Rattle.yarn_check.proofs.SameKinds.{kind_same}

-- a builtin takes the kinds on which it has a kind
pub row_called : (row : Row) (o : Option Signature) (ks : List Kind) (k : Kind) → kind_of_call (Some row) o ks ≡ Some k →
    (takes row.first row.second ks ≡ true) × (row.result ≡ k)
row_called row o ks k is = by_test (takes row.first row.second ks) refl is
  where
    by_test : (b : Bool) → takes row.first row.second ks ≡ b → (if b then Some row.result else None) ≡ Some k →
        (takes row.first row.second ks ≡ true) × (row.result ≡ k)
    by_test true taken h = (taken, cc)
    by_test false taken h = absurd cc

each_of : (params ks : List Kind) (vs : List Value) → same_kinds params ks ≡ true → AreOf ks vs → AreOf params vs
each_of [] [] vs h are = are
each_of [] (k ∷ ks) vs h are = absurd cc
each_of (q ∷ qs) [] vs h are = absurd cc
each_of (q ∷ qs) (k ∷ ks) [] h are = absurd are
each_of (q ∷ qs) (k ∷ ks) (v ∷ vs) h are =
    let parts = and_parts (same_kind q k) (same_kinds qs ks) h in
    (record { kind = are.0.kind ∙ sym (kind_same q k parts.0); fits = are.0.fits }, each_of qs ks vs parts.1 are.1)

-- so does a host function
pub host_called : (s : Signature) (ks : List Kind) (vs : List Value) (k : Kind) → kind_of_call None (Some s) ks ≡ Some k → AreOf ks vs →
    AreOf s.params vs × (s.result ≡ k)
host_called s ks vs k is are = by_test (same_kinds s.params ks) refl is
  where
    by_test : (b : Bool) → same_kinds s.params ks ≡ b → (if b then Some s.result else None) ≡ Some k → AreOf s.params vs × (s.result ≡ k)
    by_test true taken h = (each_of s.params ks vs taken are, cc)
    by_test false taken h = absurd cc

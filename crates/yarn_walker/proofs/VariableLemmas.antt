-- A store that is given the pairs that it lacks.
use Rattle.std.proofs.Common.{◌≡◌, ℕ, List, [], ◌∷◌, ◌++◌, Bool, true, false, if◌then◌else◌, Option, Some, None, refl, sym, ap, ◌∙◌}
use Rattle.std.specs.Option.{option_or}
use Rattle.std.specs.Prelude.{unwrap_or}
use Rattle.yarn_blocks.proofs.HeldLemmas.{or-assoc}
use Rattle.yarn_value.specs.declared.value.Value.{Value}
use Rattle.yarn_types.specs.declared.typed.TypedName.{TypedName}
use Rattle.yarn_value.specs.Pairs.{same_name, value_under, put, Pairs, with_missing, with_missing_one}
use Rattle.yarn_store.proofs.LineReadingLemmas.{same_bytes-true}
use Rattle.yarn_meaning.specs.Variables.{first_value, plain_value, typed_pairs}
use Rattle.yarn_walker.specs.Variables.{pairs_of}
use Rattle.yarn_walker.specs.declared.variables.Variable.{Variable}

pub with_missing-append : (store a b : Pairs) → with_missing store (a ++ b) ≡ with_missing (with_missing store a) b
with_missing-append store [] b = refl
with_missing-append store (p ∷ a) b = with_missing-append (with_missing_one store p.0 p.1 (value_under store p.0)) a b

pub with_missing-more : (store : Pairs) (before : List Variable) (v : Variable) →
    with_missing store (pairs_of (before ++ v ∷ []))
    ≡ with_missing_one (with_missing store (pairs_of before)) v.name v.value (value_under (with_missing store (pairs_of before)) v.name)
with_missing-more store [] v = refl
with_missing-more store (first ∷ before) v = with_missing-more (with_missing_one store first.name first.value (value_under store first.name)) before v

-- ---- the value of a name

pub put-new : (store : Pairs) (name : List ℕ) (value : Value) → value_under store name ≡ None → put store name value ≡ store ++ (name, value) ∷ []
put-new [] name value new = refl
put-new (p ∷ store) name value new = by_test (put-new store name value) (same_name name p.0) new
  where
    by_test : (value_under store name ≡ None → put store name value ≡ store ++ (name, value) ∷ []) → (is : Bool) → (if is then Some p.1 else value_under store name) ≡ None →
        (if is then (p.0, value) ∷ store else p ∷ put store name value) ≡ p ∷ store ++ (name, value) ∷ []
    by_test later true e = absurd cc
    by_test later false e = ap (λ ps. p ∷ ps) (later e)

pub with_missing_one-new : (store : Pairs) (name : List ℕ) (value : Value) → value_under store name ≡ None →
    with_missing_one store name value (value_under store name) ≡ put store name value
with_missing_one-new store name value new = ap (with_missing_one store name value) new ∙ sym (put-new store name value new)

value_under-append : (a b : Pairs) (name : List ℕ) → value_under (a ++ b) name ≡ option_or (value_under a name) (value_under b name)
value_under-append [] b name = refl
value_under-append (p ∷ a) b name = by_test (value_under-append a b name) (same_name name p.0)
  where
    by_test : value_under (a ++ b) name ≡ option_or (value_under a name) (value_under b name) → (is : Bool) →
        (if is then Some p.1 else value_under (a ++ b) name) ≡ option_or (if is then Some p.1 else value_under a name) (value_under b name)
    by_test later true = refl
    by_test later false = later

or-none : (o : Option Value) → o ≡ option_or o None
or-none None = refl
or-none (Some v) = refl

value_under-one : (store : Pairs) (name : List ℕ) (value : Value) (other : List ℕ) →
    value_under (with_missing_one store name value (value_under store name)) other ≡ option_or (value_under store other) (value_under ((name, value) ∷ []) other)
value_under-one store name value other = by_there (value_under store name) refl
  where
    kept : (there : Value) → value_under store name ≡ Some there → (is : Bool) → same_name other name ≡ is →
        value_under store other ≡ option_or (value_under store other) (if is then Some value else None)
    kept there e true is =
        let found : value_under store other ≡ Some there = ap (value_under store) (same_bytes-true other name is) ∙ e in
        found ∙ sym (ap (λ o. option_or o (Some value)) found)
    kept there e false is = or-none (value_under store other)

    by_there : (o : Option Value) → value_under store name ≡ o →
        value_under (with_missing_one store name value o) other ≡ option_or (value_under store other) (value_under ((name, value) ∷ []) other)
    by_there (Some there) e = kept there e (same_name other name) refl
    by_there None e = value_under-append store ((name, value) ∷ []) other

-- the first pair of a name counts
value_under-with_missing : (store ps : Pairs) (name : List ℕ) → value_under (with_missing store ps) name ≡ option_or (value_under store name) (value_under ps name)
value_under-with_missing store [] name = or-none (value_under store name)
value_under-with_missing store (p ∷ ps) name =
    value_under-with_missing (with_missing_one store p.0 p.1 (value_under store p.0)) ps name
    ∙ ap (λ o. option_or o (value_under ps name)) (value_under-one store p.0 p.1 name)
    ∙ or-assoc (value_under store name) (value_under (p ∷ []) name) (value_under ps name)
    ∙ ap (option_or (value_under store name)) (sym (value_under-append (p ∷ []) ps name))

pub typed_pairs-kept : (declared : Pairs) (entries : List TypedName) → typed_pairs (with_missing [] declared) entries ≡ typed_pairs declared entries
typed_pairs-kept declared [] = refl
typed_pairs-kept declared (entry ∷ entries) =
    ap (λ o. (entry.name, unwrap_or o (plain_value entry.kind)) ∷ typed_pairs (with_missing [] declared) entries) (value_under-with_missing [] declared entry.name)
    ∙ ap (λ ps. (entry.name, first_value declared entry) ∷ ps) (typed_pairs-kept declared entries)

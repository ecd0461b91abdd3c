-- A store's words against those of the map that holds it.
use Rattle.std.proofs.Common.{◌≡◌, ℕ, zero, suc, List, [], ◌∷◌, Bool, true, false, cond, None, Some, All, position, true≢false, is_some, refl, sym, ap, ◌∙◌, subst}
use Rattle.std.specs.Prelude.{IsSome}
use Rattle.std.specs.List.{IsDistinct, AllByRecursion}
use Rattle.std.specs.Map.{keys_of, lookup}
use Rattle.std.proofs.lemmas.List.Elements.{All-nil, All-cons, All-head, All-tail}
use Rattle.indexmap.specs.IndexMap.{insert_entry}
use Rattle.indexmap.specs.Layout.{set_value_at}
use Rattle.indexmap.proofs.MapLemmas.{insert_entry-first, Found-position}
use Rattle.yarn_value.specs.declared.value.Value.{Value}
use Rattle.yarn_store.specs.Pairs.{IsPair, IsStore}
use Rattle.yarn_value.specs.Pairs.{Pair, same_name, value_under, put, AreDistinct}
use Rattle.yarn_value.specs.Values.{IsShort}

pub value_under-lookup : (ps : List Pair) (name : List ℕ) → lookup (same_name name) ps ≡ value_under ps name
value_under-lookup [] name = refl
value_under-lookup (p ∷ ps) name = ap (λ rest. cond (same_name name p.0) (Some p.1) rest) (value_under-lookup ps name)

pub put-insert_entry : (ps : List Pair) (name : List ℕ) (value : Value) → insert_entry same_name ps name value ≡ put ps name value
put-insert_entry [] name value = refl
put-insert_entry (p ∷ ps) name value = ap (λ rest. cond (same_name name p.0) ((p.0, value) ∷ ps) (p ∷ rest)) (put-insert_entry ps name value)

pub put-set_value_at : (ps : List Pair) (name : List ℕ) (value : Value) (at : ℕ) → position (same_name name) (keys_of ps) ≡ Some at →
    set_value_at ps at value ≡ put ps name value
put-set_value_at ps name value at found =
    sym (insert_entry-first same_name name value ps at (Found-position (same_name name) ps at found).first) ∙ put-insert_entry ps name value

apart : (name : List ℕ) (ps : List Pair) → AllByRecursion (λ other. same_name name other ≡ false) (keys_of ps) → value_under ps name ≡ None
apart name [] h = refl
apart name (p ∷ ps) h = rw h.0 (apart name ps h.1)

pub AreDistinct-keys : (ps : List Pair) → IsDistinct same_name (keys_of ps) → AreDistinct ps
unfolding IsDistinct
AreDistinct-keys [] h = tt
AreDistinct-keys (p ∷ ps) h = (apart p.0 ps h.0, AreDistinct-keys ps h.1)

pub store_of : (ps : List Pair) → IsDistinct same_name (keys_of ps) → All (λ p. IsPair p.0 p.1) ps → IsStore ps
store_of ps distinct pairs = record { distinct = AreDistinct-keys ps distinct; pairs = pairs }

-- the value of a pair is another one
pub with_value : (name : List ℕ) (old new : Value) → IsPair name old → IsShort new → IsPair name new
with_value name old new pair short = record { variable = pair.variable; len = pair.len; short = short }

-- all pairs are right where a new name is one of a right pair
pub All-put : (ps : List Pair) (name : List ℕ) (value : Value) → All (λ p. IsPair p.0 p.1) ps → IsShort value →
    (value_under ps name ≡ None → IsPair name value) → All (λ p. IsPair p.0 p.1) (put ps name value)
All-put [] name value all short fresh = All-cons (λ p. IsPair p.0 p.1) (name, value) [] (fresh refl) (All-nil (λ p. IsPair p.0 p.1))
All-put (p ∷ ps) name value all short fresh =
    let first = All-head (λ p. IsPair p.0 p.1) p ps all in
    let rest = All-tail (λ p. IsPair p.0 p.1) p ps all in
    by_test (λ none. All-put ps name value rest short none) first rest (same_name name p.0) refl
  where
    by_test : ((value_under ps name ≡ None → IsPair name value) → All (λ p. IsPair p.0 p.1) (put ps name value)) →
        IsPair p.0 p.1 → All (λ p. IsPair p.0 p.1) ps → (b : Bool) → same_name name p.0 ≡ b → All (λ p. IsPair p.0 p.1) (put (p ∷ ps) name value)
    by_test later first rest true is = rw is (All-cons (λ p. IsPair p.0 p.1) (p.0, value) ps (with_value p.0 p.1 value first short) rest)
    by_test later first rest false is = rw is (All-cons (λ p. IsPair p.0 p.1) p (put ps name value) first (later (λ none. fresh (rw is none))))

-- a search finds a name that is there
pub there_not_found : (ps : List Pair) (name : List ℕ) → is_some (lookup (same_name name) ps) ≡ false → IsSome (value_under ps name) → ⊥
there_not_found ps name missing there = true≢false (sym there ∙ ap is_some (sym (value_under-lookup ps name)) ∙ missing)

keys-set : (ps : List Pair) (at : ℕ) (value : Value) → keys_of (set_value_at ps at value) ≡ keys_of ps
keys-set [] at value = refl
keys-set (p ∷ ps) zero value = refl
keys-set (p ∷ ps) (suc at) value = ap (λ names. p.0 ∷ names) (keys-set ps at value)

pub distinct-set : (ps : List Pair) (at : ℕ) (value : Value) → IsDistinct same_name (keys_of ps) → IsDistinct same_name (keys_of (set_value_at ps at value))
distinct-set ps at value distinct = subst (IsDistinct same_name) (sym (keys-set ps at value)) distinct

-- another value at a place where the name stands
module _ (ps : List Pair) (name : List ℕ) (value : Value) (at : ℕ) (found : position (same_name name) (keys_of ps) ≡ Some at)
    (there : IsSome (value_under ps name)) (short : IsShort value) (all : All (λ p. IsPair p.0 p.1) ps) where
  pub All-set : All (λ p. IsPair p.0 p.1) (set_value_at ps at value)
  All-set =
      rw (put-set_value_at ps name value at found) (All-put ps name value all short (λ none. absurd (true≢false (sym there ∙ ap is_some none))))

  pub store-set : IsDistinct same_name (keys_of ps) → IsStore (set_value_at ps at value)
  store-set distinct = store_of (set_value_at ps at value) (distinct-set ps at value distinct) All-set

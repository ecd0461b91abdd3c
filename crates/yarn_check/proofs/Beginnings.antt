-- The store with which a run begins.
use Rattle.std.proofs.Common.{◌≡◌, ℕ, List, [], ◌∷◌, ◌++◌, Bool, true, false, if◌then◌else◌, Option, Some, None, All, refl, sym, ap, ◌∙◌}
use Rattle.std.specs.Prelude.{⊤}
use Rattle.std.specs.Option.{option_map}
use Rattle.std.proofs.lemmas.List.Elements.{All-nil, All-cons, All-head, All-tail}
use Rattle.yarn_value.specs.declared.value.Value.{Value}
use Rattle.yarn_value.specs.declared.value.Kind.{Kind}
use Rattle.yarn_value.specs.Values.{kind_of}
use Rattle.yarn_value.specs.Pairs.{Pair, Pairs, same_name, value_under, with_missing_one, with_missing}
use Rattle.yarn_code.specs.declared.program.Variable.{Variable}
use Rattle.yarn_code.specs.Fields.{IsFitting, AreUnique, IsNew, IsVariableField, names_of}
use Rattle.yarn_code.specs.Kinds.{HasKind}
use Rattle.yarn_code.specs.Parts.{pairs_of}
use Rattle.yarn_check.specs.Shaped.{StoreFits}
use Rattle.yarn_check.specs.Laws.{StoresBegin}
use Rattle.yarn_check.proofs.Stores.{names_same, same_names}

-- ---- a pair behind a store

behind_there : (ps qs : Pairs) (name : List ℕ) (x : Value) → value_under ps name ≡ Some x → value_under (ps ++ qs) name ≡ Some x
behind_there [] qs name x is = absurd cc
behind_there (p ∷ ps) qs name x is = by_test (behind_there ps qs name x) (same_name name p.0) is
  where
    by_test : (value_under ps name ≡ Some x → value_under (ps ++ qs) name ≡ Some x) → (b : Bool) → (if b then Some p.1 else value_under ps name) ≡ Some x →
        (if b then Some p.1 else value_under (ps ++ qs) name) ≡ Some x
    by_test later true h = h
    by_test later false h = later h

behind_none : (ps qs : Pairs) (name : List ℕ) → value_under ps name ≡ None → value_under (ps ++ qs) name ≡ value_under qs name
behind_none [] qs name is = refl
behind_none (p ∷ ps) qs name is = by_test (behind_none ps qs name) (same_name name p.0) is
  where
    by_test : (value_under ps name ≡ None → value_under (ps ++ qs) name ≡ value_under qs name) → (b : Bool) → (if b then Some p.1 else value_under ps name) ≡ None →
        (if b then Some p.1 else value_under (ps ++ qs) name) ≡ value_under qs name
    by_test later true h = absurd cc
    by_test later false h = later h

-- ---- what is there stays

one_stays : (store : Pairs) (name : List ℕ) (value : Value) (o : Option Value) (other : List ℕ) (k : Kind) → HasKind store other k → HasKind (with_missing_one store name value o) other k
one_stays store name value (Some there) other k has = has
one_stays store name value None other k has = by_value (value_under store other) refl has
  where
    by_value : (found : Option Value) → value_under store other ≡ found → option_map kind_of found ≡ Some k → HasKind (store ++ (name, value) ∷ []) other k
    by_value (Some x) is h = rw (behind_there store ((name, value) ∷ []) other x is) h
    by_value None is h = absurd cc

all_stay : (ps store : Pairs) (other : List ℕ) (k : Kind) → HasKind store other k → HasKind (with_missing store ps) other k
all_stay [] store other k has = has
all_stay (p ∷ ps) store other k has =
    all_stay ps (with_missing_one store p.0 p.1 (value_under store p.0)) other k (one_stays store p.0 p.1 (value_under store p.0) other k has)

-- ---- what is missing is put

abbrev HasOwn : Pairs → Pair → Type 0
HasOwn store p = HasKind store p.0 (kind_of p.1)

-- the store has no value of another kind
abbrev Keeps : Pairs → Pair → Type 0
Keeps store p = (x : Value) → value_under store p.0 ≡ Some x → kind_of x ≡ kind_of p.1

-- no name comes again
abbrev AreApart : Pairs → Type 0
AreApart [] = ⊤
AreApart (p ∷ ps) = All (λ q. p.0 ≡ q.0 → ⊥) ps × AreApart ps

one_put : (store : Pairs) (p : Pair) (found : Option Value) → value_under store p.0 ≡ found → Keeps store p → HasOwn (with_missing_one store p.0 p.1 found) p
one_put store p (Some x) is keeps = rw is (ap (λ k. Some k) (keeps x is))
one_put store p None is keeps = rw (behind_none store (p ∷ []) p.0 is, same_names p.0 p.0 refl) refl

still_keeps : (store : Pairs) (p q : Pair) (found : Option Value) → value_under store p.0 ≡ found → (p.0 ≡ q.0 → ⊥) → Keeps store q → Keeps (with_missing_one store p.0 p.1 found) q
still_keeps store p q (Some there) is apart keeps = keeps
still_keeps store p q None is apart keeps = λ x h. by_value x (value_under store q.0) refl h
  where
    by_name : (x : Value) (b : Bool) → same_name q.0 p.0 ≡ b → (if b then Some p.1 else None) ≡ Some x → kind_of x ≡ kind_of q.1
    by_name x true same h = absurd (apart (sym (names_same q.0 p.0 same)))
    by_name x false same h = absurd cc

    by_value : (x : Value) (o : Option Value) → value_under store q.0 ≡ o → value_under (store ++ p ∷ []) q.0 ≡ Some x → kind_of x ≡ kind_of q.1
    by_value x (Some y) there h = keeps x (there ∙ sym (behind_there store (p ∷ []) q.0 y there) ∙ h)
    by_value x None there h = by_name x (same_name q.0 p.0) refl (sym (behind_none store (p ∷ []) q.0 there) ∙ h)

all_put : (ps store : Pairs) → AreApart ps → All (Keeps store) ps → All (HasOwn (with_missing store ps)) ps
all_put [] store apart keep = All-nil (HasOwn store)
all_put (p ∷ ps) store apart keep =
    let found = value_under store p.0 in
    let store1 = with_missing_one store p.0 p.1 found in
    All-cons (HasOwn (with_missing store1 ps)) p ps
    (all_stay ps store1 p.0 (kind_of p.1) (one_put store p found refl (All-head (Keeps store) p ps keep)))
    (all_put ps store1 apart.1 (λ i d inside. still_keeps store p _ found refl (apart.0 i d inside) (All-tail (Keeps store) p ps keep i d inside)))

-- ---- the values fit

and_fits : (ps : Pairs) (name : List ℕ) (value : Value) → IsFitting value → StoreFits ps → StoreFits (ps ++ (name, value) ∷ [])
and_fits [] name value fit h = (fit, tt)
and_fits (p ∷ ps) name value fit h = (h.0, and_fits ps name value fit h.1)

one_fits : (store : Pairs) (name : List ℕ) (value : Value) (o : Option Value) → IsFitting value → StoreFits store → StoreFits (with_missing_one store name value o)
one_fits store name value (Some there) fit h = h
one_fits store name value None fit h = and_fits store name value fit h

all_fit : (ps store : Pairs) → StoreFits ps → StoreFits store → StoreFits (with_missing store ps)
all_fit [] store fit h = h
all_fit (p ∷ ps) store fit h = all_fit ps (with_missing_one store p.0 p.1 (value_under store p.0)) fit.1 (one_fits store p.0 p.1 (value_under store p.0) fit.0 h)

-- ---- the variables of a program

apart_from : (name : List ℕ) (vs : List Variable) → IsNew name (names_of vs) → All (λ q. name ≡ q.0 → ⊥) (pairs_of vs)
apart_from name [] new = All-nil (λ (q : Pair). name ≡ q.0 → ⊥)
apart_from name (v ∷ vs) new =
    All-cons (λ (q : Pair). name ≡ q.0 → ⊥) (v.name, v.initial) (pairs_of vs) (All-head (λ other. name ≡ other → ⊥) v.name (names_of vs) new)
    (apart_from name vs (All-tail (λ other. name ≡ other → ⊥) v.name (names_of vs) new))

are_apart : (vs : List Variable) → AreUnique (names_of vs) → AreApart (pairs_of vs)
are_apart [] unique = tt
are_apart (v ∷ vs) unique = (apart_from v.name vs unique.0, are_apart vs unique.1)

initials_fit : (vs : List Variable) → All IsVariableField vs → StoreFits (pairs_of vs)
initials_fit [] all = tt
initials_fit (v ∷ vs) all = ((All-head IsVariableField v vs all).fits, initials_fit vs (All-tail IsVariableField v vs all))

pub stores_begin : StoresBegin
stores_begin p pairs fields keep fit = record {
  holds = all_put (pairs_of p.variables) pairs (are_apart p.variables fields.variables_differ) keep;
  fits = all_fit (pairs_of p.variables) pairs (initials_fit p.variables fields.variables) fit;
}

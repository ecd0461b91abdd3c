-- The store with which a run begins holds the variables.
use Rattle.std.proofs.Common.{◌≡◌, ℕ, pos, List, [], ◌∷◌, ◌++◌, Bool, true, false, if◌then◌else◌, Option, Some, None, All, true≢false, refl, sym, ap, ◌∙◌, map}
use Rattle.std.specs.Prelude.{⊤}
use Rattle.std.specs.Option.{option_map}
use Rattle.std.proofs.lemmas.List.Elements.{All-nil, All-cons, All-head, All-tail, All-append}
use Rattle.yarn_value.specs.declared.value.Value.{Value}
use Rattle.yarn_value.specs.declared.value.Value.TheVariants.{Number}
use Rattle.yarn_value.specs.declared.value.Kind.{Kind}
use Rattle.yarn_value.specs.declared.value.Kind.TheVariants as kind
use Rattle.yarn_value.specs.Values.{kind_of}
use Rattle.yarn_tree.specs.Trees.{NodeTree, FileTree, grown}
use Rattle.yarn_tree.specs.Laws.{ReadExactly}
use Rattle.yarn_tree.specs.Checks.{is_reserved_name}
use Rattle.yarn_value.specs.Pairs.{Pair, same_name, value_under, Pairs, with_missing_one, with_missing}
use Rattle.yarn_types.specs.declared.typed.TypedName.{TypedName}
use Rattle.yarn_value.specs.Visits.{count_name}
use Rattle.yarn_meaning.specs.Variables.{first_value, typed_pairs, counts_in, counts_of, declared_in_files, variables_of, first_store}
use Rattle.yarn_code.specs.Kinds.{HasKind, Holds, KeepsKinds}
use Rattle.yarn_kinds.specs.Typed.{IsTyped}
use Rattle.yarn_kinds.specs.Kept.{beginning, titles_of, BegunHolds, AcceptedIsSound}
use Rattle.yarn_kinds.proofs.Typed.{AreApart, accepted_typed}
use Rattle.yarn_kinds.proofs.Runs.{runs_keep}
use Rattle.yarn_kinds.proofs.Begins.{HasOwn, held_is_sound}
use Rattle.yarn_kinds.proofs.Stores.{names_same, same_names, count_reserved}

-- ---- a pair behind a store

behind_there : (ps qs : Pairs) (name : List ℕ) (x : Value) → value_under ps name ≡ Some x → value_under (ps ++ qs) name ≡ Some x
behind_there [] qs name x is = absurd cc
behind_there (p ∷ ps) qs name x is = by_test (behind_there ps qs name x) (same_name name p.0) is
  where
    by_test : (value_under ps name ≡ Some x → value_under (ps ++ qs) name ≡ Some x) → (b : Bool) → (if b then Some p.1 else value_under ps name) ≡ Some x →
        (if b then Some p.1 else value_under (ps ++ qs) name) ≡ Some x
    by_test later true h = h
    by_test later false h = later h

behind_none : (ps qs : Pairs) (name : List ℕ) → value_under ps name ≡ None → value_under (ps ++ qs) name ≡ value_under qs name
behind_none [] qs name is = refl
behind_none (p ∷ ps) qs name is = by_test (behind_none ps qs name) (same_name name p.0) is
  where
    by_test : (value_under ps name ≡ None → value_under (ps ++ qs) name ≡ value_under qs name) → (b : Bool) → (if b then Some p.1 else value_under ps name) ≡ None →
        (if b then Some p.1 else value_under (ps ++ qs) name) ≡ value_under qs name
    by_test later true h = absurd cc
    by_test later false h = later h

-- ---- what is there stays

one_stays : (store : Pairs) (name : List ℕ) (value : Value) (o : Option Value) (other : List ℕ) (k : Kind) → HasKind store other k → HasKind (with_missing_one store name value o) other k
one_stays store name value (Some there) other k has = has
one_stays store name value None other k has = by_value (value_under store other) refl has
  where
    by_value : (found : Option Value) → value_under store other ≡ found → option_map kind_of found ≡ Some k → HasKind (store ++ (name, value) ∷ []) other k
    by_value (Some x) is h = rw (behind_there store ((name, value) ∷ []) other x is) h
    by_value None is h = absurd cc

all_stay : (ps store : Pairs) (other : List ℕ) (k : Kind) → HasKind store other k → HasKind (with_missing store ps) other k
all_stay [] store other k has = has
all_stay (p ∷ ps) store other k has =
    all_stay ps (with_missing_one store p.0 p.1 (value_under store p.0)) other k (one_stays store p.0 p.1 (value_under store p.0) other k has)

-- ---- what is missing is put

-- the store has no value of another kind
abbrev Agrees : Pairs → Pair → Type 0
Agrees store p = (x : Value) → value_under store p.0 ≡ Some x → kind_of x ≡ kind_of p.1

-- one name has one kind
abbrev AreAlike : Pairs → Type 0
AreAlike [] = ⊤
AreAlike (p ∷ ps) = All (λ q. p.0 ≡ q.0 → kind_of p.1 ≡ kind_of q.1) ps × AreAlike ps

one_put : (store : Pairs) (p : Pair) (found : Option Value) → value_under store p.0 ≡ found → Agrees store p → HasOwn (with_missing_one store p.0 p.1 found) p
one_put store p (Some x) is agrees = rw is (ap (λ k. Some k) (agrees x is))
one_put store p None is agrees = rw (behind_none store (p ∷ []) p.0 is, same_names p.0 p.0 refl) refl

same_value : (x y : Value) → Some x ≡ Some y → x ≡ y
same_value x y h = cc

still_agrees : (store : Pairs) (p q : Pair) (found : Option Value) → value_under store p.0 ≡ found → (p.0 ≡ q.0 → kind_of p.1 ≡ kind_of q.1) → Agrees store q → Agrees (with_missing_one store p.0 p.1 found) q
still_agrees store p q (Some there) is alike agrees = agrees
still_agrees store p q None is alike agrees = λ x h. by_value x (value_under store q.0) refl h
  where
    by_name : (x : Value) (b : Bool) → same_name q.0 p.0 ≡ b → (if b then Some p.1 else None) ≡ Some x → kind_of x ≡ kind_of q.1
    by_name x true same h = ap kind_of (sym (same_value p.1 x h)) ∙ alike (sym (names_same q.0 p.0 same))
    by_name x false same h = absurd cc

    by_value : (x : Value) (o : Option Value) → value_under store q.0 ≡ o → value_under (store ++ p ∷ []) q.0 ≡ Some x → kind_of x ≡ kind_of q.1
    by_value x (Some y) there h = agrees x (there ∙ sym (behind_there store (p ∷ []) q.0 y there) ∙ h)
    by_value x None there h = by_name x (same_name q.0 p.0) refl (sym (behind_none store (p ∷ []) q.0 there) ∙ h)

all_put : (ps store : Pairs) → AreAlike ps → All (Agrees store) ps → All (HasOwn (with_missing store ps)) ps
all_put [] store alike agree = All-nil (HasOwn store)
all_put (p ∷ ps) store alike agree =
    let found = value_under store p.0 in
    let store1 = with_missing_one store p.0 p.1 found in
    All-cons (HasOwn (with_missing store1 ps)) p ps
    (all_stay ps store1 p.0 (kind_of p.1) (one_put store p found refl (All-head (Agrees store) p ps agree)))
    (all_put ps store1 alike.1 (λ i d inside. still_agrees store p _ found refl (alike.0 i d inside) (All-tail (Agrees store) p ps agree i d inside)))

-- ---- the variables of a project

abbrev AllNumbers : Pairs → Type 0
AllNumbers ps = All (λ p. kind_of p.1 ≡ kind.Number) ps

abbrev AllReserved : Pairs → Type 0
AllReserved ps = All (λ p. is_reserved_name p.0 ≡ true) ps

numbers_alike : (ps : Pairs) → AllNumbers ps → AreAlike ps
numbers_alike [] all = tt
numbers_alike (p ∷ ps) all =
    let first = All-head (λ (p : Pair). kind_of p.1 ≡ kind.Number) p ps all in
    let rest = All-tail (λ (p : Pair). kind_of p.1 ≡ kind.Number) p ps all in
    (λ i d inside same. first ∙ sym (rest i d inside), numbers_alike ps rest)

module _ (declared : Pairs) where
  typed_apart : (name : List ℕ) (k : Kind) (entries : List TypedName) → All (λ other. name ≡ other.name → ⊥) entries → All (λ q. name ≡ q.0 → k ≡ kind_of q.1) (typed_pairs declared entries)
  typed_apart name k [] all = All-nil (λ (q : Pair). name ≡ q.0 → k ≡ kind_of q.1)
  typed_apart name k (entry ∷ entries) all =
      All-cons (λ (q : Pair). name ≡ q.0 → k ≡ kind_of q.1) (entry.name, first_value declared entry) (typed_pairs declared entries)
      (λ same. absurd (All-head (λ (other : TypedName). name ≡ other.name → ⊥) entry entries all same))
      (typed_apart name k entries (All-tail (λ (other : TypedName). name ≡ other.name → ⊥) entry entries all))

  variables_alike : (entries : List TypedName) (counts : Pairs) → AreApart entries → All (λ entry. is_reserved_name entry.name ≡ false) entries → AllNumbers counts → AllReserved counts →
      AreAlike (typed_pairs declared entries ++ counts)
  variables_alike [] counts apart unreserved numbers reserved = numbers_alike counts numbers
  variables_alike (entry ∷ entries) counts apart unreserved numbers reserved =
      let own = All-head (λ (entry : TypedName). is_reserved_name entry.name ≡ false) entry entries unreserved in (
        All-append (λ (q : Pair). entry.name ≡ q.0 → kind_of (first_value declared entry) ≡ kind_of q.1) (typed_pairs declared entries) counts
            (typed_apart entry.name (kind_of (first_value declared entry)) entries apart.0)
            (λ i d inside same. absurd (true≢false (sym (reserved i d inside) ∙ ap is_reserved_name (sym same) ∙ own))),
        variables_alike entries counts apart.1 (All-tail (λ (entry : TypedName). is_reserved_name entry.name ≡ false) entry entries unreserved) numbers reserved,
      )

node_numbers : (ns : List NodeTree) → AllNumbers (counts_in ns)
node_numbers [] = All-nil (λ (p : Pair). kind_of p.1 ≡ kind.Number)
node_numbers (n ∷ ns) = All-cons (λ (p : Pair). kind_of p.1 ≡ kind.Number) (count_name n.title, Number (pos 0)) (counts_in ns) refl (node_numbers ns)

file_numbers : (fs : List FileTree) → AllNumbers (counts_of fs)
file_numbers [] = All-nil (λ (p : Pair). kind_of p.1 ≡ kind.Number)
file_numbers (f ∷ fs) = All-append (λ (p : Pair). kind_of p.1 ≡ kind.Number) (counts_in f.nodes) (counts_of fs) (node_numbers f.nodes) (file_numbers fs)

node_reserved : (ns : List NodeTree) → AllReserved (counts_in ns)
node_reserved [] = All-nil (λ (p : Pair). is_reserved_name p.0 ≡ true)
node_reserved (n ∷ ns) = All-cons (λ (p : Pair). is_reserved_name p.0 ≡ true) (count_name n.title, Number (pos 0)) (counts_in ns) (count_reserved n.title) (node_reserved ns)

file_reserved : (fs : List FileTree) → AllReserved (counts_of fs)
file_reserved [] = All-nil (λ (p : Pair). is_reserved_name p.0 ≡ true)
file_reserved (f ∷ fs) = All-append (λ (p : Pair). is_reserved_name p.0 ≡ true) (counts_in f.nodes) (counts_of fs) (node_reserved f.nodes) (file_reserved fs)

-- a store in which each variable that is there has its kind holds all of them when a run begins
pub begun_held : (entries : List TypedName) (files : List FileTree) (pairs : Pairs) → AreApart entries → All (λ entry. is_reserved_name entry.name ≡ false) entries →
    KeepsKinds (variables_of entries files) pairs → Holds (variables_of entries files) (first_store pairs entries files)
begun_held entries files pairs apart unreserved kept =
    all_put (variables_of entries files) pairs
    (variables_alike (declared_in_files files) entries (counts_of files) apart unreserved (file_numbers files) (file_reserved files)) kept

pub begun_holds : ReadExactly → BegunHolds
begun_holds exactly signatures sources lines entries pairs accepted kept =
    let known = accepted_typed exactly signatures sources lines entries accepted in
    begun_held entries (map grown lines) pairs known.apart known.unreserved kept

-- each moment of a run of an accepted project is sound
pub accepted_is_sound : ReadExactly → AcceptedIsSound
accepted_is_sound exactly signatures sources lines entries start st k accepted kept =
    let known = accepted_typed exactly signatures sources lines entries accepted in
    let typed : IsTyped signatures entries (map grown lines) = record { fits = known.lines; unreserved = known.unreserved } in
    runs_keep signatures entries (titles_of (map grown lines)) (map grown lines) start (beginning entries (map grown lines) st) k typed
    (held_is_sound signatures entries (map grown lines) (first_store st.store entries (map grown lines)) typed (begun_held entries (map grown lines) st.store known.apart known.unreserved kept))

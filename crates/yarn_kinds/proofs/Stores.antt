-- What a store keeps when a pair is put into it.
use Rattle.std.proofs.Common.{◌≡◌, ℕ, List, [], ◌∷◌, nat_eq, Bool, true, false, Some, None, All, true≢false, refl, sym, ap, ◌∙◌}
use Rattle.std.specs.Cmp.Lexicographic.{pointwise}
use Rattle.std.specs.Option.{option_and_then}
use Rattle.std.specs.Prelude.{slice_get}
use Rattle.std.proofs.lemmas.Bool.{false_from_ne_true}
use Rattle.std.proofs.lemmas.List.Elements.{All-head, All-tail}
use Rattle.std.proofs.lemmas.Slice.Eq.{bytes_eq-Decides}
use Rattle.yarn_value.specs.declared.value.Value.{Value}
use Rattle.yarn_value.specs.declared.value.Kind.{Kind}
use Rattle.yarn_value.specs.declared.value.Kind.TheVariants as kind
use Rattle.yarn_value.specs.Values.{kind_of}
use Rattle.yarn_value.specs.Pairs.{same_name, value_under, put, Pairs}
use Rattle.yarn_tree.specs.Checks.{is_reserved_name}
use Rattle.yarn_types.specs.declared.typed.TypedName.{TypedName}
use Rattle.yarn_types.specs.Names.{place_of}
use Rattle.yarn_types.specs.Fits.{kind_of_variable}
use Rattle.yarn_types.specs.Typings.{kinds_in}
use Rattle.yarn_value.specs.Visits.{count_name}
use Rattle.yarn_kinds.specs.Typed.{variables_in}
use Rattle.yarn_code.specs.Kinds.{HasKind}
use Rattle.yarn_kinds.specs.Kept.{IsSound}

pub names_same : (a b : List ℕ) → same_name a b ≡ true → a ≡ b
names_same a b h = (bytes_eq-Decides a b).0 h

pub same_names : (a b : List ℕ) → a ≡ b → same_name a b ≡ true
same_names a b e = (bytes_eq-Decides a b).1 e

-- ---- the value of a name behind a put

module _ (name : List ℕ) (value : Value) where
  -- of the name itself
  pub put_same : (ps : Pairs) → value_under (put ps name value) name ≡ Some value
  put_same [] = rw (same_names name name refl) refl
  put_same (p ∷ ps) = by_test (put_same ps) (same_name name p.0) refl
    where
      by_test : value_under (put ps name value) name ≡ Some value → (b : Bool) → same_name name p.0 ≡ b → value_under (put (p ∷ ps) name value) name ≡ Some value
      by_test later true is = rw (is, is) refl
      by_test later false is = rw (is, is) later

  -- of another name
  module _ (other : List ℕ) (apart : same_name other name ≡ false) where
    pub put_other : (ps : Pairs) → value_under (put ps name value) other ≡ value_under ps other
    put_other [] = rw apart refl
    put_other (p ∷ ps) = by_test (put_other ps) (same_name name p.0) refl
      where
        by_test : value_under (put ps name value) other ≡ value_under ps other → (b : Bool) → same_name name p.0 ≡ b → value_under (put (p ∷ ps) name value) other ≡ value_under (p ∷ ps) other
        by_test later true is =
            let differs : same_name other p.0 ≡ false = ap (same_name other) (sym (names_same name p.0 is)) ∙ apart in
            rw (is, differs) refl
        by_test later false is = rw (is, later) refl

  -- the kind of each name is kept, where that of the name is the value's
  pub put_kind : (ps : Pairs) (other : List ℕ) (k : Kind) → (other ≡ name → kind_of value ≡ k) → HasKind ps other k → HasKind (put ps name value) other k
  put_kind ps other k own has = by_test (same_name other name) refl
    where
      by_test : (b : Bool) → same_name other name ≡ b → HasKind (put ps name value) other k
      by_test true is =
          let e = names_same other name is in
          rw e (rw (put_same ps) (ap (λ j. Some j) (own e)))
      by_test false is = rw (put_other other is ps) has

-- ---- no variable of the typing is a count

pub count_reserved : (title : List ℕ) → is_reserved_name (count_name title) ≡ true
unfolding count_name
count_reserved title = refl

place_none : (entries : List TypedName) (name : List ℕ) → All (λ entry. is_reserved_name entry.name ≡ false) entries → is_reserved_name name ≡ true → place_of (variables_in entries) name ≡ None
place_none [] name all reserved = refl
place_none (entry ∷ entries) name all reserved =
    let differs = false_from_ne_true (pointwise nat_eq entry.name name)
    (λ same. true≢false (sym reserved ∙ ap is_reserved_name (sym (names_same entry.name name same)) ∙ All-head (λ (e : TypedName). is_reserved_name e.name ≡ false) entry entries all)) in
    let rest = place_none entries name (All-tail (λ (e : TypedName). is_reserved_name e.name ≡ false) entry entries all) reserved in
    rw (differs, rest) refl

module _ (entries : List TypedName) (titles : List (List ℕ)) (unreserved : All (λ entry. is_reserved_name entry.name ≡ false) entries) where
  untyped : (title : List ℕ) (k : Kind) → kind_of_variable (variables_in entries) (kinds_in entries) (count_name title) ≡ Some k → ⊥
  untyped title k is =
      let none = place_none entries (count_name title) unreserved (count_reserved title) in
      let h : option_and_then (slice_get (kinds_in entries)) None ≡ Some k = ap (option_and_then (slice_get (kinds_in entries))) (sym none) ∙ is in
      absurd cc

  -- a variable is set to a value of its kind
  pub set_sound : (store : Pairs) (name : List ℕ) (value : Value) (k : Kind) → kind_of_variable (variables_in entries) (kinds_in entries) name ≡ Some k → kind_of value ≡ k →
      IsSound entries titles store → IsSound entries titles (put store name value)
  set_sound store name value k is same sound = record {
    keeps = λ other j typed. put_kind name value store other j
        (λ e. let h : Some k ≡ Some j = sym is ∙ ap (kind_of_variable (variables_in entries) (kinds_in entries)) (sym e) ∙ typed in same ∙ cc) (sound.keeps other j typed);
    counts = λ i d inside. put_kind name value store (count_name _) kind.Number
        (λ e. absurd (untyped _ k (ap (kind_of_variable (variables_in entries) (kinds_in entries)) e ∙ is))) (sound.counts i d inside);
  }

  -- a count is set to a number
  pub count_sound : (store : Pairs) (title : List ℕ) (value : Value) → kind_of value ≡ kind.Number → IsSound entries titles store → IsSound entries titles (put store (count_name title) value)
  count_sound store title value is sound = record {
    keeps = λ other j typed. put_kind (count_name title) value store other j
        (λ e. absurd (untyped title j (ap (kind_of_variable (variables_in entries) (kinds_in entries)) (sym e) ∙ typed))) (sound.keeps other j typed);
    counts = λ i d inside. put_kind (count_name title) value store (count_name _) kind.Number (λ e. is) (sound.counts i d inside);
  }

-- Signatures that are found by name, and what is told of the functions under them, after one of them was called.
use Rattle.std.proofs.Common.{◌≡◌, ◌≢◌, ◌<◌, ◌≤◌, ℕ, suc, List, [], ◌∷◌, ◌++◌, length, Bool, true, false, not, ◌&&◌, nat_eq, nat_le, Option, Some, None, option_map, is_some, IsSome, IsTrue, slice_get, slice_set, map, refl, sym, ap, ◌∙◌, arith}
use Rattle.std.specs.Cmp.Lexicographic.{pointwise, same_text, other_text}
use Rattle.std.proofs.lemmas.Bool.Decides.{nat_tests}
use Rattle.yarn_value.specs.declared.value.Kind.{Kind}
use Rattle.yarn_value.specs.declared.signature.Signature.{Signature}
use Rattle.yarn_host.specs.Meaning.{Meaning}
use Rattle.yarn_value.specs.declared.value.Value.{Value}
use Rattle.yarn_value.specs.Values.{kind_of}
use Rattle.yarn_value.specs.Rows.{same_kind}
use Rattle.yarn_value.specs.Replies.{is_reply_of, is_short}
use Rattle.yarn_value.specs.Signatures.{signature_named}
use Rattle.yarn_host.specs.Adds.{refusal_of}
use Rattle.yarn_host.specs.Names.{place_of, meaning_of, takes, IsCallable, is_free_name, are_proper}

both : (a b : Bool) → (a && b) ≡ true → (a ≡ true) × (b ≡ true)
both true b e = (refl, e)
both false b e = absurd cc

none_behind : (o : Option ℕ) → option_map suc o ≡ None → o ≡ None
none_behind None e = refl
none_behind (Some k) e = cc

some_behind : (o : Option ℕ) (i : ℕ) → option_map suc o ≡ Some i → (k : ℕ) × (o ≡ Some k) × (i ≡ suc k)
some_behind None i e = absurd cc
some_behind (Some k) i e = (k, refl, cc)

-- two texts that differ don't pass the test
pub differ : (xs ys : List ℕ) → xs ≢ ys → pointwise nat_eq xs ys ≡ false
differ xs ys apart = by_test (pointwise nat_eq xs ys) refl
  where
    by_test : (b : Bool) → pointwise nat_eq xs ys ≡ b → pointwise nat_eq xs ys ≡ false
    by_test true is = absurd (apart (same_text xs ys (sym is)))
    by_test false is = is

pub meaning_of-at : (signatures : List Signature) (meanings : List Meaning) (name : List ℕ) (at : ℕ) →
    place_of signatures name ≡ Some at → meaning_of signatures meanings name ≡ slice_get meanings at
meaning_of-at [] meanings name at found = absurd cc
meaning_of-at (s ∷ ss) [] name at found = refl
meaning_of-at (s ∷ ss) (m ∷ ms) name at found = by_test (meaning_of-at ss ms name) (pointwise nat_eq s.name name) refl
  where
    by_test : ((k : ℕ) → place_of ss name ≡ Some k → meaning_of ss ms name ≡ slice_get ms k) →
        (b : Bool) → pointwise nat_eq s.name name ≡ b → meaning_of (s ∷ ss) (m ∷ ms) name ≡ slice_get (m ∷ ms) at
    by_test later true is =
        let here : at ≡ 0 = let e = rw is at found in cc in
        rw (is, here) refl
    by_test later false is =
        let behind = some_behind (place_of ss name) at (rw is at found) in
        rw (is, behind.2) (later behind.0 behind.1)

pub meaning_of-set_this : (signatures : List Signature) (meanings : List Meaning) (name : List ℕ) (at : ℕ) (after : Meaning) →
    length signatures ≡ length meanings → place_of signatures name ≡ Some at →
    meaning_of signatures (slice_set meanings at after) name ≡ Some after
meaning_of-set_this [] ms name at after paired found = absurd cc
meaning_of-set_this (s ∷ ss) [] name at after paired found = absurd (omega arith)
meaning_of-set_this (s ∷ ss) (m ∷ ms) name at after paired found =
    by_test (λ k. meaning_of-set_this ss ms name k after (omega arith)) (pointwise nat_eq s.name name) refl
  where
    by_test : ((k : ℕ) → place_of ss name ≡ Some k → meaning_of ss (slice_set ms k after) name ≡ Some after) →
        (b : Bool) → pointwise nat_eq s.name name ≡ b → meaning_of (s ∷ ss) (slice_set (m ∷ ms) at after) name ≡ Some after
    by_test later true is =
        let here : at ≡ 0 = let e = rw is at found in cc in
        rw (here, is) refl
    by_test later false is =
        let behind = some_behind (place_of ss name) at (rw is at found) in
        rw (behind.2, is) (later behind.0 behind.1)

pub meaning_of-set_other : (signatures : List Signature) (meanings : List Meaning) (name other : List ℕ) (at : ℕ) (after : Meaning) →
    place_of signatures name ≡ Some at → other ≢ name →
    meaning_of signatures (slice_set meanings at after) other ≡ meaning_of signatures meanings other
meaning_of-set_other [] ms name other at after found apart = refl
meaning_of-set_other (s ∷ ss) [] name other at after found apart = refl
meaning_of-set_other (s ∷ ss) (m ∷ ms) name other at after found apart =
    by_test (λ k f. meaning_of-set_other ss ms name other k after f apart) (pointwise nat_eq s.name name) refl
  where
    by_test : ((k : ℕ) → place_of ss name ≡ Some k → meaning_of ss (slice_set ms k after) other ≡ meaning_of ss ms other) →
        (b : Bool) → pointwise nat_eq s.name name ≡ b →
        meaning_of (s ∷ ss) (slice_set (m ∷ ms) at after) other ≡ meaning_of (s ∷ ss) (m ∷ ms) other
    by_test later true is =
        let here : at ≡ 0 = let e = rw is at found in cc in
        let other_test : pointwise nat_eq s.name other ≡ false = differ s.name other (λ e. apart (sym e ∙ same_text s.name name (sym is))) in
        rw (here, other_test) refl
    by_test later false is =
        let behind = some_behind (place_of ss name) at (rw is at found) in
        rw (behind.2, later behind.0 behind.1) refl

pub signature_named-at : (signatures : List Signature) (name : List ℕ) (at : ℕ) →
    place_of signatures name ≡ Some at → signature_named signatures name ≡ slice_get signatures at
signature_named-at [] name at found = absurd cc
signature_named-at (s ∷ ss) name at found = by_test (signature_named-at ss name) (pointwise nat_eq s.name name) refl
  where
    by_test : ((k : ℕ) → place_of ss name ≡ Some k → signature_named ss name ≡ slice_get ss k) →
        (b : Bool) → pointwise nat_eq s.name name ≡ b → signature_named (s ∷ ss) name ≡ slice_get (s ∷ ss) at
    by_test later true is =
        let here : at ≡ 0 = let e = rw is at found in cc in
        rw (is, here) refl
    by_test later false is =
        let behind = some_behind (place_of ss name) at (rw is at found) in
        rw (is, behind.2) (later behind.0 behind.1)

pub place_of-bound : (signatures : List Signature) (name : List ℕ) (at : ℕ) → place_of signatures name ≡ Some at → at < length signatures
place_of-bound [] name at found = absurd cc
place_of-bound (s ∷ ss) name at found = by_test (place_of-bound ss name) (pointwise nat_eq s.name name) refl
  where
    by_test : ((k : ℕ) → place_of ss name ≡ Some k → k < length ss) → (b : Bool) → pointwise nat_eq s.name name ≡ b → at < length (s ∷ ss)
    by_test later true is = let here : at ≡ 0 = let e = rw is at found in cc in omega arith
    by_test later false is =
        let behind = some_behind (place_of ss name) at (rw is at found) in
        omega (arith, later behind.0 behind.1)

-- what is found by place is found by name
pub named_is_placed : (signatures : List Signature) (name : List ℕ) → is_some (place_of signatures name) ≡ is_some (signature_named signatures name)
named_is_placed [] name = refl
named_is_placed (s ∷ ss) name = by_test (named_is_placed ss name) (pointwise nat_eq s.name name) refl
  where
    behind : (o : Option ℕ) → is_some (option_map suc o) ≡ is_some o
    behind None = refl
    behind (Some k) = refl

    by_test : is_some (place_of ss name) ≡ is_some (signature_named ss name) →
        (b : Bool) → pointwise nat_eq s.name name ≡ b → is_some (place_of (s ∷ ss) name) ≡ is_some (signature_named (s ∷ ss) name)
    by_test later true is = rw is refl
    by_test later false is = rw is (behind (place_of ss name) ∙ later)

-- a function that takes arguments has a place
pub callable_is_placed : (signatures : List Signature) (name : List ℕ) (args : List Value) → IsCallable signatures name args → IsSome (place_of signatures name)
callable_is_placed signatures name args h =
    by_cases (place_of signatures name) (signature_named signatures name) (named_is_placed signatures name) h
  where
    by_cases : (o : Option ℕ) (s : Option Signature) → is_some o ≡ is_some s → IsTrue (takes s args) → IsSome o
    by_cases (Some k) s e h = refl
    by_cases None None e h = absurd cc
    by_cases None (Some s) e h = absurd cc

-- what is told of a function that has a place
pub meaning_of-there : (signatures : List Signature) (meanings : List Meaning) (name : List ℕ) (at : ℕ) →
    length signatures ≡ length meanings → place_of signatures name ≡ Some at → (m : Meaning) × (meaning_of signatures meanings name ≡ Some m)
meaning_of-there [] ms name at paired found = absurd cc
meaning_of-there (s ∷ ss) [] name at paired found = absurd (omega arith)
meaning_of-there (s ∷ ss) (m ∷ ms) name at paired found =
    by_test (λ k. meaning_of-there ss ms name k (omega arith)) (pointwise nat_eq s.name name) refl
  where
    by_test : ((k : ℕ) → place_of ss name ≡ Some k → (n : Meaning) × (meaning_of ss ms name ≡ Some n)) →
        (b : Bool) → pointwise nat_eq s.name name ≡ b → (n : Meaning) × (meaning_of (s ∷ ss) (m ∷ ms) name ≡ Some n)
    by_test later true is = (m, rw is refl)
    by_test later false is =
        let behind = some_behind (place_of ss name) at (rw is at found) in
        let found_later = later behind.0 behind.1 in
        (found_later.0, rw is found_later.1)

-- whether the function at a place may reply a value
pub reply_test : (signatures : List Signature) (name : List ℕ) (at : ℕ) (kind : Kind) (value : Value) →
    place_of signatures name ≡ Some at → option_map (λ s. s.result) (slice_get signatures at) ≡ Some kind →
    is_reply_of (signature_named signatures name) value ≡ (same_kind kind (kind_of value) && is_short value)
reply_test signatures name at kind value found is =
    rw (signature_named-at signatures name at found) (by_cases (slice_get signatures at) is)
  where
    by_cases : (o : Option Signature) → option_map (λ s. s.result) o ≡ Some kind → is_reply_of o value ≡ (same_kind kind (kind_of value) && is_short value)
    by_cases None e = absurd cc
    by_cases (Some s) e = let same : s.result ≡ kind = cc in rw same refl

-- one more signature
named_behind : (signatures : List Signature) (last : Signature) (name : List ℕ) → is_some (signature_named signatures name) ≡ false →
    pointwise nat_eq last.name name ≡ false → is_some (signature_named (signatures ++ last ∷ []) name) ≡ false
named_behind [] last name none apart = rw apart refl
named_behind (s ∷ ss) last name none apart = by_test (λ h. named_behind ss last name h apart) (pointwise nat_eq s.name name) refl
  where
    by_test : (is_some (signature_named ss name) ≡ false → is_some (signature_named (ss ++ last ∷ []) name) ≡ false) →
        (b : Bool) → pointwise nat_eq s.name name ≡ b → is_some (signature_named (s ∷ ss ++ last ∷ []) name) ≡ false
    by_test later true is = let never = rw is at none in absurd cc
    by_test later false is = rw is (later (rw is at none))

not_true : (b : Bool) → not b ≡ true → b ≡ false
not_true true e = absurd cc
not_true false e = refl

few_enough : (n : ℕ) → n ≤ 16 → nat_le n 16 ≡ true
few_enough n few = grind (arith, nat_tests)

proper_more : (signatures : List Signature) (last : Signature) → are_proper signatures ≡ true → is_free_name last.name ≡ true →
    nat_le (length last.params) 16 ≡ true → is_some (signature_named signatures last.name) ≡ false → are_proper (signatures ++ last ∷ []) ≡ true
proper_more [] last proper free few none = rw (free, few) refl
proper_more (s ∷ ss) last proper free few none = by_test (λ h g. proper_more ss last h free few g) (pointwise nat_eq s.name last.name) refl
  where
    by_test : (are_proper ss ≡ true → is_some (signature_named ss last.name) ≡ false → are_proper (ss ++ last ∷ []) ≡ true) →
        (b : Bool) → pointwise nat_eq s.name last.name ≡ b → are_proper (s ∷ ss ++ last ∷ []) ≡ true
    by_test later true is = let never = rw is at none in absurd cc
    by_test later false is =
        let first = both (is_free_name s.name && nat_le (length s.params) 16 && not (is_some (signature_named ss s.name))) (are_proper ss) proper in
        let second = both (is_free_name s.name && nat_le (length s.params) 16) (not (is_some (signature_named ss s.name))) first.0 in
        let third = both (is_free_name s.name) (nat_le (length s.params) 16) second.0 in
        let alone : is_some (signature_named ss s.name) ≡ false = not_true (is_some (signature_named ss s.name)) second.1 in
        let apart : pointwise nat_eq last.name s.name ≡ false = differ last.name s.name (λ e. other_text s.name last.name (sym is) (sym e)) in
        rw (third.0, third.1, named_behind ss last s.name alone apart, later first.1 (rw is at none)) refl

-- a name that isn't refused is free and new
allowed : (signatures : List Signature) (name : List ℕ) → refusal_of signatures name ≡ None →
    (is_free_name name ≡ true) × (is_some (signature_named signatures name) ≡ false)
allowed signatures name none = by_test (is_free_name name) (is_some (signature_named signatures name)) refl refl
  where
    by_test : (a b : Bool) → is_free_name name ≡ a → is_some (signature_named signatures name) ≡ b → (is_free_name name ≡ true) × (is_some (signature_named signatures name) ≡ false)
    by_test false b free is = let never = rw free at none in absurd cc
    by_test true true free is = let never = rw (free, is) at none in absurd cc
    by_test true false free is = (free, is)

pub stays_proper : (signatures later : List Signature) (last : Signature) → later ≡ signatures ++ last ∷ [] → are_proper signatures ≡ true →
    length last.params ≤ 16 → refusal_of signatures last.name ≡ None → are_proper later ≡ true
stays_proper signatures later last e proper few none =
    let may = allowed signatures last.name none in
    ap are_proper e ∙ proper_more signatures last proper may.0 (few_enough (length last.params) few) may.1

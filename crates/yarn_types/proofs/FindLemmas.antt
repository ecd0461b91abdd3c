-- The kind of an expression from the kinds of its parts.
use Rattle.std.proofs.Common.{◌≡◌, ℕ, ◌<◌, ◌≤◌, List, Bool, true, false, ◌&&◌, if◌then◌else◌, Option, Some, None, is_some, slice_get, length, refl, sym, ap, ◌∙◌, subst}
use Rattle.std.proofs.lemmas.Bool.{and_parts, and_from}
use Rattle.std.proofs.lemmas.Option.{slice_get-get_or, slice_get_past}
use Rattle.yarn_value.specs.declared.value.Kind.{Kind}
use Rattle.yarn_value.specs.declared.value.Kind.TheVariants.{Number}
use Rattle.yarn_value.specs.Rows.{same_kind}
use Rattle.yarn_expr.specs.declared.tree.BinaryOp.{BinaryOp}
use Rattle.yarn_expr.specs.declared.tree.BinaryOp.TheVariants.{Mul, Div, Rem, Add, Sub, Lte, Gte, Lt, Gt, Eq, Neq, And, Or, Xor}
use Rattle.yarn_types.specs.declared.kind_set.KindSet.{KindSet}
use Rattle.yarn_types.specs.declared.finding.Found.{Found}
use Rattle.yarn_types.specs.declared.finding.Found.TheVariants.{Known, OfVariable}
use Rattle.yarn_types.specs.declared.class.Classes.{Classes}
use Rattle.yarn_types.specs.KindSets.{holds}
use Rattle.yarn_types.specs.Typings.{kind_at}
use Rattle.yarn_types.specs.Founds.{kind_in, given_in}
use Rattle.yarn_types.specs.Classes.{count_of, Stands, Allows, Narrows, Refuses, IsPlaced, Finds, FindsNone}
use Rattle.yarn_types.specs.Fits.{taken_by, given_by, joined, is_in}
use Rattle.yarn_types.proofs.Narrowing.{narrows_none, narrows_after, narrows_as, refuses_at, refuses_after, placed_on, both_ways}

abbrev Asked : Type 0
Asked = List Kind → Option Kind

is_some-if : (b : Bool) (k : Kind) → is_some (if b then Some k else None) ≡ b
is_some-if true k = refl
is_some-if false k = refl

if_true : (b : Bool) (k : Kind) → b ≡ true → (if b then Some k else None) ≡ Some k
if_true b k h = rw h refl

-- ---- literals and variables

pub finds_known : (c : Classes) (k : Kind) → Stands c → Finds c c (λ t. Some k) (Known k)
finds_known c k stands = record { narrows = narrows_none c (λ t. true) stands (λ t a. refl); placed = tt; gives = λ t a. refl }

pub finds_variable : (c : Classes) (v : ℕ) → Stands c → v < count_of c → Finds c c (λ t. slice_get t v) (OfVariable v)
finds_variable c v stands inside = record {
  narrows = narrows_none c (λ t. is_some (slice_get t v)) stands (λ t a. ap is_some (there t a));
  placed = inside;
  gives = there;
}
  where
    there : (t : List Kind) → Allows c t → slice_get t v ≡ Some (kind_at t v)
    there t a = slice_get-get_or t v Number (subst (λ n. v < n) (sym a.counted) inside)

past : {X : Type 0} → (xs : List X) (v : ℕ) → length xs ≤ v → is_some (slice_get xs v) ≡ false
past xs v beyond = rw (slice_get_past xs v beyond) refl

pub finds_no_variable : (c : Classes) (v : ℕ) → count_of c ≤ v → FindsNone c (λ t. slice_get t v)
finds_no_variable c v beyond t a = past t v (subst (λ n. n ≤ v) (sym a.counted) beyond)

-- ---- a test of one kind, which fails where there is none

module _ (w : Option Kind → Bool) (never : w None ≡ false) where
  needs : (x : Option Kind) → w x ≡ true → is_some x ≡ true
  needs (Some k) h = refl
  needs None h = absurd (both_ways (w None) h never)

  pub narrows_by : (c d e : Classes) (asked : Asked) (found : Found) → Finds c d asked found → Narrows d e (λ t. w (Some (kind_in found t))) → Narrows c e (λ t. w (asked t))
  narrows_by c d e asked found finds narrows =
      narrows_after c d e (λ t. is_some (asked t)) (λ t. w (Some (kind_in found t))) (λ t. w (asked t)) finds.narrows narrows
      (λ t. needs (asked t))
      (λ t a h. sym (ap w (finds.gives t a)) ∙ h)
      (λ t a h. ap w (finds.gives t a) ∙ h)

  pub refuses_by : (c d : Classes) (asked : Asked) (found : Found) → Finds c d asked found → Refuses d (λ t. w (Some (kind_in found t))) → Refuses c (λ t. w (asked t))
  refuses_by c d asked found finds none =
      refuses_after c d (λ t. is_some (asked t)) (λ t. w (Some (kind_in found t))) (λ t. w (asked t)) finds.narrows none
      (λ t. needs (asked t))
      (λ t a h. sym (ap w (finds.gives t a)) ∙ h)

  pub refuses_by_none : (c : Classes) (asked : Asked) → FindsNone c asked → Refuses c (λ t. w (asked t))
  refuses_by_none c asked none = refuses_at c (λ t. is_some (asked t)) (λ t. w (asked t)) none (λ t. needs (asked t))

-- the kind is in a set
pub narrows_in : (c d e : Classes) (asked : Asked) (found : Found) (set : KindSet) → Finds c d asked found → Narrows d e (λ t. holds set (kind_in found t)) → Narrows c e (λ t. is_in set (asked t))
narrows_in c d e asked found set = narrows_by (is_in set) refl c d e asked found

pub refuses_in : (c d : Classes) (asked : Asked) (found : Found) (set : KindSet) → Finds c d asked found → Refuses d (λ t. holds set (kind_in found t)) → Refuses c (λ t. is_in set (asked t))
refuses_in c d asked found set = refuses_by (is_in set) refl c d asked found

pub refuses_in_none : (c : Classes) (asked : Asked) (set : KindSet) → FindsNone c asked → Refuses c (λ t. is_in set (asked t))
refuses_in_none c asked set = refuses_by_none (is_in set) refl c asked

-- a kind that is given where a test is passed
pub finds_if : (c d : Classes) (test : List Kind → Bool) (k : Kind) → Narrows c d test → Finds c d (λ t. if test t then Some k else None) (Known k)
finds_if c d test k narrows = record {
  narrows = narrows_as c d test (λ t. is_some (if test t then Some k else None)) narrows (λ t. sym (is_some-if (test t) k));
  placed = tt;
  gives = λ t a. if_true (test t) k (narrows.passes t a);
}

pub finds_none_if : (c : Classes) (test : List Kind → Bool) (k : Kind) → Refuses c test → FindsNone c (λ t. if test t then Some k else None)
finds_none_if c test k none t a = is_some-if (test t) k ∙ none t a

-- ---- a test of two kinds, which fails where one of them isn't there

module _ (w : Option Kind → Option Kind → Bool) (left_never : (y : Option Kind) → w None y ≡ false) (right_never : (x : Option Kind) → w x None ≡ false)
    (left right : Asked) where
  left_needs : (x y : Option Kind) → w x y ≡ true → is_some x ≡ true
  left_needs (Some k) y h = refl
  left_needs None y h = absurd (both_ways (w None y) h (left_never y))

  right_needs : (x y : Option Kind) → w x y ≡ true → is_some y ≡ true
  right_needs x (Some k) h = refl
  right_needs x None h = absurd (both_ways (w x None) h (right_never x))

  pub refuses_left : (c : Classes) → FindsNone c left → Refuses c (λ t. w (left t) (right t))
  refuses_left c none = refuses_at c (λ t. is_some (left t)) (λ t. w (left t) (right t)) none (λ t h. left_needs (left t) (right t) h)

  pub refuses_right : (c d : Classes) (one : Found) → Finds c d left one → FindsNone d right → Refuses c (λ t. w (left t) (right t))
  refuses_right c d one first none =
      refuses_after c d (λ t. is_some (left t)) (λ t. is_some (right t)) (λ t. w (left t) (right t)) first.narrows none
      (λ t h. left_needs (left t) (right t) h)
      (λ t a h. right_needs (left t) (right t) h)

  module _ (c d e : Classes) (one other : Found) (first : Finds c d left one) (second : Finds d e right other) where
    both_found : Narrows c e (λ t. is_some (left t) && is_some (right t))
    both_found =
        narrows_after c d e (λ t. is_some (left t)) (λ t. is_some (right t)) (λ t. is_some (left t) && is_some (right t)) first.narrows second.narrows
        (λ t h. (and_parts (is_some (left t)) (is_some (right t)) h).0)
        (λ t a h. (and_parts (is_some (left t)) (is_some (right t)) h).1)
        (λ t a h. and_from (is_some (left t)) (is_some (right t)) (ap is_some (first.gives t a)) h)

    same_test : (t : List Kind) → Allows e t → w (left t) (right t) ≡ w (Some (kind_in one t)) (Some (kind_in other t))
    same_test t a = ap (λ x. w x (right t)) (first.gives t (second.narrows.keeps t a)) ∙ ap (w (Some (kind_in one t))) (second.gives t a)

    both_needed : (t : List Kind) → w (left t) (right t) ≡ true → (is_some (left t) && is_some (right t)) ≡ true
    both_needed t h = and_from (is_some (left t)) (is_some (right t)) (left_needs (left t) (right t) h) (right_needs (left t) (right t) h)

    pub narrows_both : (f : Classes) → Narrows e f (λ t. w (Some (kind_in one t)) (Some (kind_in other t))) → Narrows c f (λ t. w (left t) (right t))
    narrows_both f both =
        narrows_after c e f (λ t. is_some (left t) && is_some (right t)) (λ t. w (Some (kind_in one t)) (Some (kind_in other t))) (λ t. w (left t) (right t)) both_found both
        both_needed
        (λ t a h. sym (same_test t a) ∙ h)
        (λ t a h. same_test t a ∙ h)

    pub refuses_both : Refuses e (λ t. w (Some (kind_in one t)) (Some (kind_in other t))) → Refuses c (λ t. w (left t) (right t))
    refuses_both none =
        refuses_after c e (λ t. is_some (left t) && is_some (right t)) (λ t. w (Some (kind_in one t)) (Some (kind_in other t))) (λ t. w (left t) (right t)) both_found none
        both_needed
        (λ t a h. sym (same_test t a) ∙ h)

-- ---- operators between two operands

abbrev can_join : BinaryOp → Option Kind → Option Kind → Bool
can_join op x y = is_some (joined op x y)

no_left : (op : BinaryOp) (y : Option Kind) → can_join op None y ≡ false
no_left op y = refl

no_right : (op : BinaryOp) (x : Option Kind) → can_join op x None ≡ false
no_right op (Some k) = refl
no_right op None = refl

pub finds_joined : (c d e f : Classes) (op : BinaryOp) (left right : Asked) (one other found : Found) → Finds c d left one → Finds d e right other
    → Finds e f (λ t. joined op (Some (kind_in one t)) (Some (kind_in other t))) found → Finds c f (λ t. joined op (left t) (right t)) found
finds_joined c d e f op left right one other found first second both = record {
  narrows = narrows_both (can_join op) (no_left op) (no_right op) left right c d e one other first second f both.narrows;
  placed = both.placed;
  gives = λ t a. same t (both.narrows.keeps t a) ∙ both.gives t a;
}
  where
    same : (t : List Kind) → Allows e t → joined op (left t) (right t) ≡ joined op (Some (kind_in one t)) (Some (kind_in other t))
    same t a = ap (λ x. joined op x (right t)) (first.gives t (second.narrows.keeps t a)) ∙ ap (joined op (Some (kind_in one t))) (second.gives t a)

pub finds_none_left : (c : Classes) (op : BinaryOp) (left right : Asked) → FindsNone c left → FindsNone c (λ t. joined op (left t) (right t))
finds_none_left c op left right = refuses_left (can_join op) (no_left op) (no_right op) left right c

pub finds_none_right : (c d : Classes) (op : BinaryOp) (left right : Asked) (one : Found) → Finds c d left one → FindsNone d right → FindsNone c (λ t. joined op (left t) (right t))
finds_none_right c d op left right one = refuses_right (can_join op) (no_left op) (no_right op) left right c d one

pub finds_none_joined : (c d e : Classes) (op : BinaryOp) (left right : Asked) (one other : Found) → Finds c d left one → Finds d e right other
    → FindsNone e (λ t. joined op (Some (kind_in one t)) (Some (kind_in other t))) → FindsNone c (λ t. joined op (left t) (right t))
finds_none_joined c d e op left right one other = refuses_both (can_join op) (no_left op) (no_right op) left right c d e one other

-- the test of two operands whose kinds are found
pub is_some-joined : (op : BinaryOp) (a b : Kind) → is_some (joined op (Some a) (Some b)) ≡ (same_kind a b && holds (taken_by op) a)
is_some-joined op a b = is_some-if (same_kind a b && holds (taken_by op) a) (given_by op a)

given-in : (op : BinaryOp) (found : Found) (t : List Kind) → given_by op (kind_in found t) ≡ kind_in (given_in op found) t
given-in Mul found t = refl
given-in Div found t = refl
given-in Rem found t = refl
given-in Add found t = refl
given-in Sub found t = refl
given-in Lte found t = refl
given-in Gte found t = refl
given-in Lt found t = refl
given-in Gt found t = refl
given-in Eq found t = refl
given-in Neq found t = refl
given-in And found t = refl
given-in Or found t = refl
given-in Xor found t = refl

given_placed : (c : Classes) (op : BinaryOp) (found : Found) → IsPlaced c found → IsPlaced c (given_in op found)
given_placed c Mul found h = tt
given_placed c Div found h = tt
given_placed c Rem found h = tt
given_placed c Add found h = h
given_placed c Sub found h = tt
given_placed c Lte found h = tt
given_placed c Gte found h = tt
given_placed c Lt found h = tt
given_placed c Gt found h = tt
given_placed c Eq found h = tt
given_placed c Neq found h = tt
given_placed c And found h = tt
given_placed c Or found h = tt
given_placed c Xor found h = tt

-- what is done about two operands
pub finds_operands : (c d e : Classes) (op : BinaryOp) (one other : Found) → IsPlaced c one
    → Narrows c d (λ t. same_kind (kind_in one t) (kind_in other t)) → Narrows d e (λ t. holds (taken_by op) (kind_in one t))
    → Finds c e (λ t. joined op (Some (kind_in one t)) (Some (kind_in other t))) (given_in op one)
finds_operands c d e op one other placed first second = record {
  narrows =
      narrows_after c d e (λ t. same_kind (kind_in one t) (kind_in other t)) (λ t. holds (taken_by op) (kind_in one t)) (λ t. is_some (joined op (Some (kind_in one t)) (Some (kind_in other t)))) first second
      (λ t h. (parts t h).0)
      (λ t a h. (parts t h).1)
      (λ t a h. is_some-joined op (kind_in one t) (kind_in other t) ∙ whole t (first.passes t a) h);
  placed = given_placed e op one (placed_on d e (λ t. holds (taken_by op) (kind_in one t)) one second (placed_on c d (λ t. same_kind (kind_in one t) (kind_in other t)) one first placed));
  gives = λ t a.
      if_true (same_kind (kind_in one t) (kind_in other t) && holds (taken_by op) (kind_in one t)) (given_by op (kind_in one t)) (whole t (first.passes t (second.keeps t a)) (second.passes t a))
      ∙ ap Some (given-in op one t);
}
  where
    whole : (t : List Kind) → same_kind (kind_in one t) (kind_in other t) ≡ true → holds (taken_by op) (kind_in one t) ≡ true → (same_kind (kind_in one t) (kind_in other t) && holds (taken_by op) (kind_in one t)) ≡ true
    whole t h g = and_from (same_kind (kind_in one t) (kind_in other t)) (holds (taken_by op) (kind_in one t)) h g

    parts : (t : List Kind) → is_some (joined op (Some (kind_in one t)) (Some (kind_in other t))) ≡ true → (same_kind (kind_in one t) (kind_in other t) ≡ true) × (holds (taken_by op) (kind_in one t) ≡ true)
    parts t h = and_parts (same_kind (kind_in one t) (kind_in other t)) (holds (taken_by op) (kind_in one t)) (sym (is_some-joined op (kind_in one t) (kind_in other t)) ∙ h)

pub operands_apart : (c : Classes) (op : BinaryOp) (one other : Found) → Refuses c (λ t. same_kind (kind_in one t) (kind_in other t))
    → FindsNone c (λ t. joined op (Some (kind_in one t)) (Some (kind_in other t)))
operands_apart c op one other none =
    refuses_at c (λ t. same_kind (kind_in one t) (kind_in other t)) (λ t. is_some (joined op (Some (kind_in one t)) (Some (kind_in other t)))) none
    (λ t h. (and_parts (same_kind (kind_in one t) (kind_in other t)) (holds (taken_by op) (kind_in one t)) (sym (is_some-joined op (kind_in one t) (kind_in other t)) ∙ h)).0)

pub operands_refused : (c d : Classes) (op : BinaryOp) (one other : Found) → Narrows c d (λ t. same_kind (kind_in one t) (kind_in other t)) → Refuses d (λ t. holds (taken_by op) (kind_in one t))
    → FindsNone c (λ t. joined op (Some (kind_in one t)) (Some (kind_in other t)))
operands_refused c d op one other first none =
    refuses_after c d (λ t. same_kind (kind_in one t) (kind_in other t)) (λ t. holds (taken_by op) (kind_in one t)) (λ t. is_some (joined op (Some (kind_in one t)) (Some (kind_in other t)))) first none
    (λ t h. (and_parts (same_kind (kind_in one t) (kind_in other t)) (holds (taken_by op) (kind_in one t)) (sym (is_some-joined op (kind_in one t) (kind_in other t)) ∙ h)).0)
    (λ t a h. (and_parts (same_kind (kind_in one t) (kind_in other t)) (holds (taken_by op) (kind_in one t)) (sym (is_some-joined op (kind_in one t) (kind_in other t)) ∙ h)).1)

-- How narrowings follow one another. Each is stated for any test.
use Rattle.std.proofs.Common.{◌≡◌, ◌<◌, List, Bool, true, false, ◌&&◌, Option, is_some, Result, Ok, Err, OnOk, OnErr, IfOk, refl, sym, ap, ◌∙◌, subst}
use Rattle.std.proofs.lemmas.Bool.{and_parts, and_from}
use Rattle.yarn_value.specs.declared.value.Kind.{Kind}
use Rattle.yarn_types.specs.declared.finding.Found.{Found}
use Rattle.yarn_types.specs.declared.finding.Found.TheVariants.{Known, OfVariable}
use Rattle.yarn_types.specs.declared.class.Classes.{Classes}
use Rattle.yarn_types.specs.Classes.{Stands, Allows, Narrows, Refuses, IsPlaced, Finds, FindsNone, Halfway}

abbrev Test : Type 0
Test = List Kind → Bool

pub not_true : (b : Bool) → (b ≡ true → ⊥) → b ≡ false
not_true true wrong = absurd (wrong refl)
not_true false wrong = refl

pub both_ways : (b : Bool) → b ≡ true → b ≡ false → ⊥
both_ways b yes_it no_it = cc

pub narrows_none : (c : Classes) (w : Test) → Stands c → ((t : List Kind) → Allows c t → w t ≡ true) → Narrows c c w
narrows_none c w stands always = record { stands = stands; count = refl; keeps = λ t a. a; passes = always; stays = λ t a h. a }

pub narrows_after : (c d e : Classes) (p q w : Test) → Narrows c d p → Narrows d e q
    → ((t : List Kind) → w t ≡ true → p t ≡ true)
    → ((t : List Kind) → Allows d t → w t ≡ true → q t ≡ true)
    → ((t : List Kind) → Allows d t → q t ≡ true → w t ≡ true)
    → Narrows c e w
narrows_after c d e p q w first second before on back = record {
  stands = second.stands;
  count = second.count ∙ first.count;
  keeps = λ t a. first.keeps t (second.keeps t a);
  passes = λ t a. back t (second.keeps t a) (second.passes t a);
  stays = λ t a h. let there : Allows d t = first.stays t a (before t h) in second.stays t there (on t there h);
}

pub narrows_as : (c d : Classes) (p w : Test) → Narrows c d p → ((t : List Kind) → p t ≡ w t) → Narrows c d w
narrows_as c d p w first same = record {
  stands = first.stands;
  count = first.count;
  keeps = first.keeps;
  passes = λ t a. sym (same t) ∙ first.passes t a;
  stays = λ t a h. first.stays t a (same t ∙ h);
}

pub narrows_within : (c d : Classes) (p w : Test) → Narrows c d p → ((t : List Kind) → Allows c t → p t ≡ w t) → Narrows c d w
narrows_within c d p w first same = record {
  stands = first.stands;
  count = first.count;
  keeps = first.keeps;
  passes = λ t a. sym (same t (first.keeps t a)) ∙ first.passes t a;
  stays = λ t a h. first.stays t a (same t a ∙ h);
}

pub refuses_within : (c : Classes) (p w : Test) → Refuses c p → ((t : List Kind) → Allows c t → p t ≡ w t) → Refuses c w
refuses_within c p w none same t a = sym (same t a) ∙ none t a

pub refuses_at : (c : Classes) (p w : Test) → Refuses c p → ((t : List Kind) → w t ≡ true → p t ≡ true) → Refuses c w
refuses_at c p w none before t a = not_true (w t) (λ h. both_ways (p t) (before t h) (none t a))

pub refuses_after : (c d : Classes) (p q w : Test) → Narrows c d p → Refuses d q
    → ((t : List Kind) → w t ≡ true → p t ≡ true)
    → ((t : List Kind) → Allows d t → w t ≡ true → q t ≡ true)
    → Refuses c w
refuses_after c d p q w first none before on t a =
    not_true (w t) (λ h. let there : Allows d t = first.stays t a (before t h) in both_ways (q t) (on t there h) (none t there))

pub placed_on : (c d : Classes) (p : Test) (found : Found) → Narrows c d p → IsPlaced c found → IsPlaced d found
placed_on c d p (Known kind) first placed = tt
placed_on c d p (OfVariable v) first placed = subst (λ n. v < n) (sym first.count) placed

pub halfway_begins : (c : Classes) (w : Test) → Stands c → Halfway c c w w
halfway_begins c w stands = record { stands = stands; count = refl; keeps = λ t a. a; goes_on = λ t a h. (a, h); comes_back = λ t a h. h }

pub halfway_step : (c d e : Classes) (w left p next : Test) → Halfway c d w left → Narrows d e p → ((t : List Kind) → left t ≡ (p t && next t)) → Halfway c e w next
halfway_step c d e w left p next half step split = record {
  stands = step.stands;
  count = step.count ∙ half.count;
  keeps = λ t a. half.keeps t (step.keeps t a);
  goes_on = λ t a h.
      let there : Allows d t × (left t ≡ true) = half.goes_on t a h in
      let parts : (p t ≡ true) × (next t ≡ true) = and_parts (p t) (next t) (sym (split t) ∙ there.1) in
      (step.stays t there.0 parts.0, parts.1);
  comes_back = λ t a h. half.comes_back t (step.keeps t a) (split t ∙ and_from (p t) (next t) (step.passes t a) h);
}

pub halfway_ends : (c d : Classes) (w left : Test) → Halfway c d w left → ((t : List Kind) → left t ≡ true) → Narrows c d w
halfway_ends c d w left half done = record {
  stands = half.stands;
  count = half.count;
  keeps = half.keeps;
  passes = λ t a. half.comes_back t a (done t);
  stays = λ t a h. (half.goes_on t a h).0;
}

pub halfway_stops : (c d : Classes) (w left p : Test) → Halfway c d w left → Refuses d p → ((t : List Kind) → left t ≡ true → p t ≡ true) → Refuses c w
halfway_stops c d w left p half none on t a =
    not_true (w t) (λ h. let there : Allows d t × (left t ≡ true) = half.goes_on t a h in both_ways (p t) (on t there.1) (none t there.0))

pub finds_as : (c d : Classes) (asked other : List Kind → Option Kind) (found : Found) → ((t : List Kind) → asked t ≡ other t) → Finds c d asked found → Finds c d other found
finds_as c d asked other found same finds = record {
  narrows = narrows_as c d (λ t. is_some (asked t)) (λ t. is_some (other t)) finds.narrows (λ t. ap is_some (same t));
  placed = finds.placed;
  gives = λ t a. sym (same t) ∙ finds.gives t a;
}

pub none_as : (c : Classes) (asked other : List Kind → Option Kind) → ((t : List Kind) → asked t ≡ other t) → FindsNone c asked → FindsNone c other
none_as c asked other same none t a = ap is_some (sym (same t)) ∙ none t a

-- what holds at every result holds at an error
pub at_error : {A E : Type 0} {P : Type 0} (r : Result A E) → P → OnErr r P
at_error (Ok a) p = tt
at_error (Err e) p = p

pub on_ok : {A E : Type 0} {P Q : Type 0} (r : Result A E) → (P → Q) → OnOk r P → OnOk r Q
on_ok (Ok a) f p = f p
on_ok (Err e) f p = tt

pub on_err : {A E : Type 0} {P Q : Type 0} (r : Result A E) → (P → Q) → OnErr r P → OnErr r Q
on_err (Ok a) f p = tt
on_err (Err e) f p = f p

pub if_ok : {A E : Type 0} {P Q : A → Type 0} (r : Result A E) → ((a : A) → P a → Q a) → IfOk r P → IfOk r Q
if_ok (Ok a) f p = f a p
if_ok (Err e) f p = tt

-- two tests, one after the other
module _ (c d : Classes) (p q : Test) where
  both_parts : (t : List Kind) → (p t && q t) ≡ true → (p t ≡ true) × (q t ≡ true)
  both_parts t h = and_parts (p t) (q t) h

  pub narrows_and : (e : Classes) → Narrows c d p → Narrows d e q → Narrows c e (λ t. p t && q t)
  narrows_and e first second =
      narrows_after c d e p q (λ t. p t && q t) first second
      (λ t h. (both_parts t h).0)
      (λ t a h. (both_parts t h).1)
      (λ t a h. and_from (p t) (q t) (first.passes t a) h)

  pub refuses_first : Refuses c p → Refuses c (λ t. p t && q t)
  refuses_first none = refuses_at c p (λ t. p t && q t) none (λ t h. (both_parts t h).0)

  pub refuses_second : Narrows c d p → Refuses d q → Refuses c (λ t. p t && q t)
  refuses_second first none = refuses_after c d p q (λ t. p t && q t) first none (λ t h. (both_parts t h).0) (λ t a h. (both_parts t h).1)

  pub and_ok : {A E : Type 0} (e : Classes) (result : Result A E) → Narrows c d p → OnOk result (Narrows d e q) → OnOk result (Narrows c e (λ t. p t && q t))
  and_ok e result first = on_ok result (narrows_and e first)

  pub and_err : {A E : Type 0} (result : Result A E) → Narrows c d p → OnErr result (Refuses d q) → OnErr result (Refuses c (λ t. p t && q t))
  and_err result first = on_err result (refuses_second first)

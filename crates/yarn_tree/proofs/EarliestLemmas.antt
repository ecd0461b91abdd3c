-- The earliest of several places.
use Rattle.std.proofs.Common.{◌≡◌, ◌↔◌, ◌≤◌, ◌<◌, ℕ, Bool, true, false, cond, nat_lt, nat_eq, ◌&&◌, ◌⊎◌, inl, inr, Option, Some, None, refl, sym, ap, ◌∙◌, subst, arith}
use Rattle.std.proofs.lemmas.Bool.{ltb-false, le-ltb, ltb-true, eq-eqb, eqb-true, or_parts, or_from, or_cases, and_left, and_right, and_parts, false_from_ne_true}
use Rattle.yarn_base.specs.declared.Place.{Place}
use Rattle.yarn_tree.specs.Laws.{IsEarliest}
use Rattle.yarn_tree.specs.Places.{is_before, earliest}

-- the first place isn't behind the second
abbrev NotBehind : Place → Place → Type 0
NotBehind a b = (a.file < b.file) ⊎ ((a.file ≡ b.file) × (a.line ≤ b.line))

not-behind : (a b : Place) → is_before b a ≡ false → NotBehind a b
not-behind a b is = by_test (nat_lt a.file b.file) refl
  where
    parts : (nat_lt b.file a.file ≡ false) × ((nat_eq b.file a.file && nat_lt b.line a.line) ≡ false)
    parts = or_parts (nat_lt b.file a.file) (nat_eq b.file a.file && nat_lt b.line a.line) is

    by_test : (t : Bool) → nat_lt a.file b.file ≡ t → NotBehind a b
    by_test true test = inl (ltb-true a.file b.file test)
    by_test false test =
        let le = ltb-false a.file b.file test in
        let ge = ltb-false b.file a.file parts.0 in
        let same : a.file ≡ b.file = omega (arith, le, ge) in
        let e : nat_eq b.file a.file ≡ true = eq-eqb b.file a.file (sym same) in
        let line : nat_lt b.line a.line ≡ false = sym (ap (λ (t : Bool). t && nat_lt b.line a.line) e) ∙ parts.1 in
        inr (same, ltb-false b.line a.line line)

behind-not : (a b : Place) → NotBehind a b → is_before b a ≡ false
behind-not a b (inl lt) =
    or_from (nat_lt b.file a.file) (nat_eq b.file a.file && nat_lt b.line a.line) (le-ltb b.file a.file (omega (arith, lt)))
    (and_left (nat_eq b.file a.file) (nat_lt b.line a.line)
    (false_from_ne_true (nat_eq b.file a.file) (λ e. let same = eqb-true b.file a.file e in absurd (omega (arith, lt, same)))))
behind-not a b (inr (same, le)) =
    or_from (nat_lt b.file a.file) (nat_eq b.file a.file && nat_lt b.line a.line) (le-ltb b.file a.file (omega (arith, same)))
    (and_right (nat_eq b.file a.file) (nat_lt b.line a.line) (le-ltb b.line a.line le))

before-not : (a b : Place) → is_before a b ≡ true → NotBehind a b
before-not a b is = of (or_cases (nat_lt a.file b.file) (nat_eq a.file b.file && nat_lt a.line b.line) is)
  where
    of : (nat_lt a.file b.file ≡ true) ⊎ ((nat_eq a.file b.file && nat_lt a.line b.line) ≡ true) → NotBehind a b
    of (inl test) = inl (ltb-true a.file b.file test)
    of (inr both) =
        let parts = and_parts (nat_eq a.file b.file) (nat_lt a.line b.line) both in
        let lt = ltb-true a.line b.line parts.1 in
        inr (eqb-true a.file b.file parts.0, omega (arith, lt))

past : (a b c : Place) → NotBehind a b → NotBehind b c → NotBehind a c
past a b c (inl x) (inl y) = inl (omega (arith, x, y))
past a b c (inl x) (inr (same, le)) = inl (omega (arith, x, same))
past a b c (inr (same, le)) (inl y) = inl (omega (arith, same, y))
past a b c (inr (same, le)) (inr (also, more)) = inr (same ∙ also, omega (arith, le, more))

one-place : (a b : Place) → a.file ≡ b.file → a.line ≡ b.line → a ≡ b
one-place a b file line =
    ap (λ (k : ℕ). record { file = k; line = a.line }) file ∙ ap (λ (k : ℕ). record { file = b.file; line = k }) line

both-ways : (a b : Place) → NotBehind a b → NotBehind b a → a ≡ b
both-ways a b (inl x) (inl y) = absurd (omega (arith, x, y))
both-ways a b (inl x) (inr (same, le)) = absurd (omega (arith, x, same))
both-ways a b (inr (same, le)) (inl y) = absurd (omega (arith, same, y))
both-ways a b (inr (same, le)) (inr (also, more)) = one-place a b same (omega (arith, le, more))

pub record Finds (o : Option Place) (P : Place → Type 0) : Type 0 where
  pub none : o ≡ None → (p : Place) → P p → ⊥
  pub some : (p : Place) → o ≡ Some p → IsEarliest P p

pub found-least : (o : Option Place) (P : Place → Type 0) → Finds o P → (p : Place) → IsEarliest P p → o ≡ Some p
found-least None P finds p least = absurd (finds.none refl p least.0)
found-least (Some q) P finds p least =
    let here = finds.some q refl in
    let same : q ≡ p = both-ways q p (not-behind q p (here.1 p least.0)) (not-behind p q (least.1 q here.0)) in
    ap Some same

pub finds-one : (o : Option Place) (P : Place → Type 0) → ((p : Place) → (o ≡ Some p) ↔ P p) → Finds o P
finds-one o P decides = record {
  none = λ none p at. let e : None ≡ Some p = sym none ∙ (decides p).1 at in absurd cc;
  some = λ p told. (
    (decides p).0 told,
    λ other at.
        let e : Some other ≡ Some p = sym ((decides other).1 at) ∙ told in
        let same : other ≡ p = cc in
        behind-not p other (inr (ap (λ (q : Place). q.file) (sym same), let l : other.line ≡ p.line = ap (λ (q : Place). q.line) same in omega (arith, l))),
  );
}

pub finds-same : (o : Option Place) (P Q : Place → Type 0) → ((p : Place) → P p ↔ Q p) → Finds o P → Finds o Q
finds-same o P Q same finds = record {
  none = λ none p at. finds.none none p ((same p).1 at);
  some = λ p told. let least = finds.some p told in ((same p).0 least.0, λ other at. least.1 other ((same other).1 at));
}

module _ (P Q : Place → Type 0) where
  abbrev Either : Place → Type 0
  Either p = P p ⊎ Q p

  no-either : (a b : Option Place) → Finds a P → Finds b Q → a ≡ None → b ≡ None → (p : Place) → Either p → ⊥
  no-either a b finds also is none p (inl at) = finds.none is p at
  no-either a b finds also is none p (inr at) = also.none none p at

  -- the first of the one kind, where none of the other kind stands before it
  least-left : (p : Place) → IsEarliest P p → ((other : Place) → Q other → is_before other p ≡ false) → IsEarliest Either p
  least-left p least ahead = (inl least.0, of)
    where
      of : (other : Place) → Either other → is_before other p ≡ false
      of other (inl at) = least.1 other at
      of other (inr at) = ahead other at

  least-right : (p : Place) → IsEarliest Q p → ((other : Place) → P other → is_before other p ≡ false) → IsEarliest Either p
  least-right p least ahead = (inr least.0, of)
    where
      of : (other : Place) → Either other → is_before other p ≡ false
      of other (inl at) = ahead other at
      of other (inr at) = least.1 other at

  finds-two : (x y : Place) → Finds (Some x) P → Finds (Some y) Q → (t : Bool) → is_before y x ≡ t → (p : Place) → earliest (Some x) (Some y) ≡ Some p → IsEarliest Either p
  finds-two x y finds also true test p told =
      let e : Some y ≡ Some p = sym (ap (λ (t : Bool). cond t (Some y) (Some x)) test) ∙ told in
      let same : y ≡ p = cc in
      let first = finds.some x refl in
      let second = also.some y refl in
      subst (IsEarliest Either) same
      (least-right y second (λ other at. behind-not y other (past y x other (before-not y x test) (not-behind x other (first.1 other at)))))
  finds-two x y finds also false test p told =
      let e : Some x ≡ Some p = sym (ap (λ (t : Bool). cond t (Some y) (Some x)) test) ∙ told in
      let same : x ≡ p = cc in
      let first = finds.some x refl in
      let second = also.some y refl in
      subst (IsEarliest Either) same
      (least-left x first (λ other at. behind-not x other (past x y other (not-behind x y test) (not-behind y other (second.1 other at)))))

  some-earliest : (x y : Place) → earliest (Some x) (Some y) ≡ None → ⊥
  some-earliest x y none = by_test (is_before y x) refl
    where
      by_test : (t : Bool) → is_before y x ≡ t → ⊥
      by_test true test = let e : Some y ≡ None = sym (ap (λ (t : Bool). cond t (Some y) (Some x)) test) ∙ none in absurd cc
      by_test false test = let e : Some x ≡ None = sym (ap (λ (t : Bool). cond t (Some y) (Some x)) test) ∙ none in absurd cc

  pub finds-both : (a b : Option Place) → Finds a P → Finds b Q → Finds (earliest a b) (λ p. P p ⊎ Q p)
  finds-both None b finds also = record {
    none = λ none. no-either None b finds also refl none;
    some = λ p told. least-right p (also.some p told) (λ other at. absurd (finds.none refl other at));
  }
  finds-both (Some x) None finds also = record {
    none = λ none. absurd cc;
    some = λ p told. least-left p (finds.some p told) (λ other at. absurd (also.none refl other at));
  }
  finds-both (Some x) (Some y) finds also = record {
    none = λ none. absurd (some-earliest x y none);
    some = finds-two x y finds also (is_before y x) refl;
  }

pub earliest-none : (a b : Option Place) → earliest a b ≡ None → (a ≡ None) × (b ≡ None)
earliest-none None b none = (refl, none)
earliest-none (Some x) None none = absurd cc
earliest-none (Some x) (Some y) none = absurd (some-earliest (λ p. ⊥) (λ p. ⊥) x y none)

pub none-earliest : (a b : Option Place) → a ≡ None → b ≡ None → earliest a b ≡ None
none-earliest a b none also = ap (λ (o : Option Place). earliest o b) none ∙ also

-- The look for the `}` of a substitution finds the one that ends it.
use Rattle.std.proofs.Common.{◌≡◌, ℕ, ◌<◌, List, [], ◌∷◌, ◌++◌, length, Bool, true, false, nat_eq, Option, Some, None, refl, sym, ap, subst, ◌∙◌, arith}
use Rattle.std.proofs.lemmas.Bool.{eqb-true}
use Rattle.yarn_items.specs.declared.brace.Place.{Place}
use Rattle.yarn_items.specs.declared.brace.Place.TheVariants.{Outside, Quoted, Skipping}
use Rattle.yarn_items.specs.Brace.{ToBrace, closes, quote, skipped, plain, is_plain, Cut, with_byte, to_brace}

abbrev pub place_of : Bool → Place
place_of false = Outside
place_of true = Quoted

abbrev cut_at : List ℕ → List ℕ → Option Cut
cut_at inside rest = Some (record { inside = inside; rest = rest })

-- What stands before a `}` is found.

plain-outside : (c : ℕ) (bytes : List ℕ) → is_plain false c ≡ true → to_brace Outside (c ∷ bytes) ≡ with_byte c (to_brace Outside bytes)
plain-outside c bytes is = by_test (nat_eq c 34) (nat_eq c 125) refl refl
  where
    by_test : (q e : Bool) → nat_eq c 34 ≡ q → nat_eq c 125 ≡ e → to_brace Outside (c ∷ bytes) ≡ with_byte c (to_brace Outside bytes)
    by_test true e i j = let h = rw i at is in absurd cc
    by_test false true i j = let h = rw (i, j) at is in absurd cc
    by_test false false i j = rw (i, j) refl

plain-quoted : (c : ℕ) (bytes : List ℕ) → is_plain true c ≡ true → to_brace Quoted (c ∷ bytes) ≡ with_byte c (to_brace Quoted bytes)
plain-quoted c bytes is = by_test (nat_eq c 34) (nat_eq c 92) refl refl
  where
    by_test : (q e : Bool) → nat_eq c 34 ≡ q → nat_eq c 92 ≡ e → to_brace Quoted (c ∷ bytes) ≡ with_byte c (to_brace Quoted bytes)
    by_test true e i j = let h = rw i at is in absurd cc
    by_test false true i j = let h = rw (i, j) at is in absurd cc
    by_test false false i j = rw (i, j) refl

pub brace-found : {quoted : Bool} {bytes inside rest : List ℕ} → ToBrace quoted bytes inside rest → to_brace (place_of quoted) bytes ≡ cut_at inside rest
brace-found closes = refl
brace-found (quote {quoted = false} later) = ap (with_byte 34) (brace-found later)
brace-found (quote {quoted = true} later) = ap (with_byte 34) (brace-found later)
brace-found (skipped {c = c} later) = ap (λ o. with_byte 92 (with_byte c o)) (brace-found later)
brace-found (plain {quoted = false} {c = c} {bytes = bytes} is later) = plain-outside c bytes is ∙ ap (with_byte c) (brace-found later)
brace-found (plain {quoted = true} {c = c} {bytes = bytes} is later) = plain-quoted c bytes is ∙ ap (with_byte c) (brace-found later)

-- What is found stands before a `}`.

-- from a place on, what stands before the `}`
abbrev FromPlace : Place → List ℕ → List ℕ → List ℕ → Type 0
FromPlace Outside bytes inside rest = ToBrace false bytes inside rest
FromPlace Quoted bytes inside rest = ToBrace true bytes inside rest
FromPlace Skipping bytes inside rest = (c : ℕ) × (own : List ℕ) × (more : List ℕ) × (bytes ≡ c ∷ more) × (inside ≡ c ∷ own) × ToBrace true more own rest

-- the `}` that is found one character later
record Later (c : ℕ) (place : Place) (bytes : List ℕ) (cut : Cut) : Type 0 where
  pub later : Cut
  pub found : to_brace place bytes ≡ Some later
  pub same : ◌≡◌ {A = Cut} (record { inside = c ∷ later.inside; rest = later.rest }) cut

with-byte : (c : ℕ) (place : Place) (bytes : List ℕ) (cut : Cut) (o : Option Cut) → to_brace place bytes ≡ o → with_byte c o ≡ Some cut → Later c place bytes cut
with-byte c place bytes cut None is told = absurd cc
with-byte c place bytes cut (Some later) is told = record { later = later; found = is; same = cc }

made : {quoted : Bool} {c : ℕ} {place : Place} {bytes all : List ℕ} {cut : Cut} (more : Later c place bytes cut) →
    ToBrace quoted all (c ∷ more.later.inside) more.later.rest → ToBrace quoted all cut.inside cut.rest
made {quoted = quoted} {all = all} more is = subst (λ (k : Cut). ToBrace quoted all k.inside k.rest) more.same is

-- behind a `\` in a quoted string
skips-one : (b : ℕ) (bytes inside rest : List ℕ) → b ≡ 92 → FromPlace Skipping bytes inside rest → ToBrace true (b ∷ bytes) (b ∷ inside) rest
skips-one b bytes inside rest is (c, own, more, same, same_inside, later) =
    subst (λ x. ToBrace true (x ∷ bytes) (x ∷ inside) rest) (sym is)
    (subst (λ l. ToBrace true (92 ∷ l) (92 ∷ inside) rest) (sym same) (subst (λ l. ToBrace true (92 ∷ c ∷ more) (92 ∷ l) rest) (sym same_inside) (skipped later)))

pub brace-only : (place : Place) (bytes : List ℕ) (cut : Cut) → to_brace place bytes ≡ Some cut → FromPlace place bytes cut.inside cut.rest
brace-only place [] cut found = absurd cc
brace-only Skipping (c ∷ bytes) cut found =
    let more = with-byte c Quoted bytes cut (to_brace Quoted bytes) refl found in (
      c,
      more.later.inside,
      bytes,
      refl,
      ap (λ (k : Cut). k.inside) (sym more.same),
      subst (λ (k : Cut). ToBrace true bytes more.later.inside k.rest) more.same (brace-only Quoted bytes more.later more.found),
    )
brace-only Outside (c ∷ bytes) cut found = by_test (nat_eq c 125) (nat_eq c 34) refl refl (brace-only Quoted bytes) (brace-only Outside bytes)
  where
    by_test : (e q : Bool) → nat_eq c 125 ≡ e → nat_eq c 34 ≡ q →
        ((k : Cut) → to_brace Quoted bytes ≡ Some k → ToBrace true bytes k.inside k.rest) →
        ((k : Cut) → to_brace Outside bytes ≡ Some k → ToBrace false bytes k.inside k.rest) → ToBrace false (c ∷ bytes) cut.inside cut.rest
    by_test true q i j strings later =
        let told : ◌≡◌ {A = Option Cut} (Some (record { inside = []; rest = bytes })) (Some cut) = rw i at found in
        let same : ◌≡◌ {A = Cut} (record { inside = []; rest = bytes }) cut = cc in
        subst (λ (k : Cut). ToBrace false (c ∷ bytes) k.inside k.rest) same (subst (λ x. ToBrace false (x ∷ bytes) [] bytes) (sym (eqb-true c 125 i)) closes)
    by_test false true i j strings later =
        let more = with-byte c Quoted bytes cut (to_brace Quoted bytes) refl (rw (i, j) at found) in
        let is = quote {quoted = false} (strings more.later more.found) in
        made more (subst (λ x. ToBrace false (x ∷ bytes) (x ∷ more.later.inside) more.later.rest) (sym (eqb-true c 34 j)) is)
    by_test false false i j strings later =
        let more = with-byte c Outside bytes cut (to_brace Outside bytes) refl (rw (i, j) at found) in
        let solid : is_plain false c ≡ true = rw (i, j) refl in
        made more (plain solid (later more.later more.found))
brace-only Quoted (c ∷ bytes) cut found = by_test (nat_eq c 34) (nat_eq c 92) refl refl (brace-only Outside bytes) (brace-only Skipping bytes) (brace-only Quoted bytes)
  where
    by_test : (q s : Bool) → nat_eq c 34 ≡ q → nat_eq c 92 ≡ s →
        ((k : Cut) → to_brace Outside bytes ≡ Some k → ToBrace false bytes k.inside k.rest) →
        ((k : Cut) → to_brace Skipping bytes ≡ Some k → FromPlace Skipping bytes k.inside k.rest) →
        ((k : Cut) → to_brace Quoted bytes ≡ Some k → ToBrace true bytes k.inside k.rest) → ToBrace true (c ∷ bytes) cut.inside cut.rest
    by_test true s i j outside skips later =
        let more = with-byte c Outside bytes cut (to_brace Outside bytes) refl (rw i at found) in
        let is = quote {quoted = true} (outside more.later more.found) in
        made more (subst (λ x. ToBrace true (x ∷ bytes) (x ∷ more.later.inside) more.later.rest) (sym (eqb-true c 34 i)) is)
    by_test false true i j outside skips later =
        let more = with-byte c Skipping bytes cut (to_brace Skipping bytes) refl (rw (i, j) at found) in
        made more (skips-one c bytes more.later.inside more.later.rest (eqb-true c 92 j) (skips more.later more.found))
    by_test false false i j outside skips later =
        let more = with-byte c Quoted bytes cut (to_brace Quoted bytes) refl (rw (i, j) at found) in
        let solid : is_plain true c ≡ true = rw (i, j) refl in
        made more (plain solid (later more.later more.found))

-- what follows a `}` is shorter
pub brace-shorter : {quoted : Bool} {bytes inside rest : List ℕ} → ToBrace quoted bytes inside rest → length rest < length bytes
brace-shorter closes = omega arith
brace-shorter (quote later) = omega (arith, brace-shorter later)
brace-shorter (skipped later) = omega (arith, brace-shorter later)
brace-shorter (plain is later) = omega (arith, brace-shorter later)

-- the bytes are what stands before the `}`, the `}` and what follows it
pub brace-split : {quoted : Bool} {bytes inside rest : List ℕ} → ToBrace quoted bytes inside rest → bytes ≡ inside ++ 125 ∷ rest
brace-split closes = refl
brace-split (quote later) = ap (λ l. 34 ∷ l) (brace-split later)
brace-split (skipped {c = c} later) = ap (λ l. 92 ∷ c ∷ l) (brace-split later)
brace-split (plain {c = c} is later) = ap (λ l. c ∷ l) (brace-split later)

-- what stands before the bytes where the `}` is looked for
abbrev pub before : List ℕ → Option Cut → Option Cut
before front None = None
before front (Some cut) = Some (record { inside = front ++ cut.inside; rest = cut.rest })

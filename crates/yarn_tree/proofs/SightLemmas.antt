-- Names that are seen: which are known, and the first that comes again.
use Rattle.std.proofs.Common.{◌≡◌, ℕ, List, [], ◌∷◌, ◌++◌, Bool, true, false, cond, ◌||◌, ◌⊎◌, inl, inr, Option, Some, None, bytes_eq, refl, sym, ap, ◌∙◌, subst, append_assoc, append-nil}
use Rattle.std.proofs.lemmas.Bool.{or_cases, false_from_ne_true}
use Rattle.std.proofs.lemmas.Slice.Eq.{bytes_eq-Decides}
use Rattle.yarn_base.specs.declared.Place.{Place}
use Rattle.yarn_tree.specs.Laws.{IsAmong, AreDistinct, names_in, IsAgainAt}
use Rattle.yarn_tree.specs.Names.{NameAt, Sight, no_name, and_name, no_sight, sees, sees_all}
use Rattle.yarn_nodes.specs.Places.{or_later}

pub among-left : (a b : List (List ℕ)) (x : List ℕ) → IsAmong a x → IsAmong (a ++ b) x
among-left [] b x is = absurd is
among-left (y ∷ a) b x (inl e) = inl e
among-left (y ∷ a) b x (inr is) = inr (among-left a b x is)

pub among-right : (a b : List (List ℕ)) (x : List ℕ) → IsAmong b x → IsAmong (a ++ b) x
among-right [] b x is = is
among-right (y ∷ a) b x is = inr (among-right a b x is)

pub among-append : (a b : List (List ℕ)) (x : List ℕ) → IsAmong (a ++ b) x → IsAmong a x ⊎ IsAmong b x
among-append [] b x is = inr is
among-append (y ∷ a) b x (inl e) = inl (inl e)
among-append (y ∷ a) b x (inr is) = of (among-append a b x is)
  where
    of : IsAmong a x ⊎ IsAmong b x → IsAmong (y ∷ a) x ⊎ IsAmong b x
    of (inl in_a) = inl (inr in_a)
    of (inr in_b) = inr in_b

-- the names that are known are those
pub record Knows (known : List ℕ → Bool) (done : List (List ℕ)) : Type 0 where
  pub told : (name : List ℕ) → known name ≡ true → IsAmong done name
  pub has : (name : List ℕ) → IsAmong done name → known name ≡ true

pub knows-none : Knows no_name []
knows-none = record { told = λ name is. absurd cc; has = λ name is. absurd is }

or-true : (a b : Bool) → (a ≡ true) ⊎ (b ≡ true) → (a || b) ≡ true
or-true true b is = refl
or-true false b (inl e) = absurd cc
or-true false b (inr e) = e

pub knows-more : (known : List ℕ → Bool) (done : List (List ℕ)) (name : List ℕ) → Knows known done → Knows (and_name name known) (done ++ name ∷ [])
knows-more known done name knows = record { told = told; has = has }
  where
    told : (other : List ℕ) → and_name name known other ≡ true → IsAmong (done ++ name ∷ []) other
    told other is = of (or_cases (bytes_eq name other) (known other) is)
      where
        of : (bytes_eq name other ≡ true) ⊎ (known other ≡ true) → IsAmong (done ++ name ∷ []) other
        of (inl e) = among-right done (name ∷ []) other (inl ((bytes_eq-Decides name other).0 e))
        of (inr e) = among-left done (name ∷ []) other (knows.told other e)

    has : (other : List ℕ) → IsAmong (done ++ name ∷ []) other → and_name name known other ≡ true
    has other is = of (among-append done (name ∷ []) other is)
      where
        of : IsAmong done other ⊎ IsAmong (name ∷ []) other → and_name name known other ≡ true
        of (inl early) = or-true (bytes_eq name other) (known other) (inr (knows.has other early))
        of (inr (inl e)) = or-true (bytes_eq name other) (known other) (inl ((bytes_eq-Decides name other).1 e))
        of (inr (inr none)) = absurd none

pub knows-all : (sight : Sight) (done : List (List ℕ)) (xs : List NameAt) → Knows sight.names done → Knows (sees_all sight xs).names (done ++ names_in xs)
knows-all sight done [] knows = subst (Knows sight.names) (sym (append-nil done)) knows
knows-all sight done (x ∷ xs) knows =
    subst (Knows (sees_all (sees sight x) xs).names) (append_assoc done (x.0 ∷ []) (names_in xs))
    (knows-all (sees sight x) (done ++ x.0 ∷ []) xs (knows-more sight.names done x.0 knows))

-- none of these names is among those before it, nor among those that are done
abbrev pub Fresh : List (List ℕ) → List (List ℕ) → Type 0
Fresh done [] = Unit {0}
Fresh done (x ∷ xs) = (IsAmong done x → ⊥) × Fresh (done ++ x ∷ []) xs

fresh-cut : (done xs before behind : List (List ℕ)) (x : List ℕ) → Fresh done xs → xs ≡ before ++ x ∷ behind → IsAmong (done ++ before) x → ⊥
fresh-cut done [] [] behind x fresh e is = absurd cc
fresh-cut done [] (y ∷ before) behind x fresh e is = absurd cc
fresh-cut done (z ∷ xs) [] behind x fresh e is =
    let same : z ≡ x = cc in
    fresh.0 (subst (IsAmong done) (sym same) (subst (λ (l : List (List ℕ)). IsAmong l x) (append-nil done) is))
fresh-cut done (z ∷ xs) (y ∷ before) behind x fresh e is =
    let same : z ≡ y = cc in
    let rest : xs ≡ before ++ x ∷ behind = cc in
    fresh-cut (done ++ z ∷ []) xs before behind x fresh.1 rest
    (subst (λ (l : List (List ℕ)). IsAmong l x) (ap (λ (w : List ℕ). done ++ w ∷ before) (sym same) ∙ sym (append_assoc done (z ∷ []) before)) is)

pub fresh-distinct : (xs : List (List ℕ)) → Fresh [] xs → AreDistinct xs
fresh-distinct xs fresh before behind x e is = fresh-cut [] xs before behind x fresh e is

distinct-from : (done xs : List (List ℕ)) → ((before behind : List (List ℕ)) (x : List ℕ) → xs ≡ before ++ x ∷ behind → IsAmong (done ++ before) x → ⊥) → Fresh done xs
distinct-from done [] none = tt
distinct-from done (z ∷ xs) none = (
  λ is. none [] xs z refl (subst (λ (l : List (List ℕ)). IsAmong l z) (sym (append-nil done)) is),
  distinct-from (done ++ z ∷ []) xs (λ before behind x e is. none (z ∷ before) behind x (ap (λ (l : List (List ℕ)). z ∷ l) e)
      (subst (λ (l : List (List ℕ)). IsAmong l x) (append_assoc done (z ∷ []) before) is)),
)

pub distinct-fresh : (xs : List (List ℕ)) → AreDistinct xs → Fresh [] xs
distinct-fresh xs none = distinct-from [] xs none

-- a name that was seen again stays so
kept : (sight : Sight) (xs : List NameAt) (place : Place) → sight.again ≡ Some place → (sees_all sight xs).again ≡ Some place
kept sight [] place is = is
kept sight (x ∷ xs) place is = kept (sees sight x) xs place (ap (λ (o : Option Place). or_later o (cond (sight.names x.0) (Some x.1) None)) is)

new-again : (sight : Sight) (x : NameAt) → sight.again ≡ None → sight.names x.0 ≡ false → (sees sight x).again ≡ None
new-again sight x none new =
    ap (λ (o : Option Place). or_later o (cond (sight.names x.0) (Some x.1) None)) none ∙ ap (λ (t : Bool). cond t (Some x.1) None) new

old-again : (sight : Sight) (x : NameAt) → sight.again ≡ None → sight.names x.0 ≡ true → (sees sight x).again ≡ Some x.1
old-again sight x none old =
    ap (λ (o : Option Place). or_later o (cond (sight.names x.0) (Some x.1) None)) none ∙ ap (λ (t : Bool). cond t (Some x.1) None) old

pub fresh-told : (sight : Sight) (done : List (List ℕ)) (xs : List NameAt) → sight.again ≡ None → Knows sight.names done → Fresh done (names_in xs) →
    (sees_all sight xs).again ≡ None
fresh-told sight done [] none knows fresh = none
fresh-told sight done (x ∷ xs) none knows fresh =
    let new = false_from_ne_true (sight.names x.0) (λ e. fresh.0 (knows.told x.0 e)) in
    fresh-told (sees sight x) (done ++ x.0 ∷ []) xs (new-again sight x none new) (knows-more sight.names done x.0 knows) fresh.1

pub fresh-found : (sight : Sight) (done : List (List ℕ)) (xs : List NameAt) → sight.again ≡ None → Knows sight.names done →
    (sees_all sight xs).again ≡ None → Fresh done (names_in xs)
fresh-found sight done [] none knows is = tt
fresh-found sight done (x ∷ xs) none knows is = by_test (fresh-found (sees sight x) (done ++ x.0 ∷ []) xs) (sight.names x.0) refl
  where
    by_test : ((sees sight x).again ≡ None → Knows (sees sight x).names (done ++ x.0 ∷ []) → (sees_all (sees sight x) xs).again ≡ None →
        Fresh (done ++ x.0 ∷ []) (names_in xs)) →
        (t : Bool) → sight.names x.0 ≡ t → Fresh done (names_in (x ∷ xs))
    by_test later true old = let h : None ≡ Some x.1 = sym is ∙ kept (sees sight x) xs x.1 (old-again sight x none old) in absurd cc
    by_test later false new = (
      λ early. let h : true ≡ false = sym (knows.has x.0 early) ∙ new in absurd cc,
      later (new-again sight x none new) (knows-more sight.names done x.0 knows) is,
    )

-- the first name that comes again
pub record Again (done : List (List ℕ)) (xs : List NameAt) (place : Place) : Type 0 where
  pub before : List NameAt
  pub name : List ℕ
  pub behind : List NameAt
  pub cut : xs ≡ before ++ (name, place) ∷ behind
  pub fresh : Fresh done (names_in before)
  pub again : IsAmong (done ++ names_in before) name

again-found : (sight : Sight) (done : List (List ℕ)) (xs : List NameAt) (place : Place) → sight.again ≡ None → Knows sight.names done →
    (sees_all sight xs).again ≡ Some place → Again done xs place
again-found sight done [] place none knows is = let h : None ≡ Some place = sym none ∙ is in absurd cc
again-found sight done (x ∷ xs) place none knows is = by_test (again-found (sees sight x) (done ++ x.0 ∷ []) xs place) (sight.names x.0) refl
  where
    by_test : ((sees sight x).again ≡ None → Knows (sees sight x).names (done ++ x.0 ∷ []) → (sees_all (sees sight x) xs).again ≡ Some place →
        Again (done ++ x.0 ∷ []) xs place) →
        (t : Bool) → sight.names x.0 ≡ t → Again done (x ∷ xs) place
    by_test later true old =
        let h : Some x.1 ≡ Some place = sym (kept (sees sight x) xs x.1 (old-again sight x none old)) ∙ is in
        let same : x.1 ≡ place = cc in
        record {
          before = [];
          name = x.0;
          behind = xs;
          cut = ap (λ (p : Place). (x.0, p) ∷ xs) same;
          fresh = tt;
          again = subst (λ (l : List (List ℕ)). IsAmong l x.0) (sym (append-nil done)) (knows.told x.0 old);
        }
    by_test later false new =
        let rest = later (new-again sight x none new) (knows-more sight.names done x.0 knows) is in
        record {
          before = x ∷ rest.before;
          name = rest.name;
          behind = rest.behind;
          cut = ap (λ (l : List NameAt). x ∷ l) rest.cut;
          fresh = (λ early. let h : true ≡ false = sym (knows.has x.0 early) ∙ new in absurd cc, rest.fresh);
          again = subst (λ (l : List (List ℕ)). IsAmong l rest.name) (append_assoc done (x.0 ∷ []) (names_in rest.before)) rest.again;
        }

again-told : (sight : Sight) (done : List (List ℕ)) (before : List NameAt) (name : List ℕ) (place : Place) (behind : List NameAt) → sight.again ≡ None →
    Knows sight.names done → Fresh done (names_in before) → IsAmong (done ++ names_in before) name →
    (sees_all sight (before ++ (name, place) ∷ behind)).again ≡ Some place
again-told sight done [] name place behind none knows fresh again =
    let old = knows.has name (subst (λ (l : List (List ℕ)). IsAmong l name) (append-nil done) again) in
    kept (sees sight (name, place)) behind place (old-again sight (name, place) none old)
again-told sight done (x ∷ before) name place behind none knows fresh again =
    let new = false_from_ne_true (sight.names x.0) (λ e. fresh.0 (knows.told x.0 e)) in
    again-told (sees sight x) (done ++ x.0 ∷ []) before name place behind (new-again sight x none new) (knows-more sight.names done x.0 knows) fresh.1
    (subst (λ (l : List (List ℕ)). IsAmong l name) (sym (append_assoc done (x.0 ∷ []) (names_in before))) again)

pub no_sight-distinct : (xs : List NameAt) → (sees_all no_sight xs).again ≡ None → AreDistinct (names_in xs)
no_sight-distinct xs none = fresh-distinct (names_in xs) (fresh-found no_sight [] xs refl knows-none none)

pub distinct-no_sight : (xs : List NameAt) → AreDistinct (names_in xs) → (sees_all no_sight xs).again ≡ None
distinct-no_sight xs differ = fresh-told no_sight [] xs refl knows-none (distinct-fresh (names_in xs) differ)

pub no_sight-again : (xs : List NameAt) (place : Place) → (sees_all no_sight xs).again ≡ Some place → IsAgainAt xs place
no_sight-again xs place is =
    let found = again-found no_sight [] xs place refl knows-none is in
    record {
      before = found.before;
      name = found.name;
      behind = found.behind;
      cut = found.cut;
      differ = fresh-distinct (names_in found.before) found.fresh;
      again = found.again;
    }

pub again-no_sight : (xs : List NameAt) (place : Place) → IsAgainAt xs place → (sees_all no_sight xs).again ≡ Some place
again-no_sight xs place is =
    ap (λ (l : List NameAt). (sees_all no_sight l).again) is.cut
    ∙ again-told no_sight [] is.before is.name place is.behind refl knows-none (distinct-fresh (names_in is.before) is.differ) is.again

pub no_sight-knows : (xs : List NameAt) → Knows (sees_all no_sight xs).names (names_in xs)
no_sight-knows xs = knows-all no_sight [] xs knows-none

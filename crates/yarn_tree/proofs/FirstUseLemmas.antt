-- What is used: the first use that breaks a rule, and the same over what is read.
use Rattle.std.proofs.Common.{◌≡◌, ◌↔◌, ℕ, ◌+◌, List, [], ◌∷◌, ◌++◌, Bool, true, false, not, cond, Some, None, All, refl, sym, ap, ◌∙◌}
use Rattle.std.proofs.lemmas.List.Elements.{All-nil, All-cons, All-head, All-tail}
use Rattle.yarn_base.specs.declared.Place.{Place}
use Rattle.yarn_base.specs.declared.SourceFile.{SourceFile}
use Rattle.yarn_nodes.specs.Laws.{lines_read}
use Rattle.yarn_tree.specs.Checks.{first_use, is_unknown_title, ids_within, ids_of}
use Rattle.yarn_tree.specs.Laws.{IsFirstAgainst, IsKnown, uses_from, ids_from}
use Rattle.yarn_tree.specs.Names.{NameAt}
use Rattle.yarn_tree.specs.Uses.{Use, Title, Variable, Declaration, Function, UseAt, uses_within, uses_in}
use Rattle.yarn_tree.proofs.SightLemmas.{Knows}
use Rattle.yarn_tree.proofs.SourceLemmas.{reads_from, files_from, number-read}

pub uses-reads : (ids : Bool) (n : ℕ) (sources : List SourceFile) → uses_in (reads_from ids n sources) ≡ uses_from n (files_from ids n sources)
uses-reads ids n [] = refl
uses-reads ids n (source ∷ sources) =
    let read = lines_read ids n source in
    ap (λ (k : ℕ). uses_within k read.file.nodes ++ uses_in (reads_from ids (n + 1) sources)) (number-read ids n source)
    ∙ ap (λ (l : List UseAt). uses_within n read.file.nodes ++ l) (uses-reads ids (n + 1) sources)

pub ids-reads : (ids : Bool) (n : ℕ) (sources : List SourceFile) → ids_of (reads_from ids n sources) ≡ ids_from n (files_from ids n sources)
ids-reads ids n [] = refl
ids-reads ids n (source ∷ sources) =
    let read = lines_read ids n source in
    ap (λ (k : ℕ). ids_within k read.file.nodes ++ ids_of (reads_from ids (n + 1) sources)) (number-read ids n source)
    ∙ ap (λ (l : List NameAt). ids_within n read.file.nodes ++ l) (ids-reads ids (n + 1) sources)

module _ (is : Use → Bool) (Rule : Use → Type 0) (decides : (u : Use) → (is u ≡ false) ↔ Rule u) where
  abbrev Keeps : UseAt → Type 0
  Keeps u = Rule u.is

  not-false : (u : Use) → is u ≡ true → Rule u → ⊥
  not-false u test rule = let e : true ≡ false = sym test ∙ (decides u).1 rule in absurd cc

  is-true : (u : Use) → (Rule u → ⊥) → is u ≡ true
  is-true u broken = by_test (is u) refl
    where
      by_test : (t : Bool) → is u ≡ t → is u ≡ true
      by_test true test = test
      by_test false test = absurd (broken ((decides u).0 test))

  past : (u : UseAt) (uses : List UseAt) → is u.is ≡ false → first_use is (u ∷ uses) ≡ first_use is uses
  past u uses test = ap (λ (t : Bool). cond t (Some u.place) (first_use is uses)) test

  here : (u : UseAt) (uses : List UseAt) → is u.is ≡ true → first_use is (u ∷ uses) ≡ Some u.place
  here u uses test = ap (λ (t : Bool). cond t (Some u.place) (first_use is uses)) test

  pub none-kept : (uses : List UseAt) → first_use is uses ≡ None → All Keeps uses
  none-kept [] none = All-nil Keeps
  none-kept (u ∷ uses) none = by_test (none-kept uses) (is u.is) refl
    where
      by_test : (first_use is uses ≡ None → All Keeps uses) → (t : Bool) → is u.is ≡ t → All Keeps (u ∷ uses)
      by_test later true test = let h : Some u.place ≡ None = sym (here u uses test) ∙ none in absurd cc
      by_test later false test = All-cons Keeps u uses ((decides u.is).0 test) (later (sym (past u uses test) ∙ none))

  pub kept-none : (uses : List UseAt) → All Keeps uses → first_use is uses ≡ None
  kept-none [] all = refl
  kept-none (u ∷ uses) all = past u uses ((decides u.is).1 (All-head Keeps u uses all)) ∙ kept-none uses (All-tail Keeps u uses all)

  pub told-against : (uses : List UseAt) (place : Place) → first_use is uses ≡ Some place → IsFirstAgainst Rule uses place
  told-against [] place told = absurd cc
  told-against (u ∷ uses) place told = by_test (told-against uses place) (is u.is) refl
    where
      by_test : (first_use is uses ≡ Some place → IsFirstAgainst Rule uses place) → (t : Bool) → is u.is ≡ t → IsFirstAgainst Rule (u ∷ uses) place
      by_test later true test =
          let same : Some u.place ≡ Some place = sym (here u uses test) ∙ told in
          record { before = []; u = u; behind = uses; cut = refl; kept_before = All-nil Keeps; broken = not-false u.is test; at = cc }
      by_test later false test =
          let rest = later (sym (past u uses test) ∙ told) in
          record {
            before = u ∷ rest.before;
            u = rest.u;
            behind = rest.behind;
            cut = ap (λ (l : List UseAt). u ∷ l) rest.cut;
            kept_before = All-cons Keeps u rest.before ((decides u.is).0 test) rest.kept_before;
            broken = rest.broken;
            at = rest.at;
          }

  first-broken : (before : List UseAt) (u : UseAt) (behind : List UseAt) → All Keeps before → (Rule u.is → ⊥) → first_use is (before ++ u ∷ behind) ≡ Some u.place
  first-broken [] u behind kept broken = here u behind (is-true u.is broken)
  first-broken (x ∷ before) u behind kept broken =
      past x (before ++ u ∷ behind) ((decides x.is).1 (All-head Keeps x before kept)) ∙ first-broken before u behind (All-tail Keeps x before kept) broken

  pub against-told : (uses : List UseAt) (place : Place) → IsFirstAgainst Rule uses place → first_use is uses ≡ Some place
  against-told uses place at = ap (first_use is) at.cut ∙ first-broken at.before at.u at.behind at.kept_before at.broken ∙ ap Some at.at

-- jumps

pub known-decides : (known : List ℕ → Bool) (done : List (List ℕ)) → Knows known done → (u : Use) → (is_unknown_title known u ≡ false) ↔ IsKnown done u
known-decides known done knows (Variable name) = (λ is. tt, λ is. refl)
known-decides known done knows (Declaration name) = (λ is. tt, λ is. refl)
known-decides known done knows (Function name count) = (λ is. tt, λ is. refl)
known-decides known done knows (Title title) = (
  λ is. knows.told title (not-not (known title) is),
  λ among. ap not (knows.has title among),
)
  where
    not-not : (b : Bool) → not b ≡ false → b ≡ true
    not-not true is = refl
    not-not false is = absurd cc

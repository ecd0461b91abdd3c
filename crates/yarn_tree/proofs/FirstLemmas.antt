-- The first file that has a place.
use Rattle.std.proofs.Common.{◌≡◌, ◌↔◌, ℕ, ◌+◌, List, [], ◌∷◌, ◌++◌, length, Option, Some, None, All, refl, sym, ap, ◌∙◌, subst, arith}
use Rattle.std.proofs.lemmas.List.Elements.{All-nil, All-cons, All-head, All-tail}
use Rattle.yarn_base.specs.declared.Place.{Place}
use Rattle.yarn_base.specs.declared.SourceFile.{SourceFile}
use Rattle.yarn_nodes.specs.Places.{or_later}
use Rattle.yarn_tree.specs.Laws.{IsFirstOf}
use Rattle.yarn_tree.specs.Places.{at_file, first_line}

pub or-none : {A : Type 0} (a b : Option A) → or_later a b ≡ None → (a ≡ None) × (b ≡ None)
or-none None b is = (refl, is)
or-none (Some x) b is = absurd cc

pub none-or : {A : Type 0} (a b : Option A) → a ≡ None → b ≡ None → or_later a b ≡ None
none-or a b is also = ap (λ (o : Option _). or_later o b) is ∙ also

pub at-none : (file : ℕ) (o : Option ℕ) → at_file file o ≡ None → o ≡ None
at-none file None is = refl
at-none file (Some line) is = absurd cc

pub none-at : (file : ℕ) (o : Option ℕ) → o ≡ None → at_file file o ≡ None
none-at file o is = ap (at_file file) is

pub all-of : {A : Type 0} (P : A → Type 0) → ((x : A) → P x) → (xs : List A) → All P xs
all-of P is [] = All-nil P
all-of P is (x ∷ xs) = All-cons P x xs (is x) (all-of P is xs)

-- what holds of each source and the file beside it
abbrev pub Pairs : {B : Type 0} → (SourceFile → B → Type 0) → List SourceFile → List B → Type 0
Pairs P [] [] = Unit {0}
Pairs P [] (y ∷ ys) = ⊥
Pairs P (source ∷ sources) [] = ⊥
Pairs P (source ∷ sources) (y ∷ ys) = P source y × Pairs P sources ys

pub pairs-weaker : {B : Type 0} (P Q : SourceFile → B → Type 0) → ((source : SourceFile) (y : B) → P source y → Q source y) →
    (sources : List SourceFile) (ys : List B) → Pairs P sources ys → Pairs Q sources ys
pairs-weaker P Q weaker [] [] all = tt
pairs-weaker P Q weaker [] (y ∷ ys) all = absurd all
pairs-weaker P Q weaker (source ∷ sources) [] all = absurd all
pairs-weaker P Q weaker (source ∷ sources) (y ∷ ys) all = (weaker source y all.0, pairs-weaker P Q weaker sources ys all.1)

-- each source beside itself
pub pairs-same : (P : SourceFile → SourceFile → Type 0) (Q : SourceFile → Type 0) → ((source : SourceFile) → Q source → P source source) →
    (sources : List SourceFile) → All Q sources → Pairs P sources sources
pairs-same P Q is [] all = tt
pairs-same P Q is (source ∷ sources) all = (is source (All-head Q source sources all), pairs-same P Q is sources (All-tail Q source sources all))

module _ {B : Type 0} (line_in : SourceFile → Option ℕ) (Clear : B → Type 0) where
  past-first : (n : ℕ) (source : SourceFile) (sources : List SourceFile) → line_in source ≡ None → first_line line_in n (source ∷ sources) ≡ first_line line_in (n + 1) sources
  past-first n source sources is = ap (λ (o : Option ℕ). or_later (at_file n o) (first_line line_in (n + 1) sources)) is

  -- the file is clear exactly where its source has no line
  abbrev pub Clears : SourceFile → B → Type 0
  Clears source y = (line_in source ≡ None) ↔ Clear y

  pub none-clear : (n : ℕ) (sources : List SourceFile) (ys : List B) → Pairs Clears sources ys → first_line line_in n sources ≡ None → All Clear ys
  none-clear n [] [] clears none = All-nil Clear
  none-clear n [] (y ∷ ys) clears none = absurd clears
  none-clear n (source ∷ sources) [] clears none = absurd clears
  none-clear n (source ∷ sources) (y ∷ ys) clears none =
      let both = or-none (at_file n (line_in source)) (first_line line_in (n + 1) sources) none in
      All-cons Clear y ys (clears.0.0 (at-none n (line_in source) both.0)) (none-clear (n + 1) sources ys clears.1 both.1)

  pub clear-none : (n : ℕ) (sources : List SourceFile) (ys : List B) → Pairs Clears sources ys → All Clear ys → first_line line_in n sources ≡ None
  clear-none n [] [] clears all = refl
  clear-none n [] (y ∷ ys) clears all = absurd clears
  clear-none n (source ∷ sources) [] clears all = absurd clears
  clear-none n (source ∷ sources) (y ∷ ys) clears all =
      past-first n source sources (clears.0.1 (All-head Clear y ys all)) ∙ clear-none (n + 1) sources ys clears.1 (All-tail Clear y ys all)

  module _ (At : B → ℕ → Type 0) where
    here-first : (n : ℕ) (source : SourceFile) (sources : List SourceFile) (number : ℕ) → line_in source ≡ Some number →
        first_line line_in n (source ∷ sources) ≡ Some (record { file = n; line = number })
    here-first n source sources number is = ap (λ (o : Option ℕ). or_later (at_file n o) (first_line line_in (n + 1) sources)) is

    -- the line of the source is what stands in the file
    pub record Decides (source : SourceFile) (y : B) : Type 0 where
      pub none : (line_in source ≡ None) ↔ Clear y
      pub some : (number : ℕ) → (line_in source ≡ Some number) ↔ At y number

    pub decides-clears : (sources : List SourceFile) (ys : List B) → Pairs Decides sources ys → Pairs Clears sources ys
    decides-clears sources ys decides = pairs-weaker Decides Clears (λ source y is. is.none) sources ys decides

    -- the same where the first of the files has that number
    record FirstFrom (n : ℕ) (ys : List B) (place : Place) : Type 0 where
      pub before : List B
      pub file : B
      pub behind : List B
      pub cut : ys ≡ before ++ file ∷ behind
      pub clear_before : All Clear before
      pub number : place.file ≡ n + length before
      pub at : At file place.line

    from-first : (n : ℕ) (sources : List SourceFile) (ys : List B) (place : Place) → Pairs Decides sources ys →
        first_line line_in n sources ≡ Some place → FirstFrom n ys place
    from-first n [] ys place decides told = absurd cc
    from-first n (source ∷ sources) [] place decides told = absurd decides
    from-first n (source ∷ sources) (y ∷ ys) place decides told = by_line (from-first (n + 1) sources ys place decides.1) decides.0 (line_in source) refl
      where
        by_line : (first_line line_in (n + 1) sources ≡ Some place → FirstFrom (n + 1) ys place) → Decides source y → (o : Option ℕ) → line_in source ≡ o →
            FirstFrom n (y ∷ ys) place
        by_line later d None is =
            let rest = later (sym (past-first n source sources is) ∙ told) in
            record {
              before = y ∷ rest.before;
              file = rest.file;
              behind = rest.behind;
              cut = ap (λ (l : List B). y ∷ l) rest.cut;
              clear_before = All-cons Clear y rest.before (d.none.0 is) rest.clear_before;
              number = let e = rest.number in omega arith;
              at = rest.at;
            }
        by_line later d (Some number) is =
            let h : Some (record { file = n; line = number }) ≡ Some place = sym (here-first n source sources number is) ∙ told in
            let same : record { file = n; line = number } ≡ place = cc in
            record {
              before = [];
              file = y;
              behind = ys;
              cut = refl;
              clear_before = All-nil Clear;
              number = let e : n ≡ place.file = ap (λ (p : Place). p.file) same in omega arith;
              at = subst (λ (p : Place). At y p.line) same ((d.some number).0 is);
            }

    first-from : (n : ℕ) (sources : List SourceFile) (before : List B) (y : B) (behind : List B) (number : ℕ) → Pairs Decides sources (before ++ y ∷ behind) →
        All Clear before → At y number → first_line line_in n sources ≡ Some (record { file = n + length before; line = number })
    first-from n [] [] y behind number decides clear at = absurd decides
    first-from n [] (x ∷ before) y behind number decides clear at = absurd decides
    first-from n (source ∷ sources) [] y behind number decides clear at =
        let e : n ≡ n + 0 = omega arith in
        here-first n source sources number ((decides.0.some number).1 at) ∙ ap (λ (k : ℕ). Some (record { file = k; line = number })) e
    first-from n (source ∷ sources) (x ∷ before) y behind number decides clear at =
        let e : (n + 1) + length before ≡ n + length (x ∷ before) = omega arith in
        past-first n source sources (decides.0.none.1 (All-head Clear x before clear))
        ∙ first-from (n + 1) sources before y behind number decides.1 (All-tail Clear x before clear) at
        ∙ ap (λ (k : ℕ). Some (record { file = k; line = number })) e

    pub first-found : (sources : List SourceFile) (ys : List B) (place : Place) → Pairs Decides sources ys → first_line line_in 0 sources ≡ Some place →
        IsFirstOf Clear At ys place
    first-found sources ys place decides told =
        let f = from-first 0 sources ys place decides told in
        record { before = f.before; file = f.file; behind = f.behind; cut = f.cut; clear_before = f.clear_before; number = let e = f.number in omega arith; at = f.at }

    pub found-first : (sources : List SourceFile) (ys : List B) (place : Place) → Pairs Decides sources ys → IsFirstOf Clear At ys place →
        first_line line_in 0 sources ≡ Some place
    found-first sources ys place decides is =
        let e : 0 + length is.before ≡ place.file = let h = is.number in omega arith in
        first-from 0 sources is.before is.file is.behind place.line (subst (Pairs Decides sources) is.cut decides) is.clear_before is.at
        ∙ ap (λ (k : ℕ). Some (record { file = k; line = place.line })) e

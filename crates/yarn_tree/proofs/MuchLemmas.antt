-- The first file with which files are too much.
use Rattle.std.proofs.Common.{◌≡◌, ℕ, ◌+◌, List, [], ◌∷◌, ◌++◌, length, Bool, true, false, cond, Some, None, refl, sym, ap, ◌∙◌, arith}
use Rattle.yarn_base.specs.declared.Place.{Place}
use Rattle.yarn_base.specs.declared.SourceFile.{SourceFile}
use Rattle.yarn_tree.specs.Laws.{total, IsTooMuchAt}
use Rattle.yarn_tree.specs.Size.{is_too_much, too_much}
use Rattle.yarn_tree.proofs.SizeLemmas.{not_too_much, none_too_much}

much-past : (n sum : ℕ) (before rest : List SourceFile) → too_much n sum before ≡ None →
    too_much n sum (before ++ rest) ≡ too_much (n + length before) (sum + total before) rest
much-past n sum [] rest none =
    let a : n ≡ n + 0 = omega arith in
    let b : sum ≡ sum + 0 = omega arith in
    ap (λ (k : ℕ). too_much k sum rest) a ∙ ap (λ (k : ℕ). too_much (n + 0) k rest) b
much-past n sum (x ∷ before) rest none = by_test (much-past (n + 1) (sum + length x.bytes) before rest) (is_too_much n sum x) refl
  where
    by_test : (too_much (n + 1) (sum + length x.bytes) before ≡ None → too_much (n + 1) (sum + length x.bytes) (before ++ rest)
        ≡ too_much ((n + 1) + length before) ((sum + length x.bytes) + total before) rest) →
        (t : Bool) → is_too_much n sum x ≡ t → too_much n sum (x ∷ (before ++ rest)) ≡ too_much (n + length (x ∷ before)) (sum + total (x ∷ before)) rest
    by_test later true is =
        let at : Place = record { file = n; line = 0 } in
        let h : Some at ≡ None = sym (ap (λ (t : Bool). cond t (Some at) (too_much (n + 1) (sum + length x.bytes) before)) is) ∙ none in absurd cc
    by_test later false is =
        let a : (n + 1) + length before ≡ n + length (x ∷ before) = omega arith in
        let b : (sum + length x.bytes) + total before ≡ sum + total (x ∷ before) = omega arith in
        ap (λ (t : Bool). cond t (Some (record { file = n; line = 0 })) (too_much (n + 1) (sum + length x.bytes) (before ++ rest))) is
        ∙ later (sym (ap (λ (t : Bool). cond t (Some (record { file = n; line = 0 })) (too_much (n + 1) (sum + length x.bytes) before)) is) ∙ none)
        ∙ ap (λ (k : ℕ). too_much k ((sum + length x.bytes) + total before) rest) a
        ∙ ap (λ (k : ℕ). too_much (n + length (x ∷ before)) k rest) b

-- the first that is too much, where the first of all has that number
record MuchFrom (n sum : ℕ) (sources : List SourceFile) (place : Place) : Type 0 where
  pub before : List SourceFile
  pub source : SourceFile
  pub behind : List SourceFile
  pub cut : sources ≡ before ++ source ∷ behind
  pub none : too_much n sum before ≡ None
  pub much : is_too_much (n + length before) (sum + total before) source ≡ true
  pub file : place.file ≡ n + length before
  pub line : place.line ≡ 0

much-found : (n sum : ℕ) (sources : List SourceFile) (place : Place) → too_much n sum sources ≡ Some place → MuchFrom n sum sources place
much-found n sum [] place told = absurd cc
much-found n sum (x ∷ sources) place told = by_test (much-found (n + 1) (sum + length x.bytes) sources place) (is_too_much n sum x) refl
  where
    by_test : (too_much (n + 1) (sum + length x.bytes) sources ≡ Some place → MuchFrom (n + 1) (sum + length x.bytes) sources place) →
        (t : Bool) → is_too_much n sum x ≡ t → MuchFrom n sum (x ∷ sources) place
    by_test later true is =
        let h : Some (record { file = n; line = 0 }) ≡ Some place =
        sym (ap (λ (t : Bool). cond t (Some (record { file = n; line = 0 })) (too_much (n + 1) (sum + length x.bytes) sources)) is) ∙ told in
        let same : record { file = n; line = 0 } ≡ place = cc in
        let a : n ≡ n + 0 = omega arith in
        let b : sum ≡ sum + 0 = omega arith in
        record {
          before = [];
          source = x;
          behind = sources;
          cut = refl;
          none = refl;
          much = ap (λ (k : ℕ). is_too_much k (sum + 0) x) (sym a) ∙ ap (λ (k : ℕ). is_too_much n k x) (sym b) ∙ is;
          file = let e : n ≡ place.file = ap (λ (p : Place). p.file) same in omega arith;
          line = sym (ap (λ (p : Place). p.line) same);
        }
    by_test later false is =
        let rest = later (sym (ap (λ (t : Bool). cond t (Some (record { file = n; line = 0 })) (too_much (n + 1) (sum + length x.bytes) sources)) is) ∙ told) in
        let a : (n + 1) + length rest.before ≡ n + length (x ∷ rest.before) = omega arith in
        let b : (sum + length x.bytes) + total rest.before ≡ sum + total (x ∷ rest.before) = omega arith in
        record {
          before = x ∷ rest.before;
          source = rest.source;
          behind = rest.behind;
          cut = ap (λ (l : List SourceFile). x ∷ l) rest.cut;
          none = ap (λ (t : Bool). cond t (Some (record { file = n; line = 0 })) (too_much (n + 1) (sum + length x.bytes) rest.before)) is ∙ rest.none;
          much = ap (λ (k : ℕ). is_too_much k (sum + total (x ∷ rest.before)) rest.source) (sym a)
              ∙ ap (λ (k : ℕ). is_too_much ((n + 1) + length rest.before) k rest.source) (sym b) ∙ rest.much;
          file = rest.file ∙ a;
          line = rest.line;
        }

-- with one file more
one-more : (before : List SourceFile) (source : SourceFile) (behind : List SourceFile) (t : Bool) → too_much 0 0 before ≡ None →
    is_too_much (0 + length before) (0 + total before) source ≡ t →
    too_much 0 0 (before ++ source ∷ behind)
    ≡ cond t (Some (record { file = 0 + length before; line = 0 })) (too_much ((0 + length before) + 1) ((0 + total before) + length source.bytes) behind)
one-more before source behind t none is =
    much-past 0 0 before (source ∷ behind) none
    ∙ ap (λ (b : Bool). cond b (Some (record { file = 0 + length before; line = 0 })) (too_much ((0 + length before) + 1) ((0 + total before) + length source.bytes) behind)) is

pub much-at : (sources : List SourceFile) (place : Place) → too_much 0 0 sources ≡ Some place → IsTooMuchAt sources place
much-at sources place told =
    let f = much-found 0 0 sources place told in
    record {
      before = f.before;
      source = f.source;
      behind = f.behind;
      cut = f.cut;
      fine = not_too_much f.before f.none;
      much = λ fine.
          let e : Some (record { file = 0 + length f.before; line = 0 }) ≡ None =
          sym (one-more f.before f.source [] true f.none f.much) ∙ none_too_much (f.before ++ f.source ∷ []) fine in absurd cc;
      file = let e = f.file in omega arith;
      line = f.line;
    }

pub at-much : (sources : List SourceFile) (place : Place) → IsTooMuchAt sources place → too_much 0 0 sources ≡ Some place
at-much sources place is = by_test (is_too_much (0 + length is.before) (0 + total is.before) is.source) refl
  where
    none : too_much 0 0 is.before ≡ None
    none = none_too_much is.before is.fine

    by_test : (t : Bool) → is_too_much (0 + length is.before) (0 + total is.before) is.source ≡ t → too_much 0 0 sources ≡ Some place
    by_test true test =
        let a : 0 + length is.before ≡ place.file = let e = is.file in omega arith in
        ap (too_much 0 0) is.cut ∙ one-more is.before is.source is.behind true none test
        ∙ ap (λ (k : ℕ). Some (record { file = k; line = 0 })) a
        ∙ ap (λ (k : ℕ). Some (record { file = place.file; line = k })) (sym is.line)
    by_test false test = absurd (is.much (not_too_much (is.before ++ is.source ∷ []) (one-more is.before is.source [] false none test)))

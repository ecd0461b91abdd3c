-- The first line of a file that isn't good, as LFs cut it: one that is no UTF-8, or one that is too long.
use Rattle.std.proofs.Common.{◌≡◌, ◌↔◌, ℕ, ◌+◌, List, [], ◌∷◌, ◌++◌, length, Bool, true, false, cond, Option, Some, None, All, IsUtf8, refl, sym, ap, ◌∙◌, arith}
use Rattle.std.specs.Str.{is_utf8}
use Rattle.std.proofs.lemmas.Bool.{ltb-false, le-ltb}
use Rattle.std.proofs.lemmas.List.Elements.{All-nil, All-cons, All-head, All-tail}
use Rattle.std.proofs.lemmas.Str.{IsUtf8-from_is_utf8, is_utf8-from_IsUtf8}
use Rattle.yarn_base.specs.declared.SourceFile.{SourceFile}
use Rattle.yarn_lines.specs.Lines.{pieces_in, first_from, is_long}
use Rattle.yarn_lines.specs.Fault.{is_bad}
use Rattle.yarn_tree.specs.Laws.{HasGoodLines, HasFirstOther, IsShort}
use Rattle.yarn_tree.specs.Splits.{bad_in, long_in}
use Rattle.yarn_tree.proofs.FirstLemmas.{Decides}

-- a test that fails exactly on good lines
module _ (test : List ℕ → Bool) (Good : List ℕ → Type 0) (good : (line : List ℕ) → (test line ≡ false) ↔ Good line) where
  past : (n : ℕ) (line : List ℕ) (lines : List (List ℕ)) → test line ≡ false → first_from test n (line ∷ lines) ≡ first_from test (n + 1) lines
  past n line lines is = ap (λ (t : Bool). cond t (Some n) (first_from test (n + 1) lines)) is

  pub none-good : (n : ℕ) (lines : List (List ℕ)) → first_from test n lines ≡ None → All Good lines
  none-good n [] none = All-nil Good
  none-good n (line ∷ lines) none = by_test (none-good (n + 1) lines) (test line) refl
    where
      by_test : (first_from test (n + 1) lines ≡ None → All Good lines) → (t : Bool) → test line ≡ t → All Good (line ∷ lines)
      by_test later true is =
          let h : Some n ≡ None = sym (ap (λ (t : Bool). cond t (Some n) (first_from test (n + 1) lines)) is) ∙ none in absurd cc
      by_test later false is = All-cons Good line lines ((good line).0 is) (later (sym (past n line lines is) ∙ none))

  pub good-none : (n : ℕ) (lines : List (List ℕ)) → All Good lines → first_from test n lines ≡ None
  good-none n [] all = refl
  good-none n (line ∷ lines) all =
      past n line lines ((good line).1 (All-head Good line lines all)) ∙ good-none (n + 1) lines (All-tail Good line lines all)

  -- the first line that isn't good, where the first of all has that number
  record OtherFrom (n : ℕ) (lines : List (List ℕ)) (number : ℕ) : Type 0 where
    pub before : List (List ℕ)
    pub line : List ℕ
    pub behind : List (List ℕ)
    pub cut : lines ≡ before ++ line ∷ behind
    pub good_before : All Good before
    pub other : Good line → ⊥
    pub at : number ≡ n + length before

  from-some : (n : ℕ) (lines : List (List ℕ)) (number : ℕ) → first_from test n lines ≡ Some number → OtherFrom n lines number
  from-some n [] number told = absurd cc
  from-some n (line ∷ lines) number told = by_test (from-some (n + 1) lines number) (test line) refl
    where
      by_test : (first_from test (n + 1) lines ≡ Some number → OtherFrom (n + 1) lines number) → (t : Bool) → test line ≡ t → OtherFrom n (line ∷ lines) number
      by_test later true is =
          let h : Some n ≡ Some number = sym (ap (λ (t : Bool). cond t (Some n) (first_from test (n + 1) lines)) is) ∙ told in
          let e : n ≡ number = cc in
          record {
            before = [];
            line = line;
            behind = lines;
            cut = refl;
            good_before = All-nil Good;
            other = λ fine. let h : true ≡ false = sym is ∙ (good line).1 fine in absurd cc;
            at = omega (arith, e);
          }
      by_test later false is =
          let rest = later (sym (past n line lines is) ∙ told) in
          let e = rest.at in
          record {
            before = line ∷ rest.before;
            line = rest.line;
            behind = rest.behind;
            cut = ap (λ (l : List (List ℕ)). line ∷ l) rest.cut;
            good_before = All-cons Good line rest.before ((good line).0 is) rest.good_before;
            other = rest.other;
            at = omega arith;
          }

  some-from : (n : ℕ) (before : List (List ℕ)) (line : List ℕ) (behind : List (List ℕ)) → All Good before → (Good line → ⊥) →
      first_from test n (before ++ line ∷ behind) ≡ Some (n + length before)
  some-from n [] line behind all other = by_test (test line) refl
    where
      by_test : (t : Bool) → test line ≡ t → first_from test n (line ∷ behind) ≡ Some (n + 0)
      by_test true is =
          let e : n ≡ n + 0 = omega arith in
          ap (λ (t : Bool). cond t (Some n) (first_from test (n + 1) behind)) is ∙ ap (λ (k : ℕ). Some k) e
      by_test false is = absurd (other ((good line).0 is))
  some-from n (x ∷ before) line behind all other =
      let e : (n + 1) + length before ≡ n + length (x ∷ before) = omega arith in
      past n x (before ++ line ∷ behind) ((good x).1 (All-head Good x before all))
      ∙ some-from (n + 1) before line behind (All-tail Good x before all) other
      ∙ ap (λ (k : ℕ). Some k) e

  abbrev line_in : SourceFile → Option ℕ
  line_in source = first_from test 1 (pieces_in source.bytes)

  decides : (source : SourceFile) → Decides line_in (HasGoodLines Good) (HasFirstOther Good) source source
  decides source = record {
    none = (none-good 1 (pieces_in source.bytes), good-none 1 (pieces_in source.bytes));
    some = λ number. (
      λ told.
          let f = from-some 1 (pieces_in source.bytes) number told in
          let e = f.at in
          record { before = f.before; line = f.line; behind = f.behind; cut = f.cut; good_before = f.good_before; other = f.other; at = omega arith },
      λ is.
          let e : 1 + length is.before ≡ number = let h = is.at in omega arith in
          ap (first_from test 1) is.cut ∙ some-from 1 is.before is.line is.behind is.good_before is.other ∙ ap (λ (k : ℕ). Some k) e,
    );
  }

pub utf8-good : (line : List ℕ) → (is_bad line ≡ false) ↔ IsUtf8 line
utf8-good line = by_test (is_utf8 line) refl
  where
    by_test : (t : Bool) → is_utf8 line ≡ t → (is_bad line ≡ false) ↔ IsUtf8 line
    by_test true is = (λ no. IsUtf8-from_is_utf8 line is, λ utf8. rw is refl)
    by_test false is = (
      λ no. let h = rw is at no in absurd cc,
      λ utf8. let h : false ≡ true = sym is ∙ is_utf8-from_IsUtf8 line utf8 in absurd cc,
    )

pub short-good : (line : List ℕ) → (is_long line ≡ false) ↔ IsShort line
short-good line = (λ no. ltb-false 65536 (length line) no, λ short. le-ltb 65536 (length line) short)

pub utf8-decides : (source : SourceFile) → Decides bad_in (HasGoodLines IsUtf8) (HasFirstOther IsUtf8) source source
utf8-decides = decides is_bad IsUtf8 utf8-good

pub short-decides : (source : SourceFile) → Decides long_in (HasGoodLines IsShort) (HasFirstOther IsShort) source source
short-decides = decides is_long IsShort short-good

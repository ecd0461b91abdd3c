-- Blanks behind a text.
use Rattle.std.proofs.Common.{◌≡◌, ℕ, List, [], ◌∷◌, ◌++◌, Bool, true, false, ◌&&◌, nat_eq, ◌⊎◌, inl, inr, refl, ap, ◌∙◌}
use Rattle.std.specs.List.{list_all}
use Rattle.std.proofs.lemmas.Bool.{eqb-true, or_cases}
use Rattle.std.proofs.lemmas.List.Folds.{list_all-append}
use Rattle.yarn_lines.specs.Lines.{is_blank, leading, past_leading, without_trailing}
use Rattle.yarn_items.specs.Text.{trimmed}

-- a blank is no other byte
pub blank-unlike : (k b : ℕ) → nat_eq 32 k ≡ false → nat_eq 9 k ≡ false → is_blank b ≡ true → nat_eq b k ≡ false
blank-unlike k b space tab is = of (or_cases (nat_eq b 32) (nat_eq b 9) is)
  where
    of : (nat_eq b 32 ≡ true) ⊎ (nat_eq b 9 ≡ true) → nat_eq b k ≡ false
    of (inl e) = ap (λ x. nat_eq x k) (eqb-true b 32 e) ∙ space
    of (inr e) = ap (λ x. nat_eq x k) (eqb-true b 9 e) ∙ tab

pub leading-blanks : (bytes : List ℕ) → list_all is_blank (leading bytes) ≡ true
leading-blanks [] = refl
leading-blanks (b ∷ bytes) = by_test (leading-blanks bytes) (is_blank b) refl
  where
    by_test : list_all is_blank (leading bytes) ≡ true → (t : Bool) → is_blank b ≡ t → list_all is_blank (leading (b ∷ bytes)) ≡ true
    by_test later true is = rw is (rw is later)
    by_test later false is = rw is refl

blanks-alone : (blanks : List ℕ) → list_all is_blank blanks ≡ true → without_trailing blanks ≡ []
blanks-alone [] is = refl
blanks-alone (b ∷ blanks) is = rw is refl

blanks-more : (bytes blanks : List ℕ) → list_all is_blank blanks ≡ true → list_all is_blank (bytes ++ blanks) ≡ list_all is_blank bytes
blanks-more bytes blanks is = list_all-append is_blank bytes blanks ∙ ap (λ t. list_all is_blank bytes && t) is ∙ and_true (list_all is_blank bytes)
  where
    and_true : (t : Bool) → (t && true) ≡ t
    and_true true = refl
    and_true false = refl

pub without_trailing-more : (bytes blanks : List ℕ) → list_all is_blank blanks ≡ true → without_trailing (bytes ++ blanks) ≡ without_trailing bytes
without_trailing-more [] blanks is = blanks-alone blanks is
without_trailing-more (b ∷ bytes) blanks is = by_test (without_trailing-more bytes blanks is) (list_all is_blank (b ∷ bytes)) refl
  where
    by_test : without_trailing (bytes ++ blanks) ≡ without_trailing bytes → (t : Bool) → list_all is_blank (b ∷ bytes) ≡ t →
        without_trailing (b ∷ (bytes ++ blanks)) ≡ without_trailing (b ∷ bytes)
    by_test later true t = rw (blanks-more (b ∷ bytes) blanks is, t) refl
    by_test later false t = rw (blanks-more (b ∷ bytes) blanks is, t) (ap (λ l. b ∷ l) later)

-- blanks behind a text don't belong to it
pub trimmed-more : (bytes blanks : List ℕ) → list_all is_blank blanks ≡ true → trimmed (bytes ++ blanks) ≡ trimmed bytes
trimmed-more bytes blanks is = ap past_leading (without_trailing-more bytes blanks is)

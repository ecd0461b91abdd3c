-- The blanks around a part of a line.
use Rattle.std.proofs.Common.{◌≡◌, ℕ, List, [], ◌∷◌, ◌++◌, Bool, true, false, ◌&&◌, nat_eq, ◌⊎◌, inl, inr, refl, ap, ◌∙◌}
use Rattle.std.specs.List.{list_all, list_any}
use Rattle.std.proofs.lemmas.Bool.{eqb-true, or_cases, or_from, or_parts, and_parts}
use Rattle.std.proofs.lemmas.List.Folds.{list_all-append}
use Rattle.yarn_lines.specs.Lines.{is_blank, leading, past_leading, without_trailing}
use Rattle.yarn_items.specs.Text.{trimmed}
use Rattle.yarn_items.proofs.NameBytes.{is_out, is_hash, is_colon, in-solid}

-- a blank is no other byte
pub blank-not : (k b : ℕ) → nat_eq 32 k ≡ false → nat_eq 9 k ≡ false → is_blank b ≡ true → nat_eq b k ≡ false
blank-not k b space tab is = of (or_cases (nat_eq b 32) (nat_eq b 9) is)
  where
    of : (nat_eq b 32 ≡ true) ⊎ (nat_eq b 9 ≡ true) → nat_eq b k ≡ false
    of (inl e) = ap (λ x. nat_eq x k) (eqb-true b 32 e) ∙ space
    of (inr e) = ap (λ x. nat_eq x k) (eqb-true b 9 e) ∙ tab

blanks-without : (k : ℕ) → nat_eq 32 k ≡ false → nat_eq 9 k ≡ false → (blanks : List ℕ) → list_all is_blank blanks ≡ true →
    list_any (λ b. nat_eq b k) blanks ≡ false
blanks-without k space tab [] is = refl
blanks-without k space tab (b ∷ blanks) is =
    let both = and_parts (is_blank b) (list_all is_blank blanks) is in
    or_from (nat_eq b k) (list_any (λ x. nat_eq x k) blanks) (blank-not k b space tab both.0) (blanks-without k space tab blanks both.1)

pub blanks-no_colon : (blanks : List ℕ) → list_all is_blank blanks ≡ true → list_any is_colon blanks ≡ false
blanks-no_colon = blanks-without 58 refl refl

pub blanks-no_hash : (blanks : List ℕ) → list_all is_blank blanks ≡ true → list_any is_hash blanks ≡ false
blanks-no_hash = blanks-without 35 refl refl

pub leading-split : (bytes : List ℕ) → bytes ≡ leading bytes ++ past_leading bytes
leading-split [] = refl
leading-split (b ∷ bytes) = by_test (leading-split bytes) (is_blank b) refl
  where
    by_test : bytes ≡ leading bytes ++ past_leading bytes → (t : Bool) → is_blank b ≡ t → b ∷ bytes ≡ leading (b ∷ bytes) ++ past_leading (b ∷ bytes)
    by_test later true is = rw is (ap (λ l. b ∷ l) later)
    by_test later false is = rw is refl

pub leading-blank : (bytes : List ℕ) → list_all is_blank (leading bytes) ≡ true
leading-blank [] = refl
leading-blank (b ∷ bytes) = by_test (leading-blank bytes) (is_blank b) refl
  where
    by_test : list_all is_blank (leading bytes) ≡ true → (t : Bool) → is_blank b ≡ t → list_all is_blank (leading (b ∷ bytes)) ≡ true
    by_test later true is = rw is (rw is later)
    by_test later false is = rw is refl

-- blanks, and then something that begins with none
pub leading-dropped : (blanks rest : List ℕ) → list_all is_blank blanks ≡ true → past_leading rest ≡ rest → past_leading (blanks ++ rest) ≡ rest
leading-dropped [] rest is solid = solid
leading-dropped (b ∷ blanks) rest is solid =
    let both = and_parts (is_blank b) (list_all is_blank blanks) is in
    rw both.0 (leading-dropped blanks rest both.1 solid)

pub name-solid : (name rest : List ℕ) → list_any is_out name ≡ false → past_leading rest ≡ rest → past_leading (name ++ rest) ≡ name ++ rest
name-solid [] rest fine solid = solid
name-solid (b ∷ name) rest fine solid = let both = or_parts (is_out b) (list_any is_out name) fine in rw (in-solid b both.0) refl

pub trailing-dropped : (key blanks : List ℕ) → list_any is_out key ≡ false → list_all is_blank blanks ≡ true → without_trailing (key ++ blanks) ≡ key
trailing-dropped [] [] fine is = refl
trailing-dropped [] (b ∷ blanks) fine is = rw is refl
trailing-dropped (b ∷ key) blanks fine is =
    let both = or_parts (is_out b) (list_any is_out key) fine in
    let solid = in-solid b both.0 in
    let here : list_all is_blank (b ∷ (key ++ blanks)) ≡ false = rw solid refl in
    rw here (ap (λ l. b ∷ l) (trailing-dropped key blanks both.1 is))

all-blank : (blanks : List ℕ) → list_all is_blank blanks ≡ true → without_trailing blanks ≡ []
all-blank [] is = refl
all-blank (b ∷ blanks) is = rw is refl

same-end : (bytes blanks : List ℕ) → list_all is_blank blanks ≡ true → list_all is_blank (bytes ++ blanks) ≡ list_all is_blank bytes
same-end bytes blanks is = list_all-append is_blank bytes blanks ∙ ap (λ t. list_all is_blank bytes && t) is ∙ and_true (list_all is_blank bytes)
  where
    and_true : (t : Bool) → (t && true) ≡ t
    and_true true = refl
    and_true false = refl

trailing-more : (bytes blanks : List ℕ) → list_all is_blank blanks ≡ true → without_trailing (bytes ++ blanks) ≡ without_trailing bytes
trailing-more [] blanks is = all-blank blanks is
trailing-more (b ∷ bytes) blanks is = by_test (trailing-more bytes blanks is) (list_all is_blank (b ∷ bytes)) refl
  where
    by_test : without_trailing (bytes ++ blanks) ≡ without_trailing bytes → (t : Bool) → list_all is_blank (b ∷ bytes) ≡ t →
        without_trailing (b ∷ (bytes ++ blanks)) ≡ without_trailing (b ∷ bytes)
    by_test later true t = rw (same-end (b ∷ bytes) blanks is, t) refl
    by_test later false t = rw (same-end (b ∷ bytes) blanks is, t) (ap (λ l. b ∷ l) later)

-- blanks behind a text don't belong to it
pub trimmed-blanks : (bytes blanks : List ℕ) → list_all is_blank blanks ≡ true → trimmed (bytes ++ blanks) ≡ trimmed bytes
trimmed-blanks bytes blanks is = ap past_leading (trailing-more bytes blanks is)

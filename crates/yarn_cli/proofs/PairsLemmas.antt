-- Pairs that are given one behind another.
use Rattle.std.proofs.Common.{◌≡◌, ℕ, List, [], ◌∷◌, ◌++◌, Some, None, Bool, true, false, refl, sym, subst}
use Rattle.std.specs.Str.{bytes_eq}
use Rattle.std.proofs.lemmas.Slice.Eq.{bytes_eq-Decides}
use Rattle.yarn_cli.specs.declared.command.Pair.{Pair}
use Rattle.yarn_cli.specs.Command.{value_of}
use Rattle.yarn_cli.specs.CommandLine.{Row, row_in, dashed, Once}
use Rattle.yarn_cli.specs.Words.{is_name_word}

pub bytes_eq-refl : (a : List ℕ) → bytes_eq a a ≡ true
bytes_eq-refl a = (bytes_eq-Decides a a).1 refl

bytes_eq-sym : (a b : List ℕ) → bytes_eq a b ≡ false → bytes_eq b a ≡ false
bytes_eq-sym a b other = by_test (bytes_eq b a) refl
  where
    by_test : (t : Bool) → bytes_eq b a ≡ t → bytes_eq b a ≡ false
    by_test false is = is
    by_test true is = let h = (bytes_eq-Decides a b).1 (sym ((bytes_eq-Decides b a).0 is)) in absurd cc

-- the row of a word is the one whose name it spells
pub row_in-name : (word : List ℕ) (rows : List Row) (row : Row) → row_in word rows ≡ Some row → word ≡ dashed row.name
row_in-name word [] row e = absurd cc
row_in-name word (other ∷ rows) row e = by_test (row_in-name word rows row) (bytes_eq word (dashed other.name)) refl
  where
    by_test : (row_in word rows ≡ Some row → word ≡ dashed row.name) → (t : Bool) → bytes_eq word (dashed other.name) ≡ t → word ≡ dashed row.name
    by_test later true is =
        let h = rw is at e in
        let same : other ≡ row = cc in subst (λ (r : Row). word ≡ dashed r.name) same ((bytes_eq-Decides word (dashed other.name)).0 is)
    by_test later false is = later (rw is at e)

-- a name spells no pair
pub row_in-no_name : (word : List ℕ) (rows : List Row) → is_name_word word ≡ true → row_in word rows ≡ None
row_in-no_name word [] is = refl
row_in-no_name word (row ∷ rows) is = by_test (row_in-no_name word rows is) (bytes_eq word (dashed row.name)) refl
  where
    by_test : row_in word rows ≡ None → (t : Bool) → bytes_eq word (dashed row.name) ≡ t → row_in word (row ∷ rows) ≡ None
    by_test later true e =
        let h = subst (λ (w : List ℕ). is_name_word w ≡ true) ((bytes_eq-Decides word (dashed row.name)).0 e) is in absurd cc
    by_test later false e = rw e later

-- what isn't given isn't given by the first pair, nor by the others
value_of-later : (name : List ℕ) (first : Pair) (taken : List Pair) → value_of name (first ∷ taken) ≡ None →
    (bytes_eq first.name name ≡ false) × (value_of name taken ≡ None)
value_of-later name first taken e = by_test (bytes_eq first.name name) refl
  where
    by_test : (t : Bool) → bytes_eq first.name name ≡ t → (bytes_eq first.name name ≡ false) × (value_of name taken ≡ None)
    by_test true is = let h = rw is at e in absurd cc
    by_test false is = (is, rw is at e)

-- nor by any other pair
value_of-other : (name : List ℕ) (taken : List Pair) (pair : Pair) (more : List Pair) → value_of name (taken ++ pair ∷ more) ≡ None →
    bytes_eq pair.name name ≡ false
value_of-other name [] pair more e = by_test (bytes_eq pair.name name) refl
  where
    by_test : (t : Bool) → bytes_eq pair.name name ≡ t → bytes_eq pair.name name ≡ false
    by_test true is = let h = rw is at e in absurd cc
    by_test false is = is
value_of-other name (first ∷ taken) pair more e =
    value_of-other name taken pair more (value_of-later name first (taken ++ pair ∷ more) e).1

value_of-push : (name : List ℕ) (taken : List Pair) (pair : Pair) → value_of name taken ≡ None → bytes_eq pair.name name ≡ false →
    value_of name (taken ++ pair ∷ []) ≡ None
value_of-push name [] pair e other = rw other refl
value_of-push name (first ∷ taken) pair e other =
    let later = value_of-later name first taken e in rw later.0 (value_of-push name taken pair later.1 other)

pub Once-push : (taken : List Pair) (pair : Pair) → Once taken → value_of pair.name taken ≡ None → Once (taken ++ pair ∷ [])
Once-push [] pair once free = (refl, tt)
Once-push (first ∷ taken) pair once free =
    let later = value_of-later pair.name first taken free in
    (value_of-push first.name taken pair once.0 (bytes_eq-sym first.name pair.name later.0), Once-push taken pair once.1 later.1)

pub Once-free : (taken : List Pair) (pair : Pair) (more : List Pair) → Once (taken ++ pair ∷ more) → value_of pair.name taken ≡ None
Once-free [] pair more once = refl
Once-free (first ∷ taken) pair more once =
    let other = value_of-other first.name taken pair more once.0 in
    let e : bytes_eq first.name pair.name ≡ false = bytes_eq-sym pair.name first.name other in rw e (Once-free taken pair more once.1)

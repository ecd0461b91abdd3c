-- Where the row of a name stands in a table whose names rise.
use Rattle.std.proofs.Common.{◌≡◌, ℕ, Bool, true, false, ◌&&◌, nat_eq, List, [], ◌∷◌, ◌++◌, Some, None, Ordering, Less, Equal, Greater, refl, sym, ap, ◌∙◌}
use Rattle.std.specs.List.{list_all}
use Rattle.std.specs.Ordering.{nat_cmp, is_lt, is_eq, ordering_reverse}
use Rattle.std.specs.Cmp.Lexicographic.{pointwise, slice_cmp, nat_list_cmp_total, texts_ties}
use Rattle.std.proofs.lemmas.List.{map-append}
use Rattle.yarn_value.specs.declared.builtin.Builtin.{Builtin}
use Rattle.yarn_value.specs.Builtins.{Row, row_of, rows_of, is_before, is_rising, row_named}

both : (a b : Bool) → (a && b) ≡ true → (a ≡ true) × (b ≡ true)
both true b h = (refl, h)
both false b h = absurd cc

before_is : (o : Ordering) → is_lt o ≡ true → o ≡ Less
before_is Less h = refl
before_is Equal h = absurd cc
before_is Greater h = absurd cc

abbrev compare : List ℕ → List ℕ → Ordering
compare a b = slice_cmp nat_cmp a b

same_is : (a b : List ℕ) (o : Ordering) → compare a b ≡ o → pointwise nat_eq a b ≡ is_eq o
same_is a b o h = texts_ties a b ∙ ap is_eq h

trans : (a b c : List ℕ) → is_before a b ≡ true → compare b c ≡ Less → is_before a c ≡ true
trans a b c h k = ap is_lt (nat_list_cmp_total.trans a b c (before_is (compare a b) h) k)

turned : (a b : List ℕ) → compare a b ≡ Greater → compare b a ≡ Less
turned a b h = nat_list_cmp_total.antisymm b a ∙ ap ordering_reverse h

turned_less : (a b : List ℕ) → compare a b ≡ Less → compare b a ≡ Greater
turned_less a b h = nat_list_cmp_total.antisymm b a ∙ ap ordering_reverse h

-- a name that isn't there
none_before : (rows : List Row) (name : List ℕ) → list_all (λ row. is_before row.name name) rows ≡ true → row_named rows name ≡ None
none_before [] name h = refl
none_before (row ∷ rows) name h =
    let parts = both (is_before row.name name) (list_all (λ row. is_before row.name name) rows) h in
    let differs : pointwise nat_eq row.name name ≡ false = same_is row.name name Less (before_is (compare row.name name) parts.0) in
    rw differs (none_before rows name parts.1)

none_after : (rows : List Row) (name : List ℕ) → list_all (λ row. is_before name row.name) rows ≡ true → row_named rows name ≡ None
none_after [] name h = refl
none_after (row ∷ rows) name h =
    let parts = both (is_before name row.name) (list_all (λ row. is_before name row.name) rows) h in
    let differs : pointwise nat_eq row.name name ≡ false = same_is row.name name Greater (turned_less name row.name (before_is (compare name row.name) parts.0)) in
    rw differs (none_after rows name parts.1)

all_before : (rows : List Row) (a b : List ℕ) → compare a b ≡ Less → list_all (λ row. is_before row.name a) rows ≡ true → list_all (λ row. is_before row.name b) rows ≡ true
all_before [] a b k h = refl
all_before (row ∷ rows) a b k h =
    let parts = both (is_before row.name a) (list_all (λ row. is_before row.name a) rows) h in
    rw (trans row.name a b parts.0 k) (all_before rows a b k parts.1)

all_after : (rows : List Row) (a b : List ℕ) → compare a b ≡ Less → list_all (λ row. is_before b row.name) rows ≡ true → list_all (λ row. is_before a row.name) rows ≡ true
all_after [] a b k h = refl
all_after (row ∷ rows) a b k h =
    let parts = both (is_before b row.name) (list_all (λ row. is_before b row.name) rows) h in
    let first : is_before a row.name ≡ true = ap is_lt (nat_list_cmp_total.trans a b row.name k (before_is (compare b row.name) parts.0)) in
    rw first (all_after rows a b k parts.1)

-- the rows before one and behind it
record IsSplit (front after : List Row) (row : Row) : Type 0 where
  pub before : list_all (λ other. is_before other.name row.name) front ≡ true
  pub behind : list_all (λ other. is_before row.name other.name) after ≡ true
  pub front_rises : is_rising front ≡ true
  pub after_rises : is_rising after ≡ true

at_end : (row : Row) (front after : List Row) (first : List ℕ) → list_all (λ later. is_before first later.name) (front ++ row ∷ after) ≡ true → (is_before first row.name ≡ true) × (list_all (λ later. is_before first later.name) front ≡ true)
at_end row [] after first h = ((both (is_before first row.name) (list_all (λ later. is_before first later.name) after) h).0, refl)
at_end row (other ∷ front) after first h =
    let parts = both (is_before first other.name) (list_all (λ later. is_before first later.name) (front ++ row ∷ after)) h in
    let rest = at_end row front after first parts.1 in
    (rest.0, (rw parts.0 rest.1))

split : (front after : List Row) (row : Row) → is_rising (front ++ row ∷ after) ≡ true → IsSplit front after row
split [] after row h =
    let parts = both (list_all (λ later. is_before row.name later.name) after) (is_rising after) h in
    record { before = refl; behind = parts.0; front_rises = refl; after_rises = parts.1 }
split (other ∷ front) after row h =
    let parts = both (list_all (λ later. is_before other.name later.name) (front ++ row ∷ after)) (is_rising (front ++ row ∷ after)) h in
    let rest : IsSplit front after row = split front after row parts.1 in
    let ends = at_end row front after other.name parts.0 in
    record {
      before = rw ends.0 rest.before;
      behind = rest.behind;
      front_rises = rw ends.1 rest.front_rises;
      after_rises = rest.after_rises;
    }

past_front : (front rest : List Row) (name : List ℕ) → row_named front name ≡ None → row_named (front ++ rest) name ≡ row_named rest name
past_front [] rest name h = refl
past_front (row ∷ front) rest name h = by_test (past_front front rest name) (pointwise nat_eq row.name name) refl
  where
    by_test : (row_named front name ≡ None → row_named (front ++ rest) name ≡ row_named rest name) → (b : Bool) → pointwise nat_eq row.name name ≡ b → row_named ((row ∷ front) ++ rest) name ≡ row_named rest name
    by_test below true is = let f : Some row ≡ None = (rw is at h) in absurd cc
    by_test below false is = let f : row_named front name ≡ None = (rw is at h) in rw is (below f)

in_front : (front rest : List Row) (name : List ℕ) → row_named rest name ≡ None → row_named (front ++ rest) name ≡ row_named front name
in_front [] rest name h = h
in_front (row ∷ front) rest name h = by_test (in_front front rest name h) (pointwise nat_eq row.name name) refl
  where
    by_test : row_named (front ++ rest) name ≡ row_named front name → (b : Bool) → pointwise nat_eq row.name name ≡ b → row_named ((row ∷ front) ++ rest) name ≡ row_named (row ∷ front) name
    by_test below true is = rw is refl
    by_test below false is = rw is below

module _ (front after : List Row) (row : Row) (name : List ℕ) (rises : is_rising (front ++ row ∷ after) ≡ true) where
  here : compare row.name name ≡ Equal → row_named (front ++ row ∷ after) name ≡ Some row
  here h =
      let parts : IsSplit front after row = split front after row rises in
      let is : pointwise nat_eq row.name name ≡ true = same_is row.name name Equal h in
      let all : list_all (λ other. is_before other.name name) front ≡ true = all_before_same front parts.before in
      past_front front (row ∷ after) name (none_before front name all) ∙ (rw is refl)
    where
      all_before_same : (rows : List Row) → list_all (λ other. is_before other.name row.name) rows ≡ true → list_all (λ other. is_before other.name name) rows ≡ true
      all_before_same [] k = refl
      all_before_same (other ∷ rows) k =
          let parts = both (is_before other.name row.name) (list_all (λ other. is_before other.name row.name) rows) k in
          let order : compare other.name name ≡ compare other.name row.name =
          nat_list_cmp_total.antisymm other.name name ∙ ap ordering_reverse (sym (nat_list_cmp_total.congr row.name name other.name h)) ∙ sym (nat_list_cmp_total.antisymm other.name row.name) in
          rw order (rw parts.0 (all_before_same rows parts.1))

  later : compare row.name name ≡ Less → row_named (front ++ row ∷ after) name ≡ row_named after name
  later h =
      let parts : IsSplit front after row = split front after row rises in
      let differs : pointwise nat_eq row.name name ≡ false = same_is row.name name Less h in
      past_front front (row ∷ after) name (none_before front name (all_before front row.name name h parts.before)) ∙ (rw differs refl)

  earlier : compare row.name name ≡ Greater → row_named (front ++ row ∷ after) name ≡ row_named front name
  earlier h =
      let parts : IsSplit front after row = split front after row rises in
      let differs : pointwise nat_eq row.name name ≡ false = same_is row.name name Greater h in
      let none : row_named after name ≡ None = none_after after name (all_after after name row.name (turned row.name name h) parts.behind) in
      in_front front (row ∷ after) name (rw differs none)

-- what a search may still look at
pub record IsLeft (rows all : List Builtin) (name : List ℕ) : Type 0 where
  pub rises : is_rising (rows_of rows) ≡ true
  pub finds : row_named (rows_of rows) name ≡ row_named (rows_of all) name

module _ (rows front after : List Builtin) (row : Builtin) (parts : rows ≡ front ++ row ∷ after) (all : List Builtin) (name : List ℕ) (so_far : IsLeft rows all name) where
  parted : rows_of rows ≡ rows_of front ++ row_of row ∷ rows_of after
  parted = ap rows_of parts ∙ map-append row_of front (row ∷ after)

  rises_parted : is_rising (rows_of front ++ row_of row ∷ rows_of after) ≡ true
  rises_parted = ap is_rising (sym parted) ∙ so_far.rises

  finds_parted : row_named (rows_of front ++ row_of row ∷ rows_of after) name ≡ row_named (rows_of all) name
  finds_parted = ap (λ l. row_named l name) (sym parted) ∙ so_far.finds

  pub IsLeft-found : compare row.name.now name ≡ Equal → Some (row_of row) ≡ row_named (rows_of all) name
  IsLeft-found h = sym (here (rows_of front) (rows_of after) (row_of row) name rises_parted h) ∙ finds_parted

  pub IsLeft-later : compare row.name.now name ≡ Less → IsLeft after all name
  IsLeft-later h = record {
    rises = (split (rows_of front) (rows_of after) (row_of row) rises_parted).after_rises;
    finds = sym (later (rows_of front) (rows_of after) (row_of row) name rises_parted h) ∙ finds_parted;
  }

  pub IsLeft-earlier : compare row.name.now name ≡ Greater → IsLeft front all name
  IsLeft-earlier h = record {
    rises = (split (rows_of front) (rows_of after) (row_of row) rises_parted).front_rises;
    finds = sym (earlier (rows_of front) (rows_of after) (row_of row) name rises_parted h) ∙ finds_parted;
  }

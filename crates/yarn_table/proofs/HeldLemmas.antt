-- Loops over what is held of the base's texts.
use Rattle.std.proofs.Common.{◌≡◌, ◌<◌, ◌≤◌, ◌+◌, ℕ, zero, suc, List, [], ◌∷◌, ◌++◌, length, drop, get_or, Some, None, refl, ap, ◌∙◌, arith, append-nil}
use Rattle.std.specs.Prelude.{slice_get}
use Rattle.std.proofs.lemmas.Option.{slice_get_within}
use Rattle.yarn_value.specs.Templates.{Form}
use Rattle.yarn_table.specs.Gathering.{missing_among, read_among, refused_among, wanted_of}
use Rattle.yarn_table.specs.declared.gathered.Held.{Held}
use Rattle.yarn_table.specs.declared.gathered.Held.TheVariants.{Missing, Refused, Read}
use Rattle.yarn_table.proofs.RowLemmas.{wanted-missing}

-- a place whose text is wanted is one
pub wanted-within : (held : List Held) (at h : ℕ) → Some h ≡ wanted_of (slice_get held at) → at < length held
wanted-within held at h e = slice_get_within held at (Missing h) (wanted-missing (slice_get held at) h (cc))

missing-none : (ids : List (List ℕ)) → missing_among ids [] ≡ None
missing-none [] = refl
missing-none (id ∷ ids) = refl

refused-none : (ids : List (List ℕ)) → refused_among ids [] ≡ None
refused-none [] = refl
refused-none (id ∷ ids) = refl

-- one that isn't missing is passed
pub missing-passed : (ids : List (List ℕ)) (held : List Held) (i k : ℕ) (one : Held) → k ≡ suc i → i < length held → one ≡ get_or held i one → ((h : ℕ) → one ≡ Missing h → ⊥) →
    missing_among (drop i ids) (drop i held) ≡ missing_among (drop k ids) (drop k held)
missing-passed ids [] i k one is l item other = absurd (omega arith)
missing-passed [] (h ∷ held) zero k one is l item other = rw is refl
missing-passed (id ∷ ids) (Missing n ∷ held) zero k one is l item other = absurd (other n item)
missing-passed (id ∷ ids) (Refused ∷ held) zero k one is l item other = rw is refl
missing-passed (id ∷ ids) (Read form ∷ held) zero k one is l item other = rw is refl
missing-passed [] (h ∷ held) (suc i) k one is l item other = rw is refl
missing-passed (id ∷ ids) (h ∷ held) (suc i) k one is l item other = rw is (missing-passed ids held i (suc i) one refl (omega arith) item other)

pub missing-here : (ids : List (List ℕ)) (held : List Held) (i h : ℕ) (one : Held) → i < length held → one ≡ get_or held i one → one ≡ Missing h → slice_get ids i ≡ missing_among (drop i ids) (drop i held)
missing-here ids [] i h one l item is = absurd (omega arith)
missing-here [] (x ∷ held) zero h one l item is = refl
missing-here (id ∷ ids) (x ∷ held) zero h one l item is = let same : x ≡ Missing h = cc in rw same refl
missing-here [] (x ∷ held) (suc i) h one l item is = refl
missing-here (id ∷ ids) (x ∷ held) (suc i) h one l item is = missing-here ids held i h one (omega arith) item is

pub missing-end : (ids : List (List ℕ)) (held : List Held) (i : ℕ) → length held ≤ i → missing_among (drop i ids) (drop i held) ≡ None
missing-end ids [] zero l = missing-none ids
missing-end [] [] (suc i) l = refl
missing-end (id ∷ ids) [] (suc i) l = missing-none (drop i ids)
missing-end ids (h ∷ held) zero l = absurd (omega arith)
missing-end [] (h ∷ held) (suc i) l = refl
missing-end (id ∷ ids) (h ∷ held) (suc i) l = missing-end ids held i (omega arith)

-- one that isn't refused is passed
pub refused-passed : (ids : List (List ℕ)) (held : List Held) (i k : ℕ) (one : Held) → k ≡ suc i → i < length held → one ≡ get_or held i one → (one ≡ Refused → ⊥) →
    refused_among (drop i ids) (drop i held) ≡ refused_among (drop k ids) (drop k held)
refused-passed ids [] i k one is l item other = absurd (omega arith)
refused-passed [] (h ∷ held) zero k one is l item other = rw is refl
refused-passed (id ∷ ids) (Missing n ∷ held) zero k one is l item other = rw is refl
refused-passed (id ∷ ids) (Refused ∷ held) zero k one is l item other = absurd (other item)
refused-passed (id ∷ ids) (Read form ∷ held) zero k one is l item other = rw is refl
refused-passed [] (h ∷ held) (suc i) k one is l item other = rw is refl
refused-passed (id ∷ ids) (h ∷ held) (suc i) k one is l item other = rw is (refused-passed ids held i (suc i) one refl (omega arith) item other)

pub refused-here : (ids : List (List ℕ)) (held : List Held) (i : ℕ) (one : Held) → i < length held → one ≡ get_or held i one → one ≡ Refused → slice_get ids i ≡ refused_among (drop i ids) (drop i held)
refused-here ids [] i one l item is = absurd (omega arith)
refused-here [] (x ∷ held) zero one l item is = refl
refused-here (id ∷ ids) (x ∷ held) zero one l item is = let same : x ≡ Refused = cc in rw same refl
refused-here [] (x ∷ held) (suc i) one l item is = refl
refused-here (id ∷ ids) (x ∷ held) (suc i) one l item is = refused-here ids held i one (omega arith) item is

pub refused-end : (ids : List (List ℕ)) (held : List Held) (i : ℕ) → length held ≤ i → refused_among (drop i ids) (drop i held) ≡ None
refused-end ids [] zero l = refused-none ids
refused-end [] [] (suc i) l = refl
refused-end (id ∷ ids) [] (suc i) l = refused-none (drop i ids)
refused-end ids (h ∷ held) zero l = absurd (omega arith)
refused-end [] (h ∷ held) (suc i) l = refl
refused-end (id ∷ ids) (h ∷ held) (suc i) l = refused-end ids held i (omega arith)

-- the templates of one more
read-append : (xs ys : List Held) → read_among (xs ++ ys) ≡ read_among xs ++ read_among ys
read-append [] ys = refl
read-append (Missing h ∷ xs) ys = read-append xs ys
read-append (Refused ∷ xs) ys = read-append xs ys
read-append (Read form ∷ xs) ys = ap (λ (forms : List Form). form ∷ forms) (read-append xs ys)

pub read-more : (xs : List Held) (one : Held) (form : Form) → one ≡ Read form → read_among (xs ++ one ∷ []) ≡ read_among xs ++ form ∷ []
read-more xs one form is = rw is (read-append xs (Read form ∷ []))

pub read-other : (xs : List Held) (one : Held) → ((form : Form) → one ≡ Read form → ⊥) → read_among (xs ++ one ∷ []) ≡ read_among xs
read-other xs one other = read-append xs (one ∷ []) ∙ none one other
  where
    none : (one : Held) → ((form : Form) → one ≡ Read form → ⊥) → read_among xs ++ read_among (one ∷ []) ≡ read_among xs
    none (Missing h) other = append-nil (read_among xs)
    none Refused other = append-nil (read_among xs)
    none (Read form) other = absurd (other form refl)

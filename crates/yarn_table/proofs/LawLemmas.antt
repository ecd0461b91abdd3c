-- The laws of the words of Tables.
use Rattle.std.proofs.Common.{◌≡◌, ◌<◌, ◌+◌, ℕ, zero, suc, List, [], ◌∷◌, length, get_or, Some, Bool, true, false, refl, ap, ◌∙◌, arith, subst}
use Rattle.csv.specs.Reading.{AreRecords, default_config}
use Rattle.csv.specs.declared.parser.State.TheVariants as st
use Rattle.yarn_table.specs.Records.{Fields, first_bad, bad_record, is_good}
use Rattle.yarn_table.specs.Laws.{BadIsFirst, IsFirstBad, RecordsAreAll}
use Rattle.yarn_table.proofs.RecordLemmas.{all_reached, are_records}

first_bad-is : (w n : ℕ) (rows : List Fields) (i : ℕ) → i < length rows → is_good w (get_or rows i []) ≡ false → ((k : ℕ) → k < i → is_good w (get_or rows k []) ≡ true) → first_bad w n rows ≡ Some (n + i)
first_bad-is w n [] i l bad before = absurd (omega arith)
first_bad-is w n (r ∷ rows) zero l bad before = rw bad (ap Some (omega arith))
first_bad-is w n (r ∷ rows) (suc i) l bad before =
    let first = before 0 (omega arith) in
    rw first (first_bad-is w (n + 1) rows i (omega arith) bad (λ k b. before (suc k) (omega arith)) ∙ ap Some (omega arith))

-- a place behind n
abbrev Behind : ℕ → ℕ → List Fields → ℕ → Type 0
Behind w n rows at = (i : ℕ) × (at ≡ n + i) × (i < length rows) × (is_good w (get_or rows i []) ≡ false) × ((k : ℕ) → k < i → is_good w (get_or rows k []) ≡ true)

first_bad-from : (w n : ℕ) (rows : List Fields) (at : ℕ) → first_bad w n rows ≡ Some at → Behind w n rows at
first_bad-from w n [] at e = cc e
first_bad-from w n (r ∷ rows) at e = by (is_good w r) refl (first_bad-from w (n + 1) rows at)
  where
    at_first : at ≡ n → is_good w r ≡ false → Behind w n (r ∷ rows) at
    at_first same t = (0, omega (arith, same), omega arith, t, λ k l. absurd (omega arith))

    later : is_good w r ≡ true → Behind w (n + 1) rows at → Behind w n (r ∷ rows) at
    later t h = (suc h.0, omega (arith, h.1), omega (arith, h.2), h.3, before)
      where
        before : (k : ℕ) → k < suc h.0 → is_good w (get_or (r ∷ rows) k []) ≡ true
        before zero l = t
        before (suc k) l = h.4 k (omega arith)

    by : (b : Bool) → is_good w r ≡ b → (first_bad w (n + 1) rows ≡ Some at → Behind w (n + 1) rows at) → Behind w n (r ∷ rows) at
    by true t more = later t (more (rw t at e))
    by false t more = let same : Some n ≡ Some at = rw t at e in at_first (cc) t

pub bad_is_first : BadIsFirst
bad_is_first [] at = ((λ e. cc e), (λ h. absurd (omega (arith, h.0))))
bad_is_first (header ∷ rows) at = (there, back)
  where
    there : bad_record (header ∷ rows) ≡ Some at → IsFirstBad (header ∷ rows) at
    there e =
        let h = first_bad-from (length header) 0 (header ∷ rows) at e in
        let same : h.0 ≡ at = omega (arith, h.1) in
        subst (IsFirstBad (header ∷ rows)) same (h.2, h.3, h.4)

    back : IsFirstBad (header ∷ rows) at → bad_record (header ∷ rows) ≡ Some at
    back h = first_bad-is (length header) 0 (header ∷ rows) at h.0 h.1 h.2 ∙ ap Some (omega arith)

pub records_are_all : RecordsAreAll
records_are_all text rows = (
  (λ e. subst (AreRecords default_config st.StartRecord text) e (are_records default_config text)),
  (λ a. all_reached default_config text rows a.0 a.1 a.2 a.3),
)

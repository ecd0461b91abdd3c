-- An answer of `decode` tells the one decoding of its bytes.
use Rattle.std.proofs.Common.{◌≡◌, ◌+◌, ◌-◌, ◌≤◌, ℕ, List, [], ◌∷◌, ◌++◌, length, take, drop, codes, nat_le, bytes_eq, Bool, true, false, ◌&&◌, Result, Ok, Err, refl, sym, ap, ◌∙◌, arith, take-append-drop}
use Rattle.std.proofs.lemmas.Bool.{le-leb, leb-true}
use Rattle.std.proofs.lemmas.Slice.Eq.{bytes_eq-Decides}
use Rattle.yarn_code.specs.declared.program.Program.{Program}
use Rattle.yarn_code.specs.Decoded.{Decoding, Decodes, Newer, BadAt, begins_newer, is_newer, of_read, decoding_of}
use Rattle.yarn_code.specs.Format.{IsBadAt}
use Rattle.yarn_code.specs.FormatReading.{Read, read}
use Rattle.yarn_code.specs.Layout.{program_file}
use Rattle.yarn_code.specs.Spelling.{Spells, IsNewer}
use Rattle.yarn_code.proofs.FieldLemmas.{IsBytes}
use Rattle.yarn_code.proofs.SpelledLemmas.{spelled_not_newer}
use Rattle.yarn_code.proofs.FormatLemmas.{spelled_once, spelled_not_bad, bad_once, read_spells, Refuses, Stops, Refused, Follows, stop_refuses}

-- ---- newer formats

digit-newer : (digit : ℕ) → 50 ≤ digit → digit ≤ 57 → (nat_le 50 digit && nat_le digit 57) ≡ true
digit-newer digit from to = rw (le-leb 50 digit from, le-leb digit 57 to) refl

newer-is : (bytes : List ℕ) → IsNewer bytes → is_newer bytes ≡ true
newer-is bytes (digit, rest, from, to, is) = ap is_newer is ∙ digit-newer digit from to

digit-is : (front behind bytes : List ℕ) → bytes ≡ front ++ behind → front ≡ codes "YSP" → begins_newer behind ≡ true → IsNewer bytes
digit-is front [] bytes split is newer = absurd (cc)
digit-is front (digit ∷ rest) bytes split is newer = by_tests (nat_le 50 digit) (nat_le digit 57) refl refl
  where
    by_tests : (a b : Bool) → nat_le 50 digit ≡ a → nat_le digit 57 ≡ b → IsNewer bytes
    by_tests true true from to = (digit, rest, leb-true 50 digit from, leb-true digit 57 to, split ∙ ap (λ (l : List ℕ). l ++ digit ∷ rest) is)
    by_tests true false from to = let h = rw (from, to) at newer in absurd (cc)
    by_tests false b from to = let h = rw from at newer in absurd (cc)

not-newer : (bytes : List ℕ) → (IsNewer bytes → ⊥) → is_newer bytes ≡ false
not-newer bytes never = by_tests (bytes_eq (take 3 bytes) (codes "YSP")) (begins_newer (drop 3 bytes)) refl refl
  where
    by_tests : (a b : Bool) → bytes_eq (take 3 bytes) (codes "YSP") ≡ a → begins_newer (drop 3 bytes) ≡ b → is_newer bytes ≡ false
    by_tests true true first digit =
        absurd (never (digit-is (take 3 bytes) (drop 3 bytes) bytes (sym (take-append-drop 3 bytes)) ((bytes_eq-Decides (take 3 bytes) (codes "YSP")).0 first) digit))
    by_tests true false first digit = rw (first, digit) refl
    by_tests false b first digit = rw first refl

-- ---- programs

module _ (bytes : List ℕ) (fits : IsBytes bytes) where
  program-at : (p : Program) → Spells bytes p → of_read (length bytes) (read program_file bytes) ≡ Decodes p
  program-at p spells = by_read (read program_file bytes) refl
    where
      never : (left : ℕ) → Stops program_file bytes left → ⊥
      never left stops = let r = stop_refuses program_file bytes left fits stops in spelled_not_bad program_file bytes p r.at spells r.bad

      by_rest : (q : Program) (rest : List ℕ) → read program_file bytes ≡ Ok (q, rest) → of_read (length bytes) (Ok (q, rest)) ≡ Decodes p
      by_rest q [] e = ap (λ (x : Program). Decodes x) (spelled_once program_file bytes q p (read_spells program_file bytes q fits e) spells)
      by_rest q (b ∷ rest) e = absurd (never (length (b ∷ rest)) (Follows q (b ∷ rest) (λ none. absurd (cc)) refl e))

      by_read : (r : Read Program) → read program_file bytes ≡ r → of_read (length bytes) (read program_file bytes) ≡ Decodes p
      by_read (Ok x) e = ap (of_read (length bytes)) e ∙ by_rest x.0 x.1 e
      by_read (Err left) e = absurd (never left (Refused e))

  bad-at : (at : ℕ) → IsBadAt program_file bytes at → of_read (length bytes) (read program_file bytes) ≡ BadAt at
  bad-at at bad = by_read (read program_file bytes) refl
    where
      place : (left : ℕ) → Stops program_file bytes left → length bytes - left ≡ at
      place left stops =
          let r = stop_refuses program_file bytes left fits stops in
          let same : r.at ≡ at = bad_once program_file bytes r.at at r.bad bad in
          omega (arith, r.place, same)

      by_rest : (q : Program) (rest : List ℕ) → read program_file bytes ≡ Ok (q, rest) → of_read (length bytes) (Ok (q, rest)) ≡ BadAt at
      by_rest q [] e = absurd (spelled_not_bad program_file bytes q at (read_spells program_file bytes q fits e) bad)
      by_rest q (b ∷ rest) e = ap (λ (n : ℕ). BadAt n) (place (length (b ∷ rest)) (Follows q (b ∷ rest) (λ none. absurd (cc)) refl e))

      by_read : (r : Read Program) → read program_file bytes ≡ r → of_read (length bytes) (read program_file bytes) ≡ BadAt at
      by_read (Ok x) e = ap (of_read (length bytes)) e ∙ by_rest x.0 x.1 e
      by_read (Err left) e = ap (of_read (length bytes)) e ∙ ap (λ (n : ℕ). BadAt n) (place left (Refused e))

  pub program_told : (p : Program) → Spells bytes p → decoding_of bytes ≡ Decodes p
  unfolding decoding_of
  program_told p spells = rw (not-newer bytes (spelled_not_newer bytes p spells)) (program-at p spells)

  -- so many bytes are left from the place on
  pub left_told : (left : ℕ) → (IsNewer bytes → ⊥) → (at : ℕ) × (at + left ≡ length bytes) × IsBadAt program_file bytes at →
      decoding_of bytes ≡ BadAt (length bytes - left)
  unfolding decoding_of
  left_told left known (at, place, bad) =
      let same : at ≡ length bytes - left = omega (arith, place) in
      rw (not-newer bytes known) (bad-at at bad ∙ ap (λ (n : ℕ). BadAt n) same)

pub newer_told : (bytes : List ℕ) → IsNewer bytes → decoding_of bytes ≡ Newer
unfolding decoding_of
newer_told bytes is = rw (newer-is bytes is) refl

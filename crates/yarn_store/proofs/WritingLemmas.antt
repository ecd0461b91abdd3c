-- What is written of a store is read again as that store.
use Rattle.std.proofs.Common.{◌≡◌, ℕ, zero, suc, ◌+◌, ◌<◌, ◌≤◌, ◌^◌, ℤ, pos, negsuc, List, [], ◌∷◌, ◌++◌, length, get_or, take, drop, slice_get, Bool, true, false, ◌&&◌, nat_eq, Option, None, Some, IsUtf8, All, refl, sym, ap, ◌∙◌, arith, subst, append_assoc, append-nil, take-append-drop}
use Rattle.std.specs.Prelude.{◌≢◌, ⊤}
use Rattle.std.specs.List.{list_all}
use Rattle.std.specs.Fmt.{decimal, signed_decimal}
use Rattle.std.specs.Cmp.Lexicographic.{nat_list_eq_equiv}
use Rattle.std.proofs.lemmas.Bool.{eqb-true}
use Rattle.std.proofs.lemmas.Bool.Decides.{nat_tests}
use Rattle.std.proofs.lemmas.Fmt.{digits_decimal, digits_value-decimal, decimal_nonempty, first_decimal, decimal_digit}
use Rattle.std.proofs.lemmas.Str.{IsUtf8-append}
use Rattle.std.proofs.lemmas.List.{take_more, take_all}
use Rattle.std.proofs.lemmas.List.Elements.{All-nil, All-head, All-tail, All-push}
use Rattle.std.proofs.lemmas.Option.{slice_get_within, get_or_from_slice_get}
use Rattle.yarn_value.specs.Numbers.{fits, is_digit, value_after}
use Rattle.yarn_value.specs.Quoting.{letter, spelled, escape, quoted}
use Rattle.yarn_value.specs.declared.value.Value.{Value}
use Rattle.yarn_value.specs.declared.value.Value.TheVariants.{Number, Str, Truth}
use Rattle.yarn_store.specs.Pairs.{IsPair, IsStore}
use Rattle.yarn_value.specs.Pairs.{Pair, same_name, value_under, put, AreDistinct}
use Rattle.yarn_value.specs.Values.{IsShort}
use Rattle.yarn_store.specs.Lines.{lines_of}
use Rattle.yarn_store.specs.Variables.{SpellsNumber, Spells, StandsFor, spelling, pair_line, vars_text, has_spare_zero}
use Rattle.yarn_store.specs.Reading.{reading_from, vars_of, Holds}
use Rattle.yarn_store.specs.Steps.{IsRanged, IsReadable}
use Rattle.yarn_store.proofs.NameLemmas.{NoByte, IsForeign, lf_foreign, cr_foreign, variable_free, utf8_before}
use Rattle.yarn_store.proofs.ReadingLemmas.{put-new, after_line-new}
use Rattle.yarn_store.proofs.NumberLemmas.{own, minus_some, plain_some, digits_some}

-- ---- bytes that don't stand in a line

abbrev Free : ℕ → List ℕ → Type 0
Free b [] = ⊤
Free b (x ∷ xs) = (x ≢ b) × Free b xs

free-append : (b : ℕ) (xs ys : List ℕ) → Free b xs → Free b ys → Free b (xs ++ ys)
free-append b [] ys fx fy = fy
free-append b (x ∷ xs) ys fx fy = (fx.0, free-append b xs ys fx.1 fy)

free_bytes : (b : ℕ) (xs : List ℕ) → NoByte b xs → Free b xs
free_bytes b [] none = tt
free_bytes b (x ∷ xs) none = (none 0 (omega arith), free_bytes b xs (λ i lt. none (suc i) (omega arith)))

free_digits : (b : ℕ) (xs : List ℕ) → b < 48 → list_all is_digit xs ≡ true → Free b xs
free_digits b [] low all = tt
free_digits b (x ∷ xs) low all = by_test (free_digits b xs low) (is_digit x) (list_all is_digit xs) refl refl all
  where
    by_test : (list_all is_digit xs ≡ true → Free b xs) → (t u : Bool) → is_digit x ≡ t → list_all is_digit xs ≡ u → (t && u) ≡ true → Free b (x ∷ xs)
    by_test later true true t u e = (λ same. grind (arith, nat_tests), later u)
    by_test later true false t u e = absurd cc
    by_test later false u t is e = absurd cc

free_decimal : (b n : ℕ) → b < 48 → n < 2 ^ 64 → Free b (decimal n)
free_decimal b n low lt = free_digits b (decimal n) low (digits_decimal own n lt)

-- an LF or a CR
abbrev IsBreak : ℕ → Type 0
IsBreak b = IsForeign b × (b < 32) × (letter b ≢ None)

lf_break : IsBreak 10
lf_break = (lf_foreign, omega arith, λ e. absurd cc)

cr_break : IsBreak 13
cr_break = (cr_foreign, omega arith, λ e. absurd cc)

free_spelled : (b : ℕ) → IsBreak b → (x : ℕ) (o : Option ℕ) → letter x ≡ o → Free b (spelled x o)
free_spelled b break x None is = (λ same. break.2 (ap letter (sym same) ∙ is), tt)
free_spelled b break x (Some l) is = (λ same. omega (arith, break.1), (λ same. small x l is (omega (arith, break.1)), tt))
  where
    small : (x l : ℕ) → letter x ≡ Some l → l < 32 → ⊥
    small x l is lt = grind (arith, nat_tests)

free_escape : (b : ℕ) → IsBreak b → (xs : List ℕ) → Free b (escape xs)
free_escape b break [] = tt
free_escape b break (x ∷ xs) = free-append b (spelled x (letter x)) (escape xs) (free_spelled b break x (letter x) refl) (free_escape b break xs)

free_quoted : (b : ℕ) → IsBreak b → (t : List ℕ) → Free b (quoted t)
free_quoted b break t =
    let quote : 34 ≢ b = λ same. omega (arith, break.1) in
    (quote, free-append b (escape t) (34 ∷ []) (free_escape b break t) (quote, tt))

fits-small : (n : ℤ) → fits n ≡ true → (b : ℕ) → b < 32 → Free b (signed_decimal n)
fits-small (pos n) f b low = free_decimal b n (omega arith) (grind (arith, nat_tests))
fits-small (negsuc n) f b low = (λ same. omega (arith, same), free_decimal b (suc n) (omega arith) (grind (arith, nat_tests)))

free_spelling : (b : ℕ) → IsBreak b → (v : Value) → IsRanged v → Free b (spelling v)
free_spelling b break (Number n) ranged = fits-small n ranged b break.1
free_spelling b break (Str t) ranged = free_quoted b break t
free_spelling b break (Truth true) ranged = (λ s. omega (arith, break.1), (λ s. omega (arith, break.1), (λ s. omega (arith, break.1), (λ s. omega (arith, break.1), tt))))
free_spelling b break (Truth false) ranged = (λ s. omega (arith, break.1), (λ s. omega (arith, break.1), (λ s. omega (arith, break.1), (λ s. omega (arith, break.1), (λ s. omega (arith, break.1), tt)))))

free_line : (b : ℕ) → IsBreak b → (p : Pair) → IsPair p.0 p.1 → IsReadable p → Free b (pair_line p)
free_line b break p pair readable =
    let name = free_bytes b p.0 (variable_free b break.0 p.0 (utf8_before p.0 32 (61 ∷ 32 ∷ spelling p.1) (omega arith) readable.0) pair.variable) in
    free-append b p.0 (32 ∷ 61 ∷ 32 ∷ spelling p.1) name
    (λ s. omega (arith, break.1), (λ s. omega (arith, break.1), (λ s. omega (arith, break.1), free_spelling b break p.1 readable.1)))

-- a line without an LF and a CR is cut off at the LF behind it
cut_line : (line rest : List ℕ) → Free 10 line → Free 13 line → lines_of (line ++ 10 ∷ rest) ≡ line ∷ lines_of rest
cut_line [] rest lf cr = refl
cut_line (x ∷ line) rest lf cr =
    let no_lf : nat_eq x 10 ≡ false = test x 10 lf.0 in
    let no_cr : nat_eq x 13 ≡ false = test x 13 cr.0 in
    rw (no_lf, no_cr, cut_line line rest lf.1 cr.1) refl
  where
    test : (x b : ℕ) → x ≢ b → nat_eq x b ≡ false
    test x b other = by (nat_eq x b) refl
      where
        by : (t : Bool) → nat_eq x b ≡ t → nat_eq x b ≡ false
        by true t = absurd (other (eqb-true x b t))
        by false t = t

-- ---- a value is spelled as it is written

spells_digits : (ds : List ℕ) (n : ℕ) → list_all is_digit ds ≡ true → 0 < length ds → value_after 0 ds ≡ n → n < 2 ^ 63 →
    has_spare_zero ds ≡ false → SpellsNumber ds (pos n)
spells_digits [] n all some is lt spare = absurd (omega arith)
spells_digits (d ∷ ds) n all some is lt spare =
    let other : ¬ (d ≡ 45) = λ same. (free_digits 45 (d ∷ ds) (omega arith) all).0 same in
    let not_minus : nat_eq d 45 ≡ false = test d other in
    record {
      number = plain_some d ds other all (omega (arith, is)) ∙ ap (λ v. Some (pos v)) is;
      no_spare_zero = rw not_minus spare;
      no_minus_zero = λ same. let first : d ≡ 45 = ap (λ l. get_or l 0 0) same in other first;
    }
  where
    test : (x : ℕ) → ¬ (x ≡ 45) → nat_eq x 45 ≡ false
    test x other = by (nat_eq x 45) refl
      where
        by : (t : Bool) → nat_eq x 45 ≡ t → nat_eq x 45 ≡ false
        by true t = absurd (other (eqb-true x 45 t))
        by false t = t

no_spare : (ds : List ℕ) → 48 < get_or ds 0 0 → has_spare_zero ds ≡ false
no_spare [] lt = refl
no_spare (d ∷ ds) lt = by (nat_eq d 48) refl
  where
    by : (t : Bool) → nat_eq d 48 ≡ t → has_spare_zero (d ∷ ds) ≡ false
    by true t = let same : d ≡ 48 = eqb-true d 48 t in absurd (omega (arith, same))
    by false t = rw t refl

spells_pos : (n : ℕ) → n < 2 ^ 63 → SpellsNumber (decimal n) (pos n)
spells_pos zero lt =
    spells_digits (decimal 0) 0 (digits_decimal own 0 (omega arith)) (decimal_nonempty 0 (omega arith)) (digits_value-decimal own 0 (omega arith)) lt
    (rw (decimal_digit 0 (omega arith)) refl)
spells_pos (suc n) lt =
    spells_digits (decimal (suc n)) (suc n) (digits_decimal own (suc n) (omega arith)) (decimal_nonempty (suc n) (omega arith)) (digits_value-decimal own (suc n) (omega arith)) lt
    (no_spare (decimal (suc n)) (first_decimal (suc n) (omega arith) (omega arith)))

spells_negsuc : (n : ℕ) → n < 2 ^ 63 → SpellsNumber (45 ∷ decimal (suc n)) (negsuc n)
spells_negsuc n lt =
    let ds = decimal (suc n) in
    let first : 48 < get_or ds 0 0 = first_decimal (suc n) (omega arith) (omega arith) in
    let value : value_after 0 ds ≡ suc n = digits_value-decimal own (suc n) (omega arith) in
    record {
      number = minus_some ds (suc n) (digits_some ds (digits_decimal own (suc n) (omega arith)) (decimal_nonempty (suc n) (omega arith)) ∙ ap Some value) (omega arith);
      no_spare_zero = no_spare ds first;
      no_minus_zero = λ same. let zero_first : get_or ds 0 0 ≡ 48 = ap (λ l. get_or l 1 0) same in omega (arith, first, zero_first);
    }

spells_spelling : (v : Value) → IsShort v → IsRanged v → Spells (spelling v) v
spells_spelling (Number (pos n)) short ranged = spells_pos n (grind (arith, nat_tests))
spells_spelling (Number (negsuc n)) short ranged = spells_negsuc n (grind (arith, nat_tests))
spells_spelling (Str t) short ranged = (refl, short)
spells_spelling (Truth true) short ranged = refl
spells_spelling (Truth false) short ranged = refl

stands_for_itself : (p : Pair) → IsPair p.0 p.1 → IsReadable p → StandsFor (pair_line p) p
stands_for_itself p pair readable = record {
  spelled = spelling p.1;
  parts = refl;
  utf8 = readable.0;
  variable = pair.variable;
  value = spells_spelling p.1 pair.short readable.1;
}

-- ---- names that differ

differs : (name : List ℕ) (before rest : List Pair) (p : Pair) → value_under (before ++ p ∷ rest) name ≡ None → same_name name p.0 ≡ false
differs name [] rest p none = by (same_name name p.0) refl
  where
    by : (t : Bool) → same_name name p.0 ≡ t → same_name name p.0 ≡ false
    by true t = let h = rw t at none in absurd cc
    by false t = t
differs name (q ∷ before) rest p none = by (differs name before rest p) (same_name name q.0) refl
  where
    by : (value_under (before ++ p ∷ rest) name ≡ None → same_name name p.0 ≡ false) → (t : Bool) → same_name name q.0 ≡ t → same_name name p.0 ≡ false
    by later true t = let h = rw t at none in absurd cc
    by later false t = later (rw t at none)

new_name : (before rest : List Pair) (p : Pair) → AreDistinct (before ++ p ∷ rest) → value_under before p.0 ≡ None
new_name [] rest p distinct = refl
new_name (q ∷ before) rest p distinct =
    let other : same_name p.0 q.0 ≡ false = nat_list_eq_equiv.symm p.0 q.0 ∙ differs q.0 before rest p distinct.0 in
    rw other (new_name before rest p distinct.1)

-- ---- the whole

not_empty : (name rest : List ℕ) → name ++ 32 ∷ rest ≡ [] → ⊥
not_empty [] rest e = absurd cc
not_empty (x ∷ name) rest e = absurd cc

gives : (ps before : List Pair) (number : ℕ) → AreDistinct (before ++ ps) → All (λ p. IsPair p.0 p.1) ps → All IsReadable ps →
    reading_from before number (lines_of (vars_text ps)) ≡ Holds (before ++ ps)
gives [] before number distinct pairs readable = ap Holds (sym (append-nil before))
gives (p ∷ ps) before number distinct pairs readable =
    let pair = All-head (λ p. IsPair p.0 p.1) p ps pairs in
    let read = All-head IsReadable p ps readable in
    let adds = after_line-new before (pair_line p) (not_empty p.0 (61 ∷ 32 ∷ spelling p.1)) p (stands_for_itself p pair read) (new_name before ps p distinct) in
    let later = gives ps (before ++ p ∷ []) (number + 1) (subst AreDistinct (sym (append_assoc before (p ∷ []) ps)) distinct) (All-tail (λ p. IsPair p.0 p.1) p ps pairs) (All-tail IsReadable p ps readable) in
    let lines = cut_line (pair_line p) (vars_text ps) (free_line 10 lf_break p pair read) (free_line 13 cr_break p pair read) in
    rw (lines, adds) (later ∙ ap Holds (append_assoc before (p ∷ []) ps))

written_is_read : (ps : List Pair) → IsStore ps → All IsReadable ps → vars_of (vars_text ps) ≡ Holds ps
written_is_read ps store readable = gives ps [] 1 store.distinct store.pairs readable

-- a name that is UTF-8 and a spelling that is
pub readable_line : (p : Pair) (text : List ℕ) → IsUtf8 p.0 → IsUtf8 text → text ≡ spelling p.1 → IsRanged p.1 → IsReadable p
unfolding lib.Utf8.encode
readable_line p text name value is ranged =
    (IsUtf8-append p.0 (32 ∷ 61 ∷ 32 ∷ spelling p.1) name (IsUtf8-append (32 ∷ 61 ∷ 32 ∷ []) (spelling p.1) (32 ∷ 61 ∷ 32 ∷ [], (refl, refl)) (subst IsUtf8 is value)), ranged)

-- ---- how far a store was written

pub vars_text-push : (ps : List Pair) (p : Pair) → vars_text (ps ++ p ∷ []) ≡ vars_text ps ++ (pair_line p ++ 10 ∷ [])
vars_text-push [] p = refl
vars_text-push (q ∷ ps) p = ap (λ l. pair_line q ++ 10 ∷ l) (vars_text-push ps p) ∙ sym (append_assoc (pair_line q) (10 ∷ vars_text ps) (pair_line p ++ 10 ∷ []))

-- the first pairs are written, so many, and each of their lines may be read again
pub record IsWriting (ps : List Pair) (bytes : List ℕ) (at : ℕ) : Type 0 where
  pub bytes_are : bytes ≡ vars_text (take at ps)
  pub readable : All IsReadable (take at ps)

next_pair : (ps : List Pair) (at : ℕ) (p : Pair) → slice_get ps at ≡ Some p → take (at + 1) ps ≡ take at ps ++ p ∷ []
next_pair ps at p is =
    let there : at < length ps = slice_get_within ps at p is in
    take_more ps at p there ∙ ap (λ q. take at ps ++ q ∷ []) (get_or_from_slice_get ps at p p is)

pub IsWriting-start : (ps : List Pair) → IsWriting ps [] 0
IsWriting-start ps = record { bytes_are = refl; readable = All-nil IsReadable }

pub IsWriting-step : (ps : List Pair) (bytes new : List ℕ) (at : ℕ) (p : Pair) → IsWriting ps bytes at → slice_get ps at ≡ Some p →
    new ≡ (bytes ++ pair_line p) ++ 10 ∷ [] → IsReadable p → IsWriting ps new (at + 1)
IsWriting-step ps bytes new at p so_far is made readable = record {
  bytes_are =
      made ∙ ap (λ l. (l ++ pair_line p) ++ 10 ∷ []) so_far.bytes_are ∙ append_assoc (vars_text (take at ps)) (pair_line p) (10 ∷ [])
      ∙ sym (vars_text-push (take at ps) p) ∙ ap vars_text (sym (next_pair ps at p is));
  readable = rw (next_pair ps at p is) (All-push IsReadable (take at ps) p so_far.readable readable);
}

pub IsWriting-end : (ps : List Pair) (bytes : List ℕ) (at : ℕ) → IsStore ps → IsWriting ps bytes at → length ps ≤ at → (bytes ≡ vars_text ps) × (vars_of bytes ≡ Holds ps)
IsWriting-end ps bytes at store so_far le =
    let all : take at ps ≡ ps = take_all at ps le in
    let made : bytes ≡ vars_text ps = so_far.bytes_are ∙ ap vars_text all in
    (made, subst (λ l. vars_of l ≡ Holds ps) (sym made) (written_is_read ps store (subst (All IsReadable) all so_far.readable)))

-- ---- how far a store was copied

split_pair : (ps : List Pair) (at : ℕ) (p : Pair) → slice_get ps at ≡ Some p → ps ≡ take at ps ++ p ∷ drop (at + 1) ps
split_pair ps at p is =
    sym (take-append-drop (at + 1) ps) ∙ ap (λ l. l ++ drop (at + 1) ps) (next_pair ps at p is) ∙ append_assoc (take at ps) (p ∷ []) (drop (at + 1) ps)

pub copied-step : (ps copy new : List Pair) (at : ℕ) (p : Pair) → IsStore ps → copy ≡ take at ps → slice_get ps at ≡ Some p → new ≡ put copy p.0 p.1 → new ≡ take (at + 1) ps
copied-step ps copy new at p store so_far is made =
    let split : ps ≡ take at ps ++ p ∷ drop (at + 1) ps = split_pair ps at p is in
    let none = new_name (take at ps) (drop (at + 1) ps) p (subst AreDistinct split store.distinct) in
    made ∙ ap (λ l. put l p.0 p.1) so_far ∙ put-new (take at ps) p.0 p.1 none ∙ sym (next_pair ps at p is)

pub pair_in_store : (ps : List Pair) (at : ℕ) (p : Pair) → IsStore ps → slice_get ps at ≡ Some p → IsPair p.0 p.1
pair_in_store ps at p store is = subst (λ q. IsPair q.0 q.1) (get_or_from_slice_get ps at p p is) (store.pairs at p (slice_get_within ps at p is))

-- What blocks of 16 bytes tell of a text, and what the code makes of a block.
use Rattle.std.proofs.Common.{◌≡◌, ℕ, zero, suc, ◌+◌, ◌-◌, ◌*◌, ◌/◌, ◌%◌, ◌^◌, ◌≤◌, ◌<◌, nat_eq, Bool, true, false, not, ◌||◌, cond, eqb, leb, List, [], ◌∷◌, map, length, get_or, take, drop, replicate, bit_and, bit_or, Fits, w8, refl, sym, ap, ◌∙◌, arith}
use Rattle.std.proofs.Common.{take-add, take-take, take-append-drop, take_all, length-drop}
use Rattle.std.specs.List.{list_any}
use Rattle.std.specs.Simd.Lanes.{Each1, chunk, zip2, mask_l, top}
use Rattle.std.proofs.lemmas.Bool.{agree_below, agree_below_at, or_parts, or_from, or_left, or_right, ne_eqb, lt-leb}
use Rattle.std.proofs.lemmas.List.{length-map}
use Rattle.std.proofs.lemmas.List.Folds.{list_any-append}
use Rattle.std.proofs.lemmas.Simd.{map-map, mask_l-mod, length-chunk, chunk-fits, zip2_splat, zip2_of_maps, swz_l, SwzOk, SwzOk-from_below, Each1-zip2, Each2-splat, Each1-all, length-zip2}
use lib.Bits.{and_le_r}
use mir.Val.{zeroes}
use Rattle.yarn_items.specs.Simple.{is_special}

-- A text.

halves : (p : ℕ → Bool) (n : ℕ) (xs : List ℕ) → list_any p xs ≡ (list_any p (take n xs) || list_any p (drop n xs))
halves p n xs = sym (ap (list_any p) (take-append-drop n xs)) ∙ list_any-append p (take n xs) (drop n xs)

pub found-within : (p : ℕ → Bool) (n at : ℕ) (xs : List ℕ) → list_any p (take n (drop at xs)) ≡ true → list_any p xs ≡ true
found-within p n at xs found = halves p at xs ∙ or_right _ _ (halves p n (drop at xs) ∙ or_left _ _ found)

pub none-further : (p : ℕ → Bool) (n at : ℕ) (xs : List ℕ) → list_any p (take at xs) ≡ false → list_any p (take n (drop at xs)) ≡ false
    → list_any p (take (at + n) xs) ≡ false
none-further p n at xs before none =
    ap (list_any p) (take-add at n xs) ∙ list_any-append p (take at xs) (take n (drop at xs)) ∙ or_from _ _ before none

-- where no earlier byte passes, the last n tell
pub last-tell : (p : ℕ → Bool) (n at : ℕ) (xs : List ℕ) → n ≤ length xs → length xs ≤ at + n → list_any p (take at xs) ≡ false
    → list_any p (take n (drop (length xs - n) xs)) ≡ list_any p xs
last-tell p n at xs room near before =
    let from = length xs - n in
    let whole = take_all n (drop from xs) (omega (arith, length-drop from xs)) in
    let none = sym (ap (list_any p) (take-take from at xs (omega arith))) ∙ (or_parts _ _ (sym (halves p from (take at xs)) ∙ before)).0 in
    ap (list_any p) whole ∙ sym (halves p from xs ∙ ap (λ b. b || list_any p (drop from xs)) none)

-- A block.

abbrev low_bits : ℕ → ℕ
low_bits x = bit_and x 15

pub low_bits-within : (bytes : List ℕ) → length bytes ≡ 16 → SwzOk w8 16 16 0 (zip2 bit_and bytes (replicate 16 15))
low_bits-within bytes long =
    let each = Each1-all (λ x. low_bits x < 16) (λ x. omega (arith, and_le_r x 15)) bytes in
    SwzOk-from_below w8 16 1 16 0 (zip2 bit_and bytes (replicate 16 15)) refl (omega (arith, length-zip2 bit_and bytes (replicate 16 15) long))
    (Each1-zip2 bit_and (λ j. j < 16) bytes (replicate 16 15) (Each2-splat (λ x y. bit_and x y < 16) bytes 16 15 each))

looked-up : (table bytes : List ℕ) (i : ℕ) → i + length bytes ≤ 16 → swz_l w8 16 table i (map low_bits bytes) ≡ map (λ x. get_or table (low_bits x) 0) bytes
looked-up table [] i few = refl
looked-up table (x ∷ bytes) i few = λ j. first j ∷ looked-up table bytes (suc i) (omega arith) j
  where
    below : leb 128 (low_bits x) ≡ false
    below = lt-leb 128 (low_bits x) (omega (arith, and_le_r x 15))

    first : cond (zeroes 16 w8 (low_bits x)) zero (get_or table (16 * (i / 16) + low_bits x) zero) ≡ get_or table (low_bits x) 0
    first = ap (λ b. cond b zero (get_or table (16 * (i / 16) + low_bits x) zero)) below ∙ ap (λ k. get_or table k 0) (omega arith)

itself : (bytes : List ℕ) → bytes ≡ map (λ x. x) bytes
itself [] = refl
itself (x ∷ bytes) = ap (λ rest. x ∷ rest) (itself bytes)

more-mask : (b any : Bool) (m : ℕ) → not (nat_eq m 0) ≡ any → not (nat_eq (cond b 1 0 + 2 * m) 0) ≡ (b || any)
more-mask true any m is = ap not (ne_eqb (1 + 2 * m) 0 (omega arith))
more-mask false any zero is = is
more-mask false any (suc m) is = ap not (ne_eqb (0 + 2 * suc m) 0 (omega arith) ∙ sym (ne_eqb (suc m) 0 (omega arith))) ∙ is

any-mask : (p : ℕ → Bool) (xs : List ℕ) → not (nat_eq (mask_l (map p xs)) 0) ≡ list_any p xs
any-mask p [] = refl
any-mask p (x ∷ xs) = more-mask (p x) (list_any p xs) (mask_l (map p xs)) (any-mask p xs)

any-same : (p q : ℕ → Bool) (bytes : List ℕ) → Each1 (Fits w8) bytes → agree_below p q 256 ≡ true → list_any p bytes ≡ list_any q bytes
any-same p q [] fits agree = refl
any-same p q (x ∷ bytes) fits agree = λ i. agree_below_at p q 256 x agree fits.0.fits i || any-same p q bytes fits.1 agree i

abbrev equal : ℕ → ℕ → ℕ
equal x y = cond (eqb x y) 255 0

-- one lane of what the code makes
abbrev lane : List ℕ → ℕ → ℕ
lane table x = bit_or (equal x (get_or table (low_bits x) 0)) (equal x 60)

abbrev is_told : List ℕ → ℕ → Bool
is_told table x = top 7 (lane table x)

pub block-tells : (table text : List ℕ) (at : ℕ) → at + 16 ≤ length text → ((k : ℕ) → Fits w8 (get_or text k 0)) → agree_below (is_told table) is_special 256 ≡ true
    → not (nat_eq (mask_l (map (top 7) (zip2 bit_or (zip2 equal (chunk at 16 text) (swz_l w8 16 table 0 (zip2 bit_and (chunk at 16 text) (replicate 16 15)))) (zip2 equal (chunk at 16 text) (replicate 16 60)))) % 2 ^ 64) 0)
    ≡ list_any is_special (take 16 (drop at text))
block-tells table text at room fits agree =
    let bytes = chunk at 16 text in
    let long = length-chunk at 16 text room in
    let alike = ap (swz_l w8 16 table 0) (zip2_splat bit_and bytes 16 15 long) ∙ looked-up table bytes 0 (omega arith) in
    let lanes = zip2_of_maps bit_or _ _ bytes (zip2_of_maps equal _ _ bytes (itself bytes) alike) (zip2_splat equal bytes 16 60 long) in
    let tops = ap (map (top 7)) lanes ∙ map-map (top 7) (lane table) bytes in
    let mask = ap (λ l. mask_l l % 2 ^ 64) tops ∙ mask_l-mod (map (is_told table) bytes) 64 (omega (arith, length-map bytes (is_told table), long)) in
    ap (λ m. not (nat_eq m 0)) mask ∙ any-mask (is_told table) bytes ∙ any-same (is_told table) is_special bytes (chunk-fits w8 at 16 text fits) agree

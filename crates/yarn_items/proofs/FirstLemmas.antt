-- What a look at the front of a text tells of how it is written.
use Rattle.std.proofs.Common.{◌≡◌, ℕ, ◌+◌, ◌-◌, ◌<◌, List, [], ◌∷◌, length, take, drop, get_or, Bool, true, false, nat_eq, nat_lt, Some, None, codes, chars, ◌⊎◌, inl, inr, refl, sym, ap, subst, ◌∙◌, arith, IsUtf8}
use Rattle.std.specs.List.{list_all, list_any}
use Rattle.std.proofs.lemmas.Bool.{eqb-true, ltb-true, and_parts, or_cases}
use Rattle.std.proofs.lemmas.List.{take_rest, length-drop}
use Rattle.std.proofs.lemmas.Str.{IsUtf8-take, IsUtf8-append, IsCharBoundary-after_ascii}
use Rattle.yarn_lines.specs.Lines.{begins_with}
use Rattle.yarn_commands.specs.Reading.{expression}
use Rattle.yarn_items.specs.declared.brace.Place.TheVariants.{Outside}
use Rattle.yarn_items.specs.declared.first.Kind.{Kind}
use Rattle.yarn_items.specs.declared.first.Kind.TheVariants.{Line, Game}
use Rattle.yarn_items.specs.Brace.{Cut, to_brace}
use Rattle.yarn_items.specs.Text.{is_escaped, is_kept, begins_pair, pair_text}
use Rattle.yarn_items.specs.Scan.{hole_front, front_of}
use Rattle.yarn_items.specs.Run.{lost_length}
use Rattle.yarn_items.specs.Written.{written, with_hole}
use Rattle.yarn_items.proofs.Utf8Lemmas.{begins-first, split-utf8, behind-utf8}
use Rattle.yarn_items.proofs.BraceLemmas.{brace-only, brace-split}
use Rattle.yarn_items.proofs.TextLemmas.{brace-no_pair, front-pair}
use Rattle.yarn_items.proofs.WrittenLemmas.{written-pair, written-hole, written-breaks}
use Rattle.yarn_items.proofs.RunLemmas.{IsKept}

-- Substitutions.

brace-front : (kind : Kind) (bytes : List ℕ) → front_of kind (123 ∷ bytes) ≡ hole_front (to_brace Outside bytes)
brace-front Line bytes = rw (brace-no_pair bytes) refl
brace-front Game bytes = refl

abbrev pub IsHole : Kind → List ℕ → List ℕ → List ℕ → Type 0
IsHole kind bytes inside rest =
    ((k : ℕ) → written kind k bytes ≡ with_hole k (expression (chars inside)) (written kind (k + 1) rest)) × (length rest < length bytes) × IsUtf8 inside × IsUtf8 rest

abbrev cut_at : List ℕ → ℕ → Cut
cut_at bytes n = record { inside = take n bytes; rest = drop (n + 1) bytes }

hole-at : (kind : Kind) (bytes : List ℕ) (n : ℕ) → to_brace Outside bytes ≡ Some (cut_at bytes n) → IsUtf8 (123 ∷ bytes) →
    IsHole kind (123 ∷ bytes) (take n bytes) (drop (n + 1) bytes)
hole-at kind bytes n found utf8 =
    let split = brace-split (brace-only Outside bytes (cut_at bytes n) found) in
    let own : IsUtf8 bytes = behind-utf8 123 bytes (omega arith) utf8 in
    let parts = split-utf8 (take n bytes) (125 ∷ drop (n + 1) bytes) (omega arith) (subst IsUtf8 split own) in (
      λ k. written-hole kind (123 ∷ bytes) (drop (n + 1) bytes) (take n bytes) k (brace-front kind bytes ∙ ap hole_front found),
      omega (arith, length-drop (n + 1) bytes),
      parts.0,
      behind-utf8 125 (drop (n + 1) bytes) (omega arith) parts.1,
    )

-- behind the `{` at the front
abbrev pub behind_brace : List ℕ → List ℕ
behind_brace bytes = take (length bytes - 1) (drop 1 bytes)

brace-behind : (bytes : List ℕ) → begins_with (codes "{") bytes ≡ true → bytes ≡ 123 ∷ behind_brace bytes
brace-behind [] is = absurd cc
brace-behind (b ∷ bytes) is =
    ap (λ x. x ∷ bytes) (begins-first 123 b [] bytes is) ∙ ap (λ l. 123 ∷ l) (sym (take_rest (b ∷ bytes) 1))

pub hole-first : (kind : Kind) (bytes : List ℕ) (n : ℕ) → begins_with (codes "{") bytes ≡ true → to_brace Outside (behind_brace bytes) ≡ Some (cut_at (behind_brace bytes) n) →
    IsUtf8 bytes →
    IsHole kind bytes (take n (behind_brace bytes)) (take (length (behind_brace bytes) - (n + 1)) (drop (n + 1) (behind_brace bytes)))
hole-first kind bytes n is found utf8 =
    let behind = behind_brace bytes in
    let same = brace-behind bytes is in
    let made = hole-at kind behind n found (subst IsUtf8 same utf8) in
    subst (IsHole kind bytes (take n behind)) (sym (take_rest behind (n + 1)))
    (subst (λ l. IsHole kind l (take n behind) (drop (n + 1) behind)) (sym same) made)

pub hole-breaks : (kind : Kind) (bytes : List ℕ) → begins_with (codes "{") bytes ≡ true → to_brace Outside (behind_brace bytes) ≡ None →
    (k : ℕ) → written kind k bytes ≡ None
hole-breaks kind bytes is found k =
    let same = brace-behind bytes is in
    subst (λ l. written kind k l ≡ None) (sym same)
    (written-breaks kind (123 ∷ behind_brace bytes) k (brace-front kind (behind_brace bytes) ∙ ap hole_front found))

-- Pairs.

pair-own : (c : ℕ) (bytes : List ℕ) → take (2 - lost_length c) (drop (lost_length c) (92 ∷ c ∷ bytes)) ≡ pair_text c
pair-own c bytes = of (is_kept c) refl
  where
    of : (t : Bool) → is_kept c ≡ t → take (2 - lost_length c) (drop (lost_length c) (92 ∷ c ∷ bytes)) ≡ pair_text c
    of true t = rw t refl
    of false t = rw t refl

one-of-ascii : (c : ℕ) (l : List ℕ) → list_all (λ e. nat_lt e 128) l ≡ true → list_any (λ e. nat_eq e c) l ≡ true → c < 128
one-of-ascii c [] small is = absurd cc
one-of-ascii c (e ∷ l) small is = of (one-of-ascii c l both.1) (or_cases (nat_eq e c) (list_any (λ x. nat_eq x c) l) is)
  where
    both : (nat_lt e 128 ≡ true) × (list_all (λ x. nat_lt x 128) l ≡ true)
    both = and_parts (nat_lt e 128) (list_all (λ x. nat_lt x 128) l) small

    of : (list_any (λ x. nat_eq x c) l ≡ true → c < 128) → (nat_eq e c ≡ true) ⊎ (list_any (λ x. nat_eq x c) l ≡ true) → c < 128
    of behind (inl same) = omega (arith, eqb-true e c same, ltb-true e 128 both.0)
    of behind (inr later) = behind later

escaped-ascii : (c : ℕ) → is_escaped c ≡ true → c < 128
escaped-ascii c is = one-of-ascii c (codes "\\{}[]#/<>") refl is

ascii-front : (c : ℕ) (bytes : List ℕ) → c < 128 → IsUtf8 (c ∷ bytes) → IsUtf8 (c ∷ [])
ascii-front c bytes small utf8 = IsUtf8-take (c ∷ bytes) 1 utf8 (IsCharBoundary-after_ascii (c ∷ bytes) 0 utf8 (omega arith) small)

pair-utf8 : (c : ℕ) (bytes : List ℕ) → is_escaped c ≡ true → IsUtf8 (92 ∷ c ∷ bytes) → IsUtf8 (pair_text c) × IsUtf8 bytes
pair-utf8 c bytes is utf8 =
    let small = escaped-ascii c is in
    let behind = behind-utf8 92 (c ∷ bytes) (omega arith) utf8 in
    (of (ascii-front c bytes small behind) (is_kept c) refl, behind-utf8 c bytes small behind)
  where
    of : IsUtf8 (c ∷ []) → (t : Bool) → is_kept c ≡ t → IsUtf8 (pair_text c)
    of own true t = rw t (IsUtf8-append (92 ∷ []) (c ∷ []) (ascii-front 92 (c ∷ bytes) (omega arith) utf8) own)
    of own false t = rw t own

pair-at : (c : ℕ) (bytes : List ℕ) → is_escaped c ≡ true → IsUtf8 (92 ∷ c ∷ bytes) → IsKept Line (92 ∷ c ∷ bytes) (pair_text c) bytes
pair-at c bytes is utf8 =
    let fine = pair-utf8 c bytes is utf8 in
    (λ k. written-pair Line (92 ∷ c ∷ bytes) bytes c k (front-pair c bytes is), omega arith, fine.0, fine.1)

pub pair-kept : (bytes : List ℕ) (from : ℕ) → begins_pair bytes ≡ true → from ≡ lost_length (get_or bytes 1 0) → IsUtf8 bytes →
    IsKept Line bytes (take (2 - from) (drop from bytes)) (take (length bytes - 2) (drop 2 bytes))
pair-kept [] from is own utf8 = absurd cc
pair-kept (b ∷ []) from is own utf8 = absurd cc
pair-kept (b ∷ c ∷ bytes) from is own utf8 =
    let both = and_parts (nat_eq b 92) (is_escaped c) is in
    let begins : b ≡ 92 = eqb-true b 92 both.0 in
    let made : IsKept Line (b ∷ c ∷ bytes) (pair_text c) bytes =
    subst (λ x. IsKept Line (x ∷ c ∷ bytes) (pair_text c) bytes) (sym begins) (pair-at c bytes both.1 (subst (λ x. IsUtf8 (x ∷ c ∷ bytes)) begins utf8)) in
    let text : take (2 - from) (drop from (b ∷ c ∷ bytes)) ≡ pair_text c =
    ap (λ n. take (2 - n) (drop n (b ∷ c ∷ bytes))) own ∙ ap (λ x. take (2 - lost_length c) (drop (lost_length c) (x ∷ c ∷ bytes))) begins ∙ pair-own c bytes in
    subst (IsKept Line (b ∷ c ∷ bytes) (take (2 - from) (drop from (b ∷ c ∷ bytes)))) (sym (take_rest (b ∷ c ∷ bytes) 2))
    (subst (λ l. IsKept Line (b ∷ c ∷ bytes) l bytes) (sym text) made)

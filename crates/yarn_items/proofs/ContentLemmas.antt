-- The content that is found is the one that stands before its `>>`.
use Rattle.std.proofs.Common.{◌≡◌, ℕ, zero, suc, ◌+◌, ◌<◌, ◌≤◌, List, [], ◌∷◌, ◌++◌, length, take, drop, Bool, true, false, not, ◌&&◌, ◌||◌, nat_eq, Option, Some, codes, ◌⊎◌, inl, inr, refl, sym, ap, subst, ◌∙◌, arith, append_assoc}
use Rattle.std.proofs.lemmas.Bool.{eqb-true, and_parts, cases_lt}
use Rattle.std.proofs.lemmas.List.{take_at, drop_at, drop_all, length-append}
use Rattle.yarn_lines.specs.Lines.{begins_with}
use Rattle.yarn_items.specs.Text.{trimmed}
use Rattle.yarn_items.specs.Brace.{is_plain, ToBrace, closes, quote as brace_quote, skipped as brace_skipped, plain}
use Rattle.yarn_items.specs.Content.{goes_on, ToEnd, ends, quote, skipped, passed, other}
use Rattle.yarn_items.specs.ContentForm.{in_content, in_hole, content_length, Content, content_before, content_to, content_found}
use Rattle.yarn_items.proofs.Utf8Lemmas.{begins-first}

not-true : (b : Bool) → not b ≡ true → b ≡ false
not-true true is = absurd cc
not-true false is = refl

-- Substitutions.

pub brace-split : {own : Bool} {bytes inside rest : List ℕ} → ToBrace own bytes inside rest → bytes ≡ inside ++ 125 ∷ rest
brace-split closes = refl
brace-split (brace_quote later) = ap (λ l. 34 ∷ l) (brace-split later)
brace-split (brace_skipped {c = c} later) = ap (λ l. 92 ∷ c ∷ l) (brace-split later)
brace-split (plain {c = c} is later) = ap (λ l. c ∷ l) (brace-split later)

-- a byte of a substitution that is neither a quote, nor skips one, nor ends it
hole-plain : (quoted own : Bool) (c : ℕ) (bytes : List ℕ) → is_plain own c ≡ true →
    content_length true (in_hole quoted own) (c ∷ bytes) ≡ content_length true (in_hole quoted own) bytes + 1
hole-plain quoted true c bytes is =
    let parts = and_parts (not (nat_eq c 34)) (not (nat_eq c 92)) is in
    rw (not-true (nat_eq c 34) parts.0, not-true (nat_eq c 92) parts.1) refl
hole-plain quoted false c bytes is =
    let parts = and_parts (not (nat_eq c 34)) (not (nat_eq c 125)) is in
    rw (not-true (nat_eq c 34) parts.0, not-true (nat_eq c 125) parts.1) refl

-- the bytes of a substitution count, and then those behind it
brace-length : (quoted : Bool) {own : Bool} {bytes inside rest : List ℕ} → ToBrace own bytes inside rest →
    content_length true (in_hole quoted own) bytes ≡ length inside + (content_length true (in_content quoted) rest + 1)
brace-length quoted closes = omega arith
brace-length quoted (brace_quote later) = omega (arith, brace-length quoted later)
brace-length quoted (brace_skipped later) = omega (arith, brace-length quoted later)
brace-length quoted (plain {quoted = own} {c = c} {bytes = bytes} is later) = omega (arith, hole-plain quoted own c bytes is, brace-length quoted later)

-- a substitution that ends
record Closes (own : Bool) (bytes : List ℕ) : Type 0 where
  pub inside : List ℕ
  pub rest : List ℕ
  pub is : ToBrace own bytes inside rest

closes-quote : (own : Bool) (bytes : List ℕ) → Closes (not own) bytes → Closes own (34 ∷ bytes)
closes-quote own bytes later = record { inside = 34 ∷ later.inside; rest = later.rest; is = brace_quote later.is }

closes-plain : (own : Bool) (c : ℕ) (bytes : List ℕ) → is_plain own c ≡ true → Closes own bytes → Closes own (c ∷ bytes)
closes-plain own c bytes is later = record { inside = c ∷ later.inside; rest = later.rest; is = plain is later.is }

-- a content that ends behind the bytes has an end of a substitution there
abbrev Ends : Bool → Bool → List ℕ → Type 0
Ends quoted own bytes = content_length true (in_hole quoted own) bytes < length bytes → Closes own bytes

-- the same where a byte is skipped
abbrev EndsLater : Bool → List ℕ → Type 0
EndsLater quoted [] = Unit {0}
EndsLater quoted (d ∷ bytes) = Ends quoted true bytes

brace-quote : (quoted own : Bool) (bytes : List ℕ) → Ends quoted (not own) bytes → Ends quoted own (34 ∷ bytes)
brace-quote quoted own bytes later lt = closes-quote own bytes (later (omega (arith, lt)))

brace-skip : (quoted : Bool) (bytes : List ℕ) → EndsLater quoted bytes → Ends quoted true (92 ∷ bytes)
brace-skip quoted [] later lt = absurd (omega (arith, lt))
brace-skip quoted (d ∷ bytes) later lt =
    let more = later (omega (arith, lt)) in
    record { inside = 92 ∷ d ∷ more.inside; rest = more.rest; is = brace_skipped more.is }

brace-plain : (quoted own : Bool) (c : ℕ) (bytes : List ℕ) → is_plain own c ≡ true → Ends quoted own bytes → Ends quoted own (c ∷ bytes)
brace-plain quoted own c bytes is later lt = closes-plain own c bytes is (later (omega (arith, lt, hole-plain quoted own c bytes is)))

brace-at : (quoted own : Bool) (c : ℕ) (bytes : List ℕ) → ((o : Bool) → Ends quoted o bytes) → EndsLater quoted bytes → Ends quoted own (c ∷ bytes)
brace-at quoted own c bytes later more = by_quote (nat_eq c 34) refl own
  where
    by_own : nat_eq c 34 ≡ false → (o s e : Bool) → nat_eq c 92 ≡ s → nat_eq c 125 ≡ e → Ends quoted o (c ∷ bytes)
    by_own no_quote true true e i j = subst (λ x. Ends quoted true (x ∷ bytes)) (sym (eqb-true c 92 i)) (brace-skip quoted bytes more)
    by_own no_quote true false e i j = brace-plain quoted true c bytes (rw (no_quote, i) refl) (later true)
    by_own no_quote false s true i j =
        subst (λ x. Ends quoted false (x ∷ bytes)) (sym (eqb-true c 125 j)) (λ lt. record { inside = []; rest = bytes; is = closes })
    by_own no_quote false s false i j = brace-plain quoted false c bytes (rw (no_quote, j) refl) (later false)

    by_quote : (t : Bool) → nat_eq c 34 ≡ t → (o : Bool) → Ends quoted o (c ∷ bytes)
    by_quote true t o = subst (λ x. Ends quoted o (x ∷ bytes)) (sym (eqb-true c 34 t)) (brace-quote quoted o bytes (later (not o)))
    by_quote false t o = by_own t o (nat_eq c 92) (nat_eq c 125) refl refl

brace-there : (quoted own : Bool) (bytes : List ℕ) → Ends quoted own bytes
brace-there quoted own [] lt = absurd (omega (arith, lt))
brace-there quoted own (c ∷ []) lt = brace-at quoted own c [] (λ o. brace-there quoted o []) tt lt
brace-there quoted own (c ∷ d ∷ bytes) lt = brace-at quoted own c (d ∷ bytes) (λ o. brace-there quoted o (d ∷ bytes)) (brace-there quoted true bytes) lt

-- Contents.

pub end-split : {games quoted : Bool} {bytes inside rest : List ℕ} → ToEnd games quoted bytes inside rest → bytes ≡ inside ++ 62 ∷ 62 ∷ rest
end-split ends = refl
end-split (quote later) = ap (λ l. 34 ∷ l) (end-split later)
end-split (skipped {c = c} later) = ap (λ l. 92 ∷ c ∷ l) (end-split later)
end-split (passed {own = own} {inside = inside} {rest = rest} brace later) =
    ap (λ l. 123 ∷ l) (brace-split brace ∙ ap (λ l. own ++ 125 ∷ l) (end-split later) ∙ sym (append_assoc own (125 ∷ inside) (62 ∷ 62 ∷ rest)))
end-split (other {c = c} is later) = ap (λ l. c ∷ l) (end-split later)

-- what a byte isn't that has no meaning
record GoesOn (games quoted : Bool) (c : ℕ) (bytes : List ℕ) : Type 0 where
  pub no_quote : nat_eq c 34 ≡ false
  pub no_skip : nat_eq c 92 ≡ false
  pub no_hole : (games && nat_eq c 123) ≡ false
  pub no_end : (quoted || not (begins_with (codes ">>") (c ∷ bytes))) ≡ true

goes-parts : (games quoted : Bool) (c : ℕ) (bytes : List ℕ) → goes_on games quoted (c ∷ bytes) ≡ true → GoesOn games quoted c bytes
goes-parts games quoted c bytes is =
    let three = not (nat_eq c 34) && not (nat_eq c 92) && not (games && nat_eq c 123) in
    let all = and_parts three (quoted || not (begins_with (codes ">>") (c ∷ bytes))) is in
    let holes = and_parts (not (nat_eq c 34) && not (nat_eq c 92)) (not (games && nat_eq c 123)) all.0 in
    let two = and_parts (not (nat_eq c 34)) (not (nat_eq c 92)) holes.0 in
    record {
      no_quote = not-true (nat_eq c 34) two.0;
      no_skip = not-true (nat_eq c 92) two.1;
      no_hole = not-true (games && nat_eq c 123) holes.1;
      no_end = all.1;
    }

other-length : (games quoted : Bool) (c : ℕ) (bytes : List ℕ) → GoesOn games quoted c bytes →
    content_length games (in_content quoted) (c ∷ bytes) ≡ content_length games (in_content quoted) bytes + 1
other-length games true c bytes is = rw (is.no_quote, is.no_skip, is.no_hole) refl
other-length games false c bytes is =
    let no_end : begins_with (codes ">>") (c ∷ bytes) ≡ false = not-true (begins_with (codes ">>") (c ∷ bytes)) is.no_end in
    rw (no_end, is.no_quote, is.no_skip, is.no_hole) refl

quote-length : (games quoted : Bool) (bytes : List ℕ) →
    content_length games (in_content quoted) (34 ∷ bytes) ≡ content_length games (in_content (not quoted)) bytes + 1
quote-length games true bytes = refl
quote-length games false bytes = refl

skip-length : (games quoted : Bool) (c : ℕ) (bytes : List ℕ) →
    content_length games (in_content quoted) (92 ∷ c ∷ bytes) ≡ content_length games (in_content quoted) bytes + 1 + 1
skip-length games true c bytes = refl
skip-length games false c bytes = refl

hole-length : (quoted : Bool) (bytes : List ℕ) →
    content_length true (in_content quoted) (123 ∷ bytes) ≡ content_length true (in_hole quoted false) bytes + 1
hole-length true bytes = refl
hole-length false bytes = refl

-- what stands before the `>>` counts
end-length : {games quoted : Bool} {bytes inside rest : List ℕ} → ToEnd games quoted bytes inside rest →
    content_length games (in_content quoted) bytes ≡ length inside
end-length ends = refl
end-length (quote {games = games} {quoted = quoted} {bytes = bytes} later) = omega (arith, quote-length games quoted bytes, end-length later)
end-length (skipped {games = games} {quoted = quoted} {c = c} {bytes = bytes} later) = omega (arith, skip-length games quoted c bytes, end-length later)
end-length (passed {quoted = quoted} {bytes = bytes} {own = own} {inside = inside} brace later) =
    omega (arith, hole-length quoted bytes, brace-length quoted brace, end-length later, length-append own (125 ∷ inside))
end-length (other {games = games} {quoted = quoted} {c = c} {bytes = bytes} is later) =
    omega (arith, other-length games quoted c bytes (goes-parts games quoted c bytes is), end-length later)

-- a content that ends
record HasEnd (games quoted : Bool) (bytes : List ℕ) : Type 0 where
  pub inside : List ℕ
  pub rest : List ℕ
  pub is : ToEnd games quoted bytes inside rest

abbrev Within : Bool → Bool → List ℕ → Type 0
Within games quoted bytes = content_length games (in_content quoted) bytes < length bytes

abbrev Found : Bool → Bool → List ℕ → Type 0
Found games quoted bytes = Within games quoted bytes → HasEnd games quoted bytes

found-quote : (games quoted : Bool) (bytes : List ℕ) → Found games (not quoted) bytes → Found games quoted (34 ∷ bytes)
found-quote games quoted bytes later lt =
    let more = later (omega (arith, lt, quote-length games quoted bytes)) in
    record { inside = 34 ∷ more.inside; rest = more.rest; is = quote more.is }

-- a byte that is skipped, and the bytes behind it
found-skip : (games quoted : Bool) (bytes : List ℕ) → ((more : List ℕ) → length more < length bytes → Found games quoted more) → Found games quoted (92 ∷ bytes)
found-skip games true [] later lt = absurd (omega (arith, lt))
found-skip games false [] later lt = absurd (omega (arith, lt))
found-skip games quoted (c ∷ bytes) later lt =
    let more = later bytes (omega arith) (omega (arith, lt, skip-length games quoted c bytes)) in
    record { inside = 92 ∷ c ∷ more.inside; rest = more.rest; is = skipped more.is }

found-hole : (quoted : Bool) (bytes : List ℕ) → ((more : List ℕ) → length more < length bytes → Found true quoted more) → Found true quoted (123 ∷ bytes)
found-hole quoted bytes later lt =
    let brace = brace-there quoted false bytes (omega (arith, lt, hole-length quoted bytes)) in
    let size : length bytes ≡ length brace.inside + suc (length brace.rest) = ap length (brace-split brace.is) ∙ length-append brace.inside (125 ∷ brace.rest) in
    let count = brace-length quoted brace.is in
    let more = later brace.rest (omega (arith, size)) (omega (arith, lt, hole-length quoted bytes, size, count)) in
    record { inside = 123 ∷ (brace.inside ++ 125 ∷ more.inside); rest = more.rest; is = passed {own = brace.inside} {inside = more.inside} {rest = more.rest} brace.is more.is }

found-end : (games : Bool) (c : ℕ) (bytes : List ℕ) → begins_with (codes ">>") (c ∷ bytes) ≡ true → HasEnd games false (c ∷ bytes)
found-end games c [] is = let h = and_parts (nat_eq c 62) false is in absurd cc
found-end games c (d ∷ bytes) is =
    let first : c ≡ 62 = begins-first 62 c (codes ">") (d ∷ bytes) is in
    let second : d ≡ 62 = begins-first 62 d [] bytes (and_parts (nat_eq c 62) (begins_with (codes ">") (d ∷ bytes)) is).1 in
    subst (λ x. HasEnd games false (x ∷ d ∷ bytes)) (sym first) (subst (λ x. HasEnd games false (62 ∷ x ∷ bytes)) (sym second) (record { inside = []; rest = bytes; is = ends }))

found-other : (games quoted : Bool) (c : ℕ) (bytes : List ℕ) → GoesOn games quoted c bytes → Found games quoted bytes → Found games quoted (c ∷ bytes)
found-other games quoted c bytes is later lt =
    let more = later (omega (arith, lt, other-length games quoted c bytes is)) in
    let on : goes_on games quoted (c ∷ bytes) ≡ true = rw (is.no_quote, is.no_skip, is.no_hole) is.no_end in
    record { inside = c ∷ more.inside; rest = more.rest; is = other on more.is }

abbrev Later : List ℕ → Type 0
Later bytes = (games quoted : Bool) (more : List ℕ) → length more ≤ length bytes → Found games quoted more

found-at : (games quoted : Bool) (c : ℕ) (bytes : List ℕ) → Later bytes → Found games quoted (c ∷ bytes)
found-at games quoted c bytes later = by_byte (nat_eq c 34) (nat_eq c 92) (games && nat_eq c 123) refl refl refl
  where
    by_end : nat_eq c 34 ≡ false → nat_eq c 92 ≡ false → (games && nat_eq c 123) ≡ false → (q e : Bool) → begins_with (codes ">>") (c ∷ bytes) ≡ e → Found games q (c ∷ bytes)
    by_end i j k true e m = found-other games true c bytes (record { no_quote = i; no_skip = j; no_hole = k; no_end = refl }) (later games true bytes (omega arith))
    by_end i j k false true m = λ lt. found-end games c bytes m
    by_end i j k false false m =
        found-other games false c bytes (record { no_quote = i; no_skip = j; no_hole = k; no_end = rw m refl }) (later games false bytes (omega arith))

    by_byte : (a b h : Bool) → nat_eq c 34 ≡ a → nat_eq c 92 ≡ b → (games && nat_eq c 123) ≡ h → Found games quoted (c ∷ bytes)
    by_byte true b h i j k =
        subst (λ x. Found games quoted (x ∷ bytes)) (sym (eqb-true c 34 i)) (found-quote games quoted bytes (later games (not quoted) bytes (omega arith)))
    by_byte false true h i j k =
        subst (λ x. Found games quoted (x ∷ bytes)) (sym (eqb-true c 92 j)) (found-skip games quoted bytes (λ more lt. later games quoted more (omega (arith, lt))))
    by_byte false false true i j k =
        let parts = and_parts games (nat_eq c 123) k in
        subst (λ g. Found g quoted (c ∷ bytes)) (sym parts.0) (subst (λ x. Found true quoted (x ∷ bytes)) (sym (eqb-true c 123 parts.1))
        (found-hole quoted bytes (λ more lt. later true quoted more (omega (arith, lt)))))
    by_byte false false false i j k = by_end i j k quoted (begins_with (codes ">>") (c ∷ bytes)) refl

found-within : (most : ℕ) (games quoted : Bool) (bytes : List ℕ) → length bytes ≤ most → Found games quoted bytes
found-within most games quoted [] small lt = absurd (omega (arith, lt))
found-within zero games quoted (c ∷ bytes) small lt = absurd (omega (arith, small))
found-within (suc most) games quoted (c ∷ bytes) small lt =
    found-at games quoted c bytes (λ g q more less. found-within most g q more (omega (arith, less, small))) lt

-- What is found.

begins-within : (n : ℕ) (bytes : List ℕ) → begins_with (codes ">>") (drop n bytes) ≡ true → n < length bytes
begins-within n bytes is = of (cases_lt n (length bytes))
  where
    of : (n < length bytes) ⊎ (length bytes ≤ n) → n < length bytes
    of (inl lt) = lt
    of (inr le) = let h : begins_with (codes ">>") [] ≡ true = ap (begins_with (codes ">>")) (sym (drop_all n bytes le)) ∙ is in absurd cc

pub content-found : (games : Bool) (bytes inside rest : List ℕ) → ToEnd games false bytes inside rest →
    content_found games bytes ≡ Some (record { own = trimmed inside; rest = rest })
content-found games bytes inside rest is =
    let split = end-split is in
    let n = length inside in
    let front : take n bytes ≡ inside = ap (take n) split ∙ take_at inside (62 ∷ 62 ∷ rest) n refl in
    let behind : drop n bytes ≡ 62 ∷ 62 ∷ rest = ap (drop n) split ∙ drop_at inside (62 ∷ 62 ∷ rest) n refl in
    ap (λ k. content_to k bytes) (end-length is) ∙ ap (λ l. content_before l (drop n bytes)) front ∙ ap (content_before inside) behind

-- a content that was found, before it was trimmed
pub record IsContent (games : Bool) (bytes own rest : List ℕ) : Type 0 where
  pub inside : List ℕ
  pub is : ToEnd games false bytes inside rest
  pub trims : own ≡ trimmed inside

pub content-only : (games : Bool) (bytes : List ℕ) (c : Content) → content_found games bytes ≡ Some c → IsContent games bytes c.own c.rest
content-only games bytes c is = by_end (begins_with (codes ">>") (drop n bytes)) refl
  where
    n : ℕ
    n = content_length games (in_content false) bytes

    by_end : (t : Bool) → begins_with (codes ">>") (drop n bytes) ≡ t → IsContent games bytes c.own c.rest
    by_end true t =
        let found = found-within (length bytes) games false bytes (omega arith) (begins-within n bytes t) in
        let same : ◌≡◌ {A = Option Content} (Some (record { own = trimmed found.inside; rest = found.rest })) (Some c) =
        sym (content-found games bytes found.inside found.rest found.is) ∙ is in
        let one : ◌≡◌ {A = Content} (record { own = trimmed found.inside; rest = found.rest }) c = cc in
        record {
          inside = found.inside;
          is = subst (λ (c : Content). ToEnd games false bytes found.inside c.rest) one found.is;
          trims = sym (ap (λ (c : Content). c.own) one);
        }
    by_end false t = let told = rw t at is in absurd cc

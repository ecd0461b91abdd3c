-- Texts that the scanners of a line pass whole: they neither end a substitution or a content nor leave a string open.
use Rattle.std.proofs.Common.{◌≡◌, ℕ, suc, ◌<◌, ◌≤◌, ◌==◌, List, [], ◌∷◌, ◌++◌, length, get_or, Bool, true, false, not, ◌&&◌, ◌||◌, nat_eq, nat_lt, ◌⊎◌, inl, inr, IsUtf8, encode_utf8_all, encode_utf8, refl, sym, ap, ◌∙◌, subst, arith, append_assoc, append-nil}
use Rattle.std.specs.List.{list_any, list_all}
use Rattle.std.specs.Str.{all_scalars}
use Rattle.std.specs.Char.{is_ascii_alphanumeric}
use Rattle.std.proofs.lemmas.Bool.{ne_eqb, ltb-true, not-true, not_from_false, or_parts, or_from, and_parts, and_from, both_ways, cases_lt}
use Rattle.std.proofs.lemmas.List.Folds.{list_any-append, list_all-append}
use Rattle.std.proofs.lemmas.Str.{IsUtf8-append, IsUtf8-nil, encode_ascii, inside_one}
use Rattle.unicode_ident.proofs.IdentLemmas.{is_xid_continue-ascii}
use Rattle.yarn_base.specs.Name.{continues_name}
use Rattle.yarn_expr.specs.Tokens.{is_escaped}
use Rattle.yarn_expr.specs.Print.{escape}
use Rattle.yarn_expr.proofs.Runs.{AllOf}
use Rattle.yarn_expr.proofs.Shown.{are_ascii, ascii-spelt, ascii-scalar}
use Rattle.yarn_items.specs.Brace.{ToBrace, is_plain}
use Rattle.yarn_items.specs.Brace as brace
use Rattle.yarn_items.specs.Content.{ToEnd, goes_on}
use Rattle.yarn_items.specs.Content as content

-- an LF or a CR
abbrev pub is_break : ℕ → Bool
is_break b = nat_eq b 10 || nat_eq b 13

-- only an LF or a CR may pass the test
pub record OnlyBreaks (test : ℕ → Bool) : Type 0 where
  pub fails : (b : ℕ) → is_break b ≡ false → test b ≡ false

pub only-feeds : OnlyBreaks (λ b. nat_eq b 10)
only-feeds = record { fails = λ b bad. (or_parts (nat_eq b 10) (nat_eq b 13) bad).0 }

pub only-returns : OnlyBreaks (λ b. nat_eq b 13)
only-returns = record { fails = λ b bad. (or_parts (nat_eq b 10) (nat_eq b 13) bad).1 }

pub only-none : OnlyBreaks (λ b. false)
only-none = record { fails = λ b bad. refl }

-- none of the bytes passes the test
abbrev pub IsFree : (ℕ → Bool) → List ℕ → Type 0
IsFree test bytes = list_any test bytes ≡ false

pub free-append : (test : ℕ → Bool) (xs ys : List ℕ) → IsFree test xs → IsFree test ys → IsFree test (xs ++ ys)
free-append test xs ys one two = list_any-append test xs ys ∙ or_from (list_any test xs) (list_any test ys) one two

pub free-parts : (test : ℕ → Bool) (xs ys : List ℕ) → IsFree test (xs ++ ys) → IsFree test xs × IsFree test ys
free-parts test xs ys whole = or_parts (list_any test xs) (list_any test ys) (sym (list_any-append test xs ys) ∙ whole)

pub free-none : (bytes : List ℕ) → IsFree (λ b. false) bytes
free-none [] = refl
free-none (b ∷ bytes) = free-none bytes

-- UTF-8 none of whose bytes passes the test
pub record Fits (test : ℕ → Bool) (bytes : List ℕ) : Type 0 where
  pub utf8 : IsUtf8 bytes
  pub free : IsFree test bytes

pub fits-nil : (test : ℕ → Bool) → Fits test []
fits-nil test = record { utf8 = IsUtf8-nil; free = refl }

pub fits-append : (test : ℕ → Bool) (xs ys : List ℕ) → Fits test xs → Fits test ys → Fits test (xs ++ ys)
fits-append test xs ys one two = record { utf8 = IsUtf8-append xs ys one.utf8 two.utf8; free = free-append test xs ys one.free two.free }

-- the scanners pass the bytes whole
pub record Passes (bytes : List ℕ) : Type 0 where
  pub in_content : (more inside rest : List ℕ) → ToEnd false false more inside rest → ToEnd false false (bytes ++ more) (bytes ++ inside) rest

pub record PassesBrace (bytes : List ℕ) : Type 0 where
  pub in_braces : (more inside rest : List ℕ) → ToBrace false more inside rest → ToBrace false (bytes ++ more) (bytes ++ inside) rest

pub passes-nil : Passes []
passes-nil = record { in_content = λ more inside rest end. end }

pub passes-append : (a b : List ℕ) → Passes a → Passes b → Passes (a ++ b)
passes-append a b one two = record {
  in_content = λ more inside rest end.
      rw (append_assoc a b more, append_assoc a b inside) (one.in_content (b ++ more) (b ++ inside) rest (two.in_content more inside rest end));
}

braces-append : (a b : List ℕ) → PassesBrace a → PassesBrace b → PassesBrace (a ++ b)
braces-append a b one two = record {
  in_braces = λ more inside rest end.
      rw (append_assoc a b more, append_assoc a b inside) (one.in_braces (b ++ more) (b ++ inside) rest (two.in_braces more inside rest end));
}

-- all of these
pub record Quiet (test : ℕ → Bool) (bytes : List ℕ) : Type 0 where
  pub fits : Fits test bytes
  pub passes : Passes bytes
  pub braces : PassesBrace bytes

pub quiet-append : (test : ℕ → Bool) (a b : List ℕ) → Quiet test a → Quiet test b → Quiet test (a ++ b)
quiet-append test a b one two = record {
  fits = fits-append test a b one.fits two.fits;
  passes = passes-append a b one.passes two.passes;
  braces = braces-append a b one.braces two.braces;
}

-- ---- bytes that are nothing to a scanner

abbrev pub is_still : ℕ → Bool
is_still b = not (nat_eq b 34) && (not (nat_eq b 92) && (not (nat_eq b 125) && (not (nat_eq b 62) && not (is_break b))))

record Still (b : ℕ) : Type 0 where
  quote : nat_eq b 34 ≡ false
  back : nat_eq b 92 ≡ false
  brace : nat_eq b 125 ≡ false
  more : nat_eq b 62 ≡ false
  no_break : is_break b ≡ false

still-parts : (b : ℕ) → is_still b ≡ true → Still b
still-parts b is =
    let one = and_parts (not (nat_eq b 34)) (not (nat_eq b 92) && (not (nat_eq b 125) && (not (nat_eq b 62) && not (is_break b)))) is in
    let two = and_parts (not (nat_eq b 92)) (not (nat_eq b 125) && (not (nat_eq b 62) && not (is_break b))) one.1 in
    let three = and_parts (not (nat_eq b 125)) (not (nat_eq b 62) && not (is_break b)) two.1 in
    let four = and_parts (not (nat_eq b 62)) (not (is_break b)) three.1 in
    record { quote = not-true _ one.0; back = not-true _ two.0; brace = not-true _ three.0; more = not-true _ four.0; no_break = not-true _ four.1 }

still-from : (b : ℕ) → Still b → is_still b ≡ true
still-from b s =
    let one = s.quote in
    let two = s.back in
    let three = s.brace in
    let four = s.more in
    let five = s.no_break in
    and_from _ _ (not_from_false _ one) (and_from _ _ (not_from_false _ two) (and_from _ _ (not_from_false _ three) (and_from _ _ (not_from_false _ four) (not_from_false _ five))))

still-goes_on : (b : ℕ) (bytes : List ℕ) → Still b → goes_on false false (b ∷ bytes) ≡ true
still-goes_on b bytes s =
    let one = s.quote in
    let two = s.back in
    let four = s.more in
    rw (one, two, four) refl

still-plain : (b : ℕ) → Still b → is_plain false b ≡ true
still-plain b s =
    let one = s.quote in
    let three = s.brace in
    rw (one, three) refl

pub free-still : (test : ℕ → Bool) (bytes : List ℕ) → OnlyBreaks test → list_all is_still bytes ≡ true → IsFree test bytes
free-still test [] only all = refl
free-still test (b ∷ bytes) only all =
    let parts = and_parts (is_still b) (list_all is_still bytes) all in
    or_from (test b) (list_any test bytes) (only.fails b (still-parts b parts.0).no_break) (free-still test bytes only parts.1)

passes-still : (bytes : List ℕ) → list_all is_still bytes ≡ true → Passes bytes
passes-still [] all = passes-nil
passes-still (b ∷ bytes) all =
    let parts = and_parts (is_still b) (list_all is_still bytes) all in
    let s = still-parts b parts.0 in
    let later = passes-still bytes parts.1 in
    record { in_content = λ more inside rest end. content.other (still-goes_on b (bytes ++ more) s) (later.in_content more inside rest end) }

braces-still : (bytes : List ℕ) → list_all is_still bytes ≡ true → PassesBrace bytes
braces-still [] all = record { in_braces = λ more inside rest end. end }
braces-still (b ∷ bytes) all =
    let parts = and_parts (is_still b) (list_all is_still bytes) all in
    let s = still-parts b parts.0 in
    let later = braces-still bytes parts.1 in
    record { in_braces = λ more inside rest end. brace.plain (still-plain b s) (later.in_braces more inside rest end) }

pub quiet-still : (test : ℕ → Bool) (bytes : List ℕ) → OnlyBreaks test → IsUtf8 bytes → list_all is_still bytes ≡ true → Quiet test bytes
quiet-still test bytes only utf8 all = record {
  fits = record { utf8 = utf8; free = free-still test bytes only all };
  passes = passes-still bytes all;
  braces = braces-still bytes all;
}

pub utf8-ascii : (w : List ℕ) → are_ascii w ≡ true → IsUtf8 w
utf8-ascii w ascii = (w, (ascii-scalar w ascii, sym (ascii-spelt w ascii)))

-- a text that is written out
pub quiet-words : (test : ℕ → Bool) (w : List ℕ) → OnlyBreaks test → are_ascii w ≡ true → list_all is_still w ≡ true → Quiet test w
quiet-words test w only ascii all = quiet-still test w only (utf8-ascii w ascii) all

-- ---- characters of more than one byte

all-by_place : (p : ℕ → Bool) (bytes : List ℕ) → ((k : ℕ) → k < length bytes → p (get_or bytes k 0) ≡ true) → list_all p bytes ≡ true
all-by_place p [] at = refl
all-by_place p (b ∷ bytes) at = and_from (p b) (list_all p bytes) (at 0 (omega arith)) (all-by_place p bytes (λ k lt. at (suc k) (omega arith)))

pub high-bytes : (p : ℕ → Bool) (c : ℕ) → ((b : ℕ) → 128 ≤ b → p b ≡ true) → 128 ≤ c → list_all p (encode_utf8 c) ≡ true
high-bytes p c high le = all-by_place p (encode_utf8 c) at
  where
    at : (k : ℕ) → k < length (encode_utf8 c) → p (get_or (encode_utf8 c) k 0) ≡ true
    at k lt = by_size (cases_lt (get_or (encode_utf8 c) k 0) 128)
      where
        by_size : (get_or (encode_utf8 c) k 0 < 128) ⊎ (128 ≤ get_or (encode_utf8 c) k 0) → p (get_or (encode_utf8 c) k 0) ≡ true
        by_size (inl low) = absurd (omega (arith, inside_one c [] (encode_utf8 c) k (sym (append-nil (encode_utf8 c))) lt low))
        by_size (inr is) = high _ is

still-high : (b : ℕ) → 128 ≤ b → is_still b ≡ true
still-high b le = still-from b (record {
  quote = ne_eqb b 34 (λ e. omega arith);
  back = ne_eqb b 92 (λ e. omega arith);
  brace = ne_eqb b 125 (λ e. omega arith);
  more = ne_eqb b 62 (λ e. omega arith);
  no_break = or_from (nat_eq b 10) (nat_eq b 13) (ne_eqb b 10 (λ e. omega arith)) (ne_eqb b 13 (λ e. omega arith));
})

no_break-high : (b : ℕ) → 128 ≤ b → is_break b ≡ false
no_break-high b le = or_from (nat_eq b 10) (nat_eq b 13) (ne_eqb b 10 (λ e. omega arith)) (ne_eqb b 13 (λ e. omega arith))

-- the characters of a text pass the test as its bytes do
free-one : (test : ℕ → Bool) (c : ℕ) → OnlyBreaks test → list_any test (encode_utf8 c) ≡ test c
free-one test c only = by_size (cases_lt c 128)
  where
    none : (bytes : List ℕ) → list_all (λ b. not (test b)) bytes ≡ true → list_any test bytes ≡ false
    none [] all = refl
    none (b ∷ bytes) all =
        let parts = and_parts (not (test b)) (list_all (λ b. not (test b)) bytes) all in
        or_from (test b) (list_any test bytes) (not-true (test b) parts.0) (none bytes parts.1)

    single : (t : Bool) → test c ≡ t → list_any test (c ∷ []) ≡ test c
    single true t = rw t refl
    single false t = rw t refl

    by_size : (c < 128) ⊎ (128 ≤ c) → list_any test (encode_utf8 c) ≡ test c
    by_size (inl lt) = ap (list_any test) (encode_ascii c lt) ∙ single (test c) refl
    by_size (inr le) =
        none (encode_utf8 c) (high-bytes (λ b. not (test b)) c (λ b high. not_from_false (test b) (only.fails b (no_break-high b high))) le)
        ∙ sym (only.fails c (no_break-high c le))

pub free-encodes : (test : ℕ → Bool) (cs : List ℕ) → OnlyBreaks test → list_any test (encode_utf8_all cs) ≡ list_any test cs
free-encodes test [] only = refl
free-encodes test (c ∷ cs) only =
    list_any-append test (encode_utf8 c) (encode_utf8_all cs)
    ∙ ap (λ t. t || list_any test (encode_utf8_all cs)) (free-one test c only)
    ∙ ap (λ t. test c || t) (free-encodes test cs only)

-- ---- names

-- a byte below 128 that is in no name
pub no_name : (n : ℕ) → nat_lt n 128 ≡ true → (n == 46) ≡ false → (is_ascii_alphanumeric n || (n == 95)) ≡ false → continues_name n ≡ false
no_name n low point name = rw (is_xid_continue-ascii n (ltb-true n 128 low)) (rw name point)

pub name-differs : (n c : ℕ) → continues_name n ≡ false → continues_name c ≡ true → nat_eq c n ≡ false
name-differs n c bad named = ne_eqb c n (λ e. both_ways (continues_name n) bad (ap continues_name (sym e) ∙ named))

still-name : (c : ℕ) → continues_name c ≡ true → is_still c ≡ true
still-name c named = still-from c (record {
  quote = name-differs 34 c (no_name 34 refl refl refl) named;
  back = name-differs 92 c (no_name 92 refl refl refl) named;
  brace = name-differs 125 c (no_name 125 refl refl refl) named;
  more = name-differs 62 c (no_name 62 refl refl refl) named;
  no_break = or_from (nat_eq c 10) (nat_eq c 13) (name-differs 10 c (no_name 10 refl refl refl) named) (name-differs 13 c (no_name 13 refl refl refl) named);
})

-- the bytes of characters that pass a test, where bytes from 128 on pass it
char-encodes : (p : ℕ → Bool) (c : ℕ) → ((b : ℕ) → 128 ≤ b → p b ≡ true) → p c ≡ true → list_all p (encode_utf8 c) ≡ true
char-encodes p c high is = by_size (cases_lt c 128)
  where
    by_size : (c < 128) ⊎ (128 ≤ c) → list_all p (encode_utf8 c) ≡ true
    by_size (inl lt) = ap (list_all p) (encode_ascii c lt) ∙ and_from (p c) true is refl
    by_size (inr le) = high-bytes p c high le

pub all-encodes : (p : ℕ → Bool) (cs : List ℕ) → ((b : ℕ) → 128 ≤ b → p b ≡ true) → list_all p cs ≡ true → list_all p (encode_utf8_all cs) ≡ true
all-encodes p [] high all = refl
all-encodes p (c ∷ cs) high all =
    let parts = and_parts (p c) (list_all p cs) all in
    list_all-append p (encode_utf8 c) (encode_utf8_all cs) ∙ and_from (list_all p (encode_utf8 c)) (list_all p (encode_utf8_all cs)) (char-encodes p c high parts.0) (all-encodes p cs high parts.1)

still-names : (cs : List ℕ) → AllOf continues_name cs → list_all is_still cs ≡ true
still-names [] all = refl
still-names (c ∷ cs) all = and_from (is_still c) (list_all is_still cs) (still-name c all.0) (still-names cs all.1)

-- characters that are nothing to a scanner
pub quiet-chars : (test : ℕ → Bool) (bytes cs : List ℕ) → OnlyBreaks test → bytes ≡ encode_utf8_all cs → all_scalars cs ≡ true → list_all is_still cs ≡ true → Quiet test bytes
quiet-chars test bytes cs only spelt scalar all =
    let P : List ℕ → Type 0 = λ l. Quiet test l in
    subst P (sym spelt) (quiet-still test (encode_utf8_all cs) only (cs, (scalar, refl)) (all-encodes is_still cs still-high all))

pub quiet-name : (test : ℕ → Bool) (bytes cs : List ℕ) → OnlyBreaks test → bytes ≡ encode_utf8_all cs → all_scalars cs ≡ true → AllOf continues_name cs → Quiet test bytes
quiet-name test bytes cs only spelt scalar all = quiet-chars test bytes cs only spelt scalar (still-names cs all)

pub quiet-variable : (test : ℕ → Bool) (bytes cs : List ℕ) → OnlyBreaks test → bytes ≡ encode_utf8_all (36 ∷ cs) → all_scalars (36 ∷ cs) ≡ true → AllOf continues_name cs → Quiet test bytes
quiet-variable test bytes cs only spelt scalar all = quiet-chars test bytes (36 ∷ cs) only spelt scalar (and_from (is_still 36) (list_all is_still cs) refl (still-names cs all))

-- ---- strings

abbrev is_inner : ℕ → Bool
is_inner b = not (nat_eq b 34) && not (nat_eq b 92)

inner-high : (b : ℕ) → 128 ≤ b → is_inner b ≡ true
inner-high b le = and_from _ _ (not_from_false _ (ne_eqb b 34 (λ e. omega arith))) (not_from_false _ (ne_eqb b 92 (λ e. omega arith)))

inner-char : (c : ℕ) → is_escaped c ≡ false → list_all is_inner (encode_utf8 c) ≡ true
inner-char c bad =
    let parts = or_parts (c == 34) (c == 92) bad in
    char-encodes is_inner c inner-high (and_from _ _ (not_from_false _ parts.0) (not_from_false _ parts.1))

inner-end : (bytes more inside rest : List ℕ) → list_all is_inner bytes ≡ true → ToEnd false true more inside rest → ToEnd false true (bytes ++ more) (bytes ++ inside) rest
inner-end [] more inside rest all end = end
inner-end (b ∷ bytes) more inside rest all end =
    let parts = and_parts (is_inner b) (list_all is_inner bytes) all in
    let own = and_parts (not (nat_eq b 34)) (not (nat_eq b 92)) parts.0 in
    let quote = not-true _ own.0 in
    let back = not-true _ own.1 in
    content.other (rw (quote, back) refl) (inner-end bytes more inside rest parts.1 end)

inner-brace : (bytes more inside rest : List ℕ) → list_all is_inner bytes ≡ true → ToBrace true more inside rest → ToBrace true (bytes ++ more) (bytes ++ inside) rest
inner-brace [] more inside rest all end = end
inner-brace (b ∷ bytes) more inside rest all end =
    let parts = and_parts (is_inner b) (list_all is_inner bytes) all in
    let own = and_parts (not (nat_eq b 34)) (not (nat_eq b 92)) parts.0 in
    let quote = not-true _ own.0 in
    let back = not-true _ own.1 in
    brace.plain (rw (quote, back) refl) (inner-brace bytes more inside rest parts.1 end)

escaped-low : (c : ℕ) → is_escaped c ≡ true → encode_utf8 c ≡ c ∷ []
escaped-low c is = encode_ascii c (low (cases_lt c 128))
  where
    low : (c < 128) ⊎ (128 ≤ c) → c < 128
    low (inl lt) = lt
    low (inr le) = absurd (both_ways (is_escaped c) (or_from (c == 34) (c == 92) (ne_eqb c 34 (λ e. omega arith)) (ne_eqb c 92 (λ e. omega arith))) is)

back-low : encode_utf8 92 ≡ 92 ∷ []
back-low = encode_ascii 92 (omega arith)

escape-end : (cs more inside rest : List ℕ) → ToEnd false true more inside rest → ToEnd false true (encode_utf8_all (escape cs) ++ more) (encode_utf8_all (escape cs) ++ inside) rest
escape-end [] more inside rest end = end
escape-end (c ∷ cs) more inside rest end = by_test (escape-end cs more inside rest end) (is_escaped c) refl
  where
    by_test : ToEnd false true (encode_utf8_all (escape cs) ++ more) (encode_utf8_all (escape cs) ++ inside) rest → (t : Bool) → is_escaped c ≡ t →
        ToEnd false true (encode_utf8_all (escape (c ∷ cs)) ++ more) (encode_utf8_all (escape (c ∷ cs)) ++ inside) rest
    by_test later true t = rw (t, back-low, escaped-low c t) (content.skipped later)
    by_test later false t =
        rw (t, append_assoc (encode_utf8 c) (encode_utf8_all (escape cs)) more, append_assoc (encode_utf8 c) (encode_utf8_all (escape cs)) inside)
        (inner-end (encode_utf8 c) (encode_utf8_all (escape cs) ++ more) (encode_utf8_all (escape cs) ++ inside) rest (inner-char c t) later)

escape-brace : (cs more inside rest : List ℕ) → ToBrace true more inside rest → ToBrace true (encode_utf8_all (escape cs) ++ more) (encode_utf8_all (escape cs) ++ inside) rest
escape-brace [] more inside rest end = end
escape-brace (c ∷ cs) more inside rest end = by_test (escape-brace cs more inside rest end) (is_escaped c) refl
  where
    by_test : ToBrace true (encode_utf8_all (escape cs) ++ more) (encode_utf8_all (escape cs) ++ inside) rest → (t : Bool) → is_escaped c ≡ t →
        ToBrace true (encode_utf8_all (escape (c ∷ cs)) ++ more) (encode_utf8_all (escape (c ∷ cs)) ++ inside) rest
    by_test later true t = rw (t, back-low, escaped-low c t) (brace.skipped later)
    by_test later false t =
        rw (t, append_assoc (encode_utf8 c) (encode_utf8_all (escape cs)) more, append_assoc (encode_utf8 c) (encode_utf8_all (escape cs)) inside)
        (inner-brace (encode_utf8 c) (encode_utf8_all (escape cs) ++ more) (encode_utf8_all (escape cs) ++ inside) rest (inner-char c t) later)

free-escape : (test : ℕ → Bool) (cs : List ℕ) → OnlyBreaks test → IsFree test cs → IsFree test (escape cs)
free-escape test [] only free = refl
free-escape test (c ∷ cs) only free = by_test (free-escape test cs only parts.1) (is_escaped c) refl
  where
    parts : (test c ≡ false) × IsFree test cs
    parts = or_parts (test c) (list_any test cs) free

    by_test : IsFree test (escape cs) → (t : Bool) → is_escaped c ≡ t → IsFree test (escape (c ∷ cs))
    by_test later true t =
        rw t (or_from (test 92) (list_any test (c ∷ escape cs)) (only.fails 92 refl) (or_from (test c) (list_any test (escape cs)) parts.0 later))
    by_test later false t = rw t (or_from (test c) (list_any test (escape cs)) parts.0 later)

-- a string between its quotes
pub passes-string : (cs : List ℕ) → Passes (34 ∷ (encode_utf8_all (escape cs) ++ 34 ∷ []))
passes-string cs =
    let own = encode_utf8_all (escape cs) in
    record {
      in_content = λ more inside rest end.
          rw (append_assoc own (34 ∷ []) more, append_assoc own (34 ∷ []) inside)
          (content.quote (escape-end cs (34 ∷ more) (34 ∷ inside) rest (content.quote end)));
    }

pub braces-string : (cs : List ℕ) → PassesBrace (34 ∷ (encode_utf8_all (escape cs) ++ 34 ∷ []))
braces-string cs =
    let own = encode_utf8_all (escape cs) in
    record {
      in_braces = λ more inside rest end.
          rw (append_assoc own (34 ∷ []) more, append_assoc own (34 ∷ []) inside)
          (brace.quote (escape-brace cs (34 ∷ more) (34 ∷ inside) rest (brace.quote end)));
    }

pub free-string : (test : ℕ → Bool) (cs : List ℕ) → OnlyBreaks test → IsFree test cs → IsFree test (34 ∷ (encode_utf8_all (escape cs) ++ 34 ∷ []))
free-string test cs only free =
    let own = encode_utf8_all (escape cs) in
    let one : test 34 ≡ false = only.fails 34 refl in
    or_from (test 34) (list_any test (own ++ 34 ∷ [])) one
    (free-append test own (34 ∷ []) (free-encodes test (escape cs) only ∙ free-escape test cs only free) (or_from (test 34) false one refl))

-- The bytes that no name has, blanks, `:` and `#` among them.
use Rattle.std.proofs.Common.{◌≡◌, ℕ, ◌<◌, ◌≤◌, List, [], ◌∷◌, length, get_or, Bool, true, false, ◌||◌, nat_eq, ◌⊎◌, inl, inr, chars, encode_utf8, encode_utf8_all, refl, sym, ap, ◌∙◌, arith, append-nil}
use Rattle.std.specs.List.{list_all, list_any}
use Rattle.std.specs.Str.{is_utf8}
use Rattle.std.proofs.lemmas.Bool.{eqb-true, or_cases, or_parts, or_from, and_parts, false_from_ne_true, cases_lt}
use Rattle.std.proofs.lemmas.List.{get_or_default}
use Rattle.std.proofs.lemmas.List.Folds.{list_any-append, list_any_none}
use Rattle.std.proofs.lemmas.Str.{encodes-chars, IsUtf8-from_is_utf8, inside_one}
use Rattle.unicode_ident.proofs.IdentLemmas.{is_xid_start-ascii, is_xid_continue-ascii}
use Rattle.yarn_base.specs.Name.{starts_name, continues_name, is_name_of}
use Rattle.yarn_lines.specs.Lines.{is_blank}
use Rattle.yarn_items.specs.Item.{is_name_text}

-- a blank, `:`, `>` or `#`
abbrev pub is_out : ℕ → Bool
is_out b = is_blank b || (nat_eq b 58 || (nat_eq b 62 || nat_eq b 35))

abbrev Small : ℕ → Type 0
Small c = ((c ≡ 32) ⊎ (c ≡ 9)) ⊎ ((c ≡ 58) ⊎ ((c ≡ 62) ⊎ (c ≡ 35)))

out-small : (c : ℕ) → is_out c ≡ true → Small c
out-small c is = by_blank (or_cases (is_blank c) (nat_eq c 58 || (nat_eq c 62 || nat_eq c 35)) is)
  where
    by_last : (nat_eq c 62 ≡ true) ⊎ (nat_eq c 35 ≡ true) → Small c
    by_last (inl e) = inr (inr (inl (eqb-true c 62 e)))
    by_last (inr e) = inr (inr (inr (eqb-true c 35 e)))

    by_colon : (nat_eq c 58 ≡ true) ⊎ ((nat_eq c 62 || nat_eq c 35) ≡ true) → Small c
    by_colon (inl e) = inr (inl (eqb-true c 58 e))
    by_colon (inr e) = by_last (or_cases (nat_eq c 62) (nat_eq c 35) e)

    by_one : (nat_eq c 32 ≡ true) ⊎ (nat_eq c 9 ≡ true) → Small c
    by_one (inl e) = inl (inl (eqb-true c 32 e))
    by_one (inr e) = inl (inr (eqb-true c 9 e))

    by_blank : (is_blank c ≡ true) ⊎ ((nat_eq c 58 || (nat_eq c 62 || nat_eq c 35)) ≡ true) → Small c
    by_blank (inl e) = by_one (or_cases (nat_eq c 32) (nat_eq c 9) e)
    by_blank (inr e) = by_colon (or_cases (nat_eq c 58) (nat_eq c 62 || nat_eq c 35) e)

-- a test that fails at each of them
record Refuses (test : ℕ → Bool) : Type 0 where
  pub space : test 32 ≡ false
  pub tab : test 9 ≡ false
  pub colon : test 58 ≡ false
  pub angle : test 62 ≡ false
  pub hash : test 35 ≡ false

starts : Refuses starts_name
starts = record {
  space = rw (is_xid_start-ascii 32 (omega arith)) refl;
  tab = rw (is_xid_start-ascii 9 (omega arith)) refl;
  colon = rw (is_xid_start-ascii 58 (omega arith)) refl;
  angle = rw (is_xid_start-ascii 62 (omega arith)) refl;
  hash = rw (is_xid_start-ascii 35 (omega arith)) refl;
}

continues : Refuses continues_name
continues = record {
  space = rw (is_xid_continue-ascii 32 (omega arith)) refl;
  tab = rw (is_xid_continue-ascii 9 (omega arith)) refl;
  colon = rw (is_xid_continue-ascii 58 (omega arith)) refl;
  angle = rw (is_xid_continue-ascii 62 (omega arith)) refl;
  hash = rw (is_xid_continue-ascii 35 (omega arith)) refl;
}

in-test : (test : ℕ → Bool) → Refuses test → (c : ℕ) → test c ≡ true → is_out c ≡ false
in-test test bad c is = false_from_ne_true (is_out c) (λ out. of (out-small c out))
  where
    of : Small c → ⊥
    of (inl (inl e)) = let h : true ≡ false = sym is ∙ ap test e ∙ bad.space in absurd cc
    of (inl (inr e)) = let h : true ≡ false = sym is ∙ ap test e ∙ bad.tab in absurd cc
    of (inr (inl e)) = let h : true ≡ false = sym is ∙ ap test e ∙ bad.colon in absurd cc
    of (inr (inr (inl e))) = let h : true ≡ false = sym is ∙ ap test e ∙ bad.angle in absurd cc
    of (inr (inr (inr e))) = let h : true ≡ false = sym is ∙ ap test e ∙ bad.hash in absurd cc

continues-in : (cs : List ℕ) → list_all continues_name cs ≡ true → list_any is_out cs ≡ false
continues-in [] is = refl
continues-in (c ∷ cs) is =
    let both = and_parts (continues_name c) (list_all continues_name cs) is in
    or_from (is_out c) (list_any is_out cs) (in-test continues_name continues c both.0) (continues-in cs both.1)

name-in : (cs : List ℕ) → is_name_of cs ≡ true → list_any is_out cs ≡ false
name-in [] is = refl
name-in (c ∷ cs) is =
    let both = and_parts (starts_name c) (list_all continues_name cs) is in
    or_from (is_out c) (list_any is_out cs) (in-test starts_name starts c both.0) (continues-in cs both.1)

high-in : (b : ℕ) → 128 ≤ b → is_out b ≡ false
high-in b high = false_from_ne_true (is_out b) (λ out. of (out-small b out))
  where
    of : Small b → ⊥
    of (inl (inl e)) = omega arith
    of (inl (inr e)) = omega arith
    of (inr (inl e)) = omega arith
    of (inr (inr (inl e))) = omega arith
    of (inr (inr (inr e))) = omega arith

-- the bytes of a character that is none of them
encode-in : (c : ℕ) → is_out c ≡ false → list_any is_out (encode_utf8 c) ≡ false
encode-in c fine = list_any_none is_out (encode_utf8 c) (λ k d lt. at k d lt (cases_lt (get_or (encode_utf8 c) k 0) 128))
  where
    at : (k d : ℕ) → k < length (encode_utf8 c) → (get_or (encode_utf8 c) k 0 < 128) ⊎ (128 ≤ get_or (encode_utf8 c) k 0) →
        is_out (get_or (encode_utf8 c) k d) ≡ false
    at k d lt (inl low) =
        let same = inside_one c [] (encode_utf8 c) k (sym (append-nil (encode_utf8 c))) lt low in
        ap is_out (get_or_default (encode_utf8 c) k d 0 lt ∙ sym same) ∙ fine
    at k d lt (inr high) = ap is_out (get_or_default (encode_utf8 c) k d 0 lt) ∙ high-in (get_or (encode_utf8 c) k 0) high

encodes-in : (cs : List ℕ) → list_any is_out cs ≡ false → list_any is_out (encode_utf8_all cs) ≡ false
encodes-in [] fine = refl
encodes-in (c ∷ cs) fine =
    let both = or_parts (is_out c) (list_any is_out cs) fine in
    list_any-append is_out (encode_utf8 c) (encode_utf8_all cs)
    ∙ or_from (list_any is_out (encode_utf8 c)) (list_any is_out (encode_utf8_all cs)) (encode-in c both.0) (encodes-in cs both.1)

-- no byte of a name is one of them
pub name-bytes : (bytes : List ℕ) → is_name_text bytes ≡ true → list_any is_out bytes ≡ false
name-bytes bytes is =
    let both = and_parts (is_utf8 bytes) (is_name_of (chars bytes)) is in
    ap (list_any is_out) (sym (encodes-chars bytes (IsUtf8-from_is_utf8 bytes both.0))) ∙ encodes-in (chars bytes) (name-in (chars bytes) both.1)

-- Parts of that.

record Inner (b : ℕ) : Type 0 where
  pub solid : is_blank b ≡ false
  pub no_colon : nat_eq b 58 ≡ false
  pub no_angle : nat_eq b 62 ≡ false
  pub no_hash : nat_eq b 35 ≡ false

inner : (b : ℕ) → is_out b ≡ false → Inner b
inner b fine =
    let first = or_parts (is_blank b) (nat_eq b 58 || (nat_eq b 62 || nat_eq b 35)) fine in
    let second = or_parts (nat_eq b 58) (nat_eq b 62 || nat_eq b 35) first.1 in
    let third = or_parts (nat_eq b 62) (nat_eq b 35) second.1 in
    record { solid = first.0; no_colon = second.0; no_angle = third.0; no_hash = third.1 }

pub in-solid : (b : ℕ) → is_out b ≡ false → is_blank b ≡ false
in-solid b fine = (inner b fine).solid

any-less : (p : ℕ → Bool) → ((b : ℕ) → is_out b ≡ false → p b ≡ false) → (bytes : List ℕ) → list_any is_out bytes ≡ false → list_any p bytes ≡ false
any-less p less [] fine = refl
any-less p less (b ∷ bytes) fine =
    let both = or_parts (is_out b) (list_any is_out bytes) fine in
    or_from (p b) (list_any p bytes) (less b both.0) (any-less p less bytes both.1)

abbrev pub is_hash : ℕ → Bool
is_hash b = nat_eq b 35

abbrev pub is_colon : ℕ → Bool
is_colon b = nat_eq b 58

pub in-no_colon : (bytes : List ℕ) → list_any is_out bytes ≡ false → list_any is_colon bytes ≡ false
in-no_colon = any-less is_colon (λ b fine. (inner b fine).no_colon)

pub in-no_hash : (bytes : List ℕ) → list_any is_out bytes ≡ false → list_any is_hash bytes ≡ false
in-no_hash = any-less is_hash (λ b fine. (inner b fine).no_hash)

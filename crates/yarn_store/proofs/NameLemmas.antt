-- No space, LF or CR stands in a variable.
use Rattle.std.proofs.Common.{◌≡◌, ℕ, ◌<◌, List, [], ◌∷◌, ◌++◌, length, get_or, Bool, true, false, ◌&&◌, ◌==◌, refl, sym, ap, ◌∙◌, arith, true≢false, subst, IsUtf8, take}
use Rattle.std.specs.Prelude.{◌≢◌}
use Rattle.std.specs.Str.{chars, NonePass}
use Rattle.std.specs.List.{list_all}
use Rattle.std.proofs.lemmas.Bool.{eqb-true}
use Rattle.std.proofs.lemmas.Str.{encodes-chars, IsUtf8-take, IsCharBoundary-before_ascii}
use Rattle.std.proofs.lemmas.Str.Pattern.{NoCharPasses-char}
use Rattle.unicode_ident.proofs.IdentLemmas.{is_xid_start-ascii, is_xid_continue-ascii}
use Rattle.yarn_base.specs.Name.{starts_name, continues_name, is_name_of, is_variable_of}

abbrev pub NoByte : ℕ → List ℕ → Type 0
NoByte b bytes = (i : ℕ) → i < length bytes → get_or bytes i 0 ≢ b

-- a character below 128 that stands in no variable
pub record IsForeign (b : ℕ) : Type 0 where
  pub ascii : b < 128
  pub sign : (36 == b) ≡ false
  pub starts : starts_name b ≡ false
  pub continues : continues_name b ≡ false

pub space_foreign : IsForeign 32
space_foreign = record { ascii = omega arith; sign = refl; starts = rw (is_xid_start-ascii 32 (omega arith)) refl; continues = rw (is_xid_continue-ascii 32 (omega arith)) refl }

pub lf_foreign : IsForeign 10
lf_foreign = record { ascii = omega arith; sign = refl; starts = rw (is_xid_start-ascii 10 (omega arith)) refl; continues = rw (is_xid_continue-ascii 10 (omega arith)) refl }

pub cr_foreign : IsForeign 13
cr_foreign = record { ascii = omega arith; sign = refl; starts = rw (is_xid_start-ascii 13 (omega arith)) refl; continues = rw (is_xid_continue-ascii 13 (omega arith)) refl }

and_both : (a b : Bool) → (a && b) ≡ true → (a ≡ true) × (b ≡ true)
and_both true true e = (refl, refl)
and_both true false e = absurd cc
and_both false b e = absurd cc

-- a character of which a test holds isn't one of which it doesn't
other : (test : ℕ → Bool) (b c : ℕ) → test b ≡ false → test c ≡ true → (c == b) ≡ false
other test b c fails passes = by (c == b) refl
  where
    by : (t : Bool) → (c == b) ≡ t → (c == b) ≡ false
    by true t = absurd (true≢false (sym passes ∙ ap test (eqb-true c b t) ∙ fails))
    by false t = t

none_continues : (b : ℕ) → IsForeign b → (cs : List ℕ) → list_all continues_name cs ≡ true → NonePass (λ d. d == b) cs
none_continues b foreign [] all = tt
none_continues b foreign (c ∷ cs) all =
    let both = and_both (continues_name c) (list_all continues_name cs) all in
    (other continues_name b c foreign.continues both.0, none_continues b foreign cs both.1)

none_name : (b : ℕ) → IsForeign b → (cs : List ℕ) → is_name_of cs ≡ true → NonePass (λ d. d == b) cs
none_name b foreign [] is = tt
none_name b foreign (c ∷ cs) is =
    let both = and_both (starts_name c) (list_all continues_name cs) is in
    (other starts_name b c foreign.starts both.0, none_continues b foreign cs both.1)

none_variable : (b : ℕ) → IsForeign b → (cs : List ℕ) → is_variable_of cs ≡ true → NonePass (λ d. d == b) cs
none_variable b foreign [] is = tt
none_variable b foreign (c ∷ cs) is =
    let both = and_both (c == 36) (is_name_of cs) is in
    let same : c ≡ 36 = eqb-true c 36 both.0 in
    (ap (λ x. x == b) same ∙ foreign.sign, none_name b foreign cs both.1)

pub variable_free : (b : ℕ) → IsForeign b → (name : List ℕ) → IsUtf8 name → is_variable_of (chars name) ≡ true → NoByte b name
variable_free b foreign name utf8 is i lt =
    NoCharPasses-char b name i (chars name, encodes-chars name utf8, none_variable b foreign (chars name) is) foreign.ascii lt

take_front : (a bytes : List ℕ) → take (length a) (a ++ bytes) ≡ a
take_front [] bytes = refl
take_front (x ∷ a) bytes = ap (λ l. x ∷ l) (take_front a bytes)

pub at_seam : (a : List ℕ) (b : ℕ) (bytes : List ℕ) → get_or (a ++ b ∷ bytes) (length a) 0 ≡ b
at_seam [] b bytes = refl
at_seam (x ∷ a) b bytes = at_seam a b bytes

pub within : (a : List ℕ) (b : ℕ) (bytes : List ℕ) → length a < length (a ++ b ∷ bytes)
within [] b bytes = omega arith
within (x ∷ a) b bytes = omega (arith, within a b bytes)

-- what stands before an ASCII byte of a text is a text
pub utf8_before : (a : List ℕ) (b : ℕ) (bytes : List ℕ) → b < 128 → IsUtf8 (a ++ b ∷ bytes) → IsUtf8 a
utf8_before a b bytes ascii utf8 =
    subst IsUtf8 (take_front a (b ∷ bytes))
    (IsUtf8-take (a ++ b ∷ bytes) (length a) utf8 (IsCharBoundary-before_ascii (a ++ b ∷ bytes) (length a) (within a b bytes) (omega (arith, at_seam a b bytes))))

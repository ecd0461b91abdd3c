-- The hashtags and the headers that are printed: each is what it was, and stands alone.
use Rattle.std.proofs.Common.{◌≡◌, ℕ, ◌<◌, List, [], ◌∷◌, ◌++◌, Bool, true, false, nat_eq, nat_lt, codes, refl, sym, ap, subst, ◌∙◌, arith, IsUtf8}
use Rattle.std.specs.List.{list_any}
use Rattle.std.specs.Str.{chars, is_utf8}
use Rattle.std.proofs.lemmas.Bool.{true≢false, eqb-true, not_from_false, or_from, and_parts, and_left, both_ways}
use Rattle.std.proofs.lemmas.Str.{chars-nil, IsUtf8-nil}
use Rattle.unicode_ident.proofs.IdentLemmas.{is_xid_start-ascii}
use Rattle.yarn_base.specs.Name.{is_name_of, starts_name}
use Rattle.yarn_lines.specs.Lines.{is_blank, past_leading}
use Rattle.yarn_items.specs.declared.item.Mode.{Mode}
use Rattle.yarn_items.specs.declared.item.Mode.TheVariants.{InHeaders, InBody}
use Rattle.yarn_items.specs.declared.item.Header.{Header}
use Rattle.yarn_items.specs.declared.item.Item.{Item}
use Rattle.yarn_items.specs.declared.item.Item.TheVariants as item
use Rattle.yarn_items.specs.Text.{trimmed}
use Rattle.yarn_items.specs.Item.{is_name_text, is_cr, IsHeader}
use Rattle.yarn_nodes.specs.Lines.{HasItem}
use Rattle.yarn_print.specs.Print.{value_text, header_line}
use Rattle.yarn_print.specs.PrintLaws.{StandsAlone}
use Rattle.yarn_print.proofs.PrintLines.{is_lf, IsFree, free-append, free-parts, free-tail, free-trimmed, ends_solid, ends_solid-behind, IsTight, no_byte, solid, tight-trimmed, trimmed-solid, without_trailing-solid, past_leading-solid}
use Rattle.yarn_print.proofs.PrintUtf8.{utf8-cons, utf8-header}

-- names

name-start : (b : ℕ) (bytes : List ℕ) → nat_lt b 128 ≡ true → is_name_of (chars (b ∷ bytes)) ≡ true → starts_name b ≡ true
unfolding chars
name-start b [] low named = (and_parts (starts_name b) true (rw low at named)).0
name-start b (c ∷ bytes) low named = (and_parts (starts_name b) _ (rw low at named)).0

no_start : (n b : ℕ) (bytes : List ℕ) → nat_lt n 128 ≡ true → starts_name n ≡ false → is_name_text (b ∷ bytes) ≡ true → nat_eq b n ≡ false
no_start n b bytes low bad named = by_test (nat_eq b n) refl
  where
    by_test : (t : Bool) → nat_eq b n ≡ t → nat_eq b n ≡ false
    by_test true t =
        let is = eqb-true b n t in
        let cut = and_parts (is_utf8 (b ∷ bytes)) (is_name_of (chars (b ∷ bytes))) named in
        let starts = name-start b bytes (rw is low) cut.1 in
        absurd (both_ways (starts_name b) (rw is bad) starts)
    by_test false t = t

space-start : starts_name 32 ≡ false
space-start = rw (is_xid_start-ascii 32 (omega arith)) refl

tab-start : starts_name 9 ≡ false
tab-start = rw (is_xid_start-ascii 9 (omega arith)) refl

slash-start : starts_name 47 ≡ false
slash-start = rw (is_xid_start-ascii 47 (omega arith)) refl

no_name : is_name_text [] ≡ true → ⊥
no_name named =
    let cut = and_parts (is_utf8 []) (is_name_of (chars [])) named in
    true≢false (sym cut.1 ∙ ap is_name_of chars-nil)

-- a line that is printed as that item
pub record IsPrinted (mode : Mode) (text : List ℕ) (own : Item) : Type 0 where
  pub alone : StandsAlone text
  pub has : HasItem mode text own

-- `---` and `===`

ascii : (a b c : ℕ) → a < 128 → b < 128 → c < 128 → IsUtf8 (a ∷ b ∷ c ∷ [])
ascii a b c one two three = utf8-cons a (b ∷ c ∷ []) one (utf8-cons b (c ∷ []) two (utf8-cons c [] three IsUtf8-nil))

pub printed-begins : IsPrinted InHeaders (codes "---") item.BodyBegins
printed-begins = record {
  alone = record { one = refl; bare = refl; some = λ e. absurd (cc); counts = refl; utf8 = ascii 45 45 45 (omega arith) (omega arith) (omega arith) };
  has = ([], (refl, (refl, refl)));
}

pub printed-ends : IsPrinted InBody (codes "===") item.NodeEnds
printed-ends = record {
  alone = record { one = refl; bare = refl; some = λ e. absurd (cc); counts = refl; utf8 = ascii 61 61 61 (omega arith) (omega arith) (omega arith) };
  has = ([], (refl, (refl, refl)));
}

-- hashtags of a file

pub printed-tag : (text tag : List ℕ) → StandsAlone text → HasItem InHeaders text (item.FileTag tag) → IsPrinted InHeaders (35 ∷ tag) (item.FileTag tag)
printed-tag text tag alone has =
    subst (λ t. IsPrinted InHeaders t (item.FileTag tag)) has.1.1.0.split (record { alone = alone; has = has })

-- headers

value_back : {value : List ℕ} → IsTight value → value ≡ trimmed (value_text value)
value_back no_byte = refl
value_back (solid {b} {bytes} begins ends) =
    sym (ap past_leading (without_trailing-solid (32 ∷ b ∷ bytes) ends) ∙ past_leading-solid (b ∷ bytes) begins)

value_ends : {value : List ℕ} → IsTight value → ends_solid (58 ∷ value_text value) ≡ true
value_ends no_byte = refl
value_ends (solid begins ends) = ends

free-value : (test : ℕ → Bool) (value : List ℕ) → test 58 ≡ false → test 32 ≡ false → IsFree test value → IsFree test (58 ∷ value_text value)
free-value test [] colon blank whole = or_from (test 58) false colon refl
free-value test (b ∷ value) colon blank whole = or_from (test 58) (list_any test (32 ∷ b ∷ value)) colon (or_from (test 32) (list_any test (b ∷ value)) blank whole)

free-header : (test : ℕ → Bool) (text key value : List ℕ) → test 58 ≡ false → test 32 ≡ false → IsFree test text → IsHeader text key value → IsFree test (key ++ 58 ∷ value_text value)
free-header test text key value colon blank whole is =
    let parts = free-parts test key (is.blanks ++ 58 ∷ is.rest) (subst (IsFree test) is.split whole) in
    let behind = free-tail test 58 is.rest (free-parts test is.blanks (58 ∷ is.rest) parts.1).1 in
    let words = subst (IsFree test) (sym is.valued) (free-trimmed test is.rest behind) in
    free-append test key (58 ∷ value_text value) parts.0 (free-value test value colon blank words)

again-header : (text key value : List ℕ) → StandsAlone text → list_any is_cr text ≡ false → IsHeader text key value →
    IsPrinted InHeaders (key ++ 58 ∷ value_text value) (item.Header (record { key = key; value = value }))
again-header text [] value alone no_cr is = absurd (no_name is.named)
again-header text (b ∷ key) value alone no_cr is = of (subst IsTight (sym is.valued) (tight-trimmed is.rest))
  where
    not_blank : is_blank b ≡ false
    not_blank = or_from (nat_eq b 32) (nat_eq b 9) (no_start 32 b key refl space-start is.named) (no_start 9 b key refl tab-start is.named)

    line : List ℕ
    line = (b ∷ key) ++ 58 ∷ value_text value

    of : IsTight value → IsPrinted InHeaders line (item.Header (record { key = b ∷ key; value = value }))
    of tight = record {
      alone = record {
        one = free-header is_lf text (b ∷ key) value refl refl alone.one is;
        bare = trimmed-solid line (not_from_false (is_blank b) not_blank) (ends_solid-behind (b ∷ key) (58 ∷ value_text value) (value_ends tight));
        some = λ e. absurd (cc);
        counts = and_left (nat_eq b 47) _ (no_start 47 b key refl slash-start is.named);
        utf8 = utf8-header text (b ∷ key) value alone.utf8 is;
      };
      has = (
        [],
        (
          free-header is_cr text (b ∷ key) value refl refl no_cr is,
          (record { blanks = []; rest = value_text value; split = refl; named = is.named; between = refl; valued = value_back tight }, refl),
        ),
      );
    }

pub printed-header : (text : List ℕ) (header : Header) → StandsAlone text → HasItem InHeaders text (item.Header header) → IsPrinted InHeaders (header_line header) (item.Header header)
printed-header text header alone has = again-header text header.key header.value alone has.1.0 has.1.1.0

-- A line with a tag: its number and its indent are those of the line, and its text is the text with an id.
use Rattle.std.proofs.Common.{◌≡◌, ℕ, zero, suc, ◌+◌, ◌/◌, ◌%◌, ◌≤◌, ◌<◌, List, [], ◌∷◌, ◌++◌, length, take, drop, get_or, Bool, true, false, not, cond, ◌&&◌, nat_eq, nat_lt, codes, ◌⊎◌, inl, inr, refl, sym, ap, ◌∙◌, subst, append_assoc, append-nil, arith, IsUtf8}
use Rattle.std.specs.List.{list_all, list_any}
use Rattle.std.proofs.lemmas.Bool.{true≢false, eqb-true, and_parts, or_parts, or_from}
use Rattle.std.proofs.lemmas.List.{take_at, drop_at, length-append}
use Rattle.std.proofs.lemmas.List.Folds.{list_any-append}
use Rattle.std.proofs.lemmas.Str.{IsUtf8-append, IsUtf8-nil, IsUtf8-from_ascii}
use Rattle.yarn_lines.specs.Lines.{is_blank, begins_with, without_cr, without_trailing, past_leading, leading, width, content, indent_of, text_of, counts}
use Rattle.yarn_items.specs.Item.{is_cr}
use Rattle.yarn_items.specs.Text.{is_tag_byte, is_id}
use Rattle.yarn_items.specs.Text as text
use Rattle.yarn_items.proofs.BlankLemmas.{leading-split, leading-blank}
use Rattle.yarn_items.proofs.TrailingLemmas.{blank-unlike, without_trailing-more}
use Rattle.yarn_items.proofs.Utf8Lemmas.{BeginsAscii, split-utf8, blank-ascii, Trailing, trailing, begins-first}
use Rattle.yarn_tree.specs.Scan.{end_of}
use Rattle.yarn_tag.specs.Tagged.{digit, digits, id_of, tag_before}
use Rattle.yarn_tag.proofs.TagText.{ends_solid, ends_solid-behind, without_trailing-solid, IsShut, no_byte, shut, IsRest, gap, put, IsSolid, tag_solid}
use Rattle.yarn_tag.proofs.TagLine.{IsId, begins-two}
use Rattle.yarn_tag.proofs.TagBytes.{place_in, piece_with}

-- an LF
abbrev pub is_lf : ℕ → Bool
is_lf b = nat_eq b 10

-- ---- the bytes of a tag

digit-high : (d : ℕ) → 48 ≤ digit d
digit-high d = of (nat_lt d 10)
  where
    of : (t : Bool) → 48 ≤ cond t (48 + d) (87 + d)
    of true = omega arith
    of false = omega arith

digit-low : (d : ℕ) → d < 16 → digit d < 128
digit-low d less = of (nat_lt d 10)
  where
    of : (t : Bool) → cond t (48 + d) (87 + d) < 128
    of true = omega (arith, less)
    of false = omega (arith, less)

high-other : (b k : ℕ) → 48 ≤ b → k < 48 → nat_eq b k ≡ false
high-other b k high low = of (nat_eq b k) refl
  where
    of : (t : Bool) → nat_eq b k ≡ t → nat_eq b k ≡ false
    of true t = let e = eqb-true b k t in absurd (omega arith)
    of false t = t

digit-other : (k d : ℕ) → k < 48 → nat_eq (digit d) k ≡ false
digit-other k d low = high-other (digit d) k (digit-high d) low

digit-tag : (d : ℕ) → is_tag_byte (digit d) ≡ true
digit-tag d = rw (digit-other 32 d (omega arith), digit-other 9 d (omega arith), digit-other 35 d (omega arith)) refl

module _ (test : ℕ → Bool) where
  seven-all : ((d : ℕ) → test (digit d) ≡ true) → (a b c d e f g : ℕ) →
      list_all test (digit a ∷ digit b ∷ digit c ∷ digit d ∷ digit e ∷ digit f ∷ digit g ∷ []) ≡ true
  seven-all all a b c d e f g = rw (all a, all b, all c, all d, all e, all f, all g) refl

  seven-none : ((d : ℕ) → test (digit d) ≡ false) → (a b c d e f g : ℕ) →
      list_any test (digit a ∷ digit b ∷ digit c ∷ digit d ∷ digit e ∷ digit f ∷ digit g ∷ []) ≡ false
  seven-none none a b c d e f g = rw (none a, none b, none c, none d, none e, none f, none g) refl

  digits-all : ((d : ℕ) → test (digit d) ≡ true) → (n : ℕ) → list_all test (digits n) ≡ true
  digits-all all n = seven-all all (n / 16777216 % 16) (n / 1048576 % 16) (n / 65536 % 16) (n / 4096 % 16) (n / 256 % 16) (n / 16 % 16) (n % 16)

  digits-none : ((d : ℕ) → test (digit d) ≡ false) → (n : ℕ) → list_any test (digits n) ≡ false
  digits-none none n = seven-none none (n / 16777216 % 16) (n / 1048576 % 16) (n / 65536 % 16) (n / 4096 % 16) (n / 256 % 16) (n / 16 % 16) (n % 16)

id-free : (k n : ℕ) → k < 48 → list_any (λ b. nat_eq b k) (codes "line:") ≡ false → list_any (λ b. nat_eq b k) (id_of n) ≡ false
id-free k n low head =
    list_any-append (λ b. nat_eq b k) (codes "line:") (digits n)
    ∙ or_from _ _ head (digits-none (λ b. nat_eq b k) (λ d. digit-other k d low) n)

pub id-solid : (n : ℕ) → IsSolid (id_of n)
id-solid n = record { first = 108; own = 105 ∷ 110 ∷ 101 ∷ 58 ∷ digits n; is = refl; solid = digits-all is_tag_byte digit-tag n }

pub id-is : (n : ℕ) → IsId (id_of n)
id-is n = record { solid = id-solid n; is = refl; own = refl; no_cr = id-free 13 n (omega arith) refl }

-- bytes of ASCII
utf8-one : (c : ℕ) → c < 128 → IsUtf8 (c ∷ [])
utf8-one c low = IsUtf8-from_ascii (c ∷ []) below
  where
    below : (i : ℕ) → get_or (c ∷ []) i 0 < 128
    below zero = low
    below (suc i) = omega arith

utf8-cons : (c : ℕ) (bytes : List ℕ) → c < 128 → IsUtf8 bytes → IsUtf8 (c ∷ bytes)
utf8-cons c bytes low more = IsUtf8-append (c ∷ []) bytes (utf8-one c low) more

seven-utf8 : (a b c d e f g : ℕ) → a < 16 → b < 16 → c < 16 → d < 16 → e < 16 → f < 16 → g < 16 →
    IsUtf8 (digit a ∷ digit b ∷ digit c ∷ digit d ∷ digit e ∷ digit f ∷ digit g ∷ [])
seven-utf8 a b c d e f g al bl cl dl el fl gl =
    utf8-cons _ _ (digit-low a al) (utf8-cons _ _ (digit-low b bl) (utf8-cons _ _ (digit-low c cl) (utf8-cons _ _ (digit-low d dl)
    (utf8-cons _ _ (digit-low e el) (utf8-cons _ _ (digit-low f fl) (utf8-cons _ _ (digit-low g gl) IsUtf8-nil))))))

below_16 : (x : ℕ) → x % 16 < 16
below_16 x = omega arith

id-utf8 : (n : ℕ) → IsUtf8 (id_of n)
id-utf8 n = IsUtf8-append (codes "line:") (digits n) head (seven-utf8 (n / 16777216 % 16) (n / 1048576 % 16) (n / 65536 % 16) (n / 4096 % 16) (n / 256 % 16) (n / 16 % 16) (n % 16) (below_16 _) (below_16 _) (below_16 _) (below_16 _) (below_16 _) (below_16 _) (below_16 _))
  where
    head : IsUtf8 (codes "line:")
    head = utf8-cons 108 _ (omega arith) (utf8-cons 105 _ (omega arith) (utf8-cons 110 _ (omega arith) (utf8-cons 101 _ (omega arith) (utf8-cons 58 _ (omega arith) IsUtf8-nil))))

-- ---- a line: its text behind blanks, and what stands behind it

cr-cut : (piece : List ℕ) → (cr : List ℕ) × (piece ≡ without_cr piece ++ cr) × ((cr ≡ []) ⊎ (cr ≡ 13 ∷ []))
cr-cut [] = ([], refl, inl refl)
cr-cut (b ∷ []) = of (nat_eq b 13) refl
  where
    of : (t : Bool) → nat_eq b 13 ≡ t → (cr : List ℕ) × (b ∷ [] ≡ without_cr (b ∷ []) ++ cr) × ((cr ≡ []) ⊎ (cr ≡ 13 ∷ []))
    of true t = (13 ∷ [], rw t (ap (λ (c : ℕ). c ∷ []) (eqb-true b 13 t)), inr refl)
    of false t = ([], rw t refl, inl refl)
cr-cut (b ∷ c ∷ piece) = let r = cr-cut (c ∷ piece) in (r.0, ap (λ (l : List ℕ). b ∷ l) r.1, r.2)

free-behind : (test : ℕ → Bool) (b : ℕ) (bytes : List ℕ) → list_any test (b ∷ bytes) ≡ false → list_any test bytes ≡ false
free-behind test b bytes whole = (or_parts (test b) (list_any test bytes) whole).1

without_cr-free : (bytes : List ℕ) → list_any is_cr bytes ≡ false → without_cr bytes ≡ bytes
without_cr-free [] whole = refl
without_cr-free (b ∷ []) whole = let first = (or_parts (is_cr b) false whole).0 in rw first refl
without_cr-free (b ∷ c ∷ bytes) whole = ap (λ l. b ∷ l) (without_cr-free (c ∷ bytes) (free-behind is_cr b (c ∷ bytes) whole))

without_cr-last : (bytes : List ℕ) → without_cr (bytes ++ 13 ∷ []) ≡ bytes
without_cr-last [] = refl
without_cr-last (b ∷ []) = refl
without_cr-last (b ∷ c ∷ bytes) = ap (λ l. b ∷ l) (without_cr-last (c ∷ bytes))

blanks-free : (k : ℕ) (blanks : List ℕ) → nat_eq 32 k ≡ false → nat_eq 9 k ≡ false → list_all is_blank blanks ≡ true → list_any (λ b. nat_eq b k) blanks ≡ false
blanks-free k [] space tab all = refl
blanks-free k (b ∷ blanks) space tab all =
    let parts = and_parts (is_blank b) (list_all is_blank blanks) all in
    or_from (nat_eq b k) (list_any (λ c. nat_eq c k) blanks) (blank-unlike k b space tab parts.0) (blanks-free k blanks space tab parts.1)

free-append : (test : ℕ → Bool) (front back : List ℕ) → list_any test front ≡ false → list_any test back ≡ false → list_any test (front ++ back) ≡ false
free-append test front back one two = list_any-append test front back ∙ or_from (list_any test front) (list_any test back) one two

free-parts : (test : ℕ → Bool) (front back : List ℕ) → list_any test (front ++ back) ≡ false → (list_any test front ≡ false) × (list_any test back ≡ false)
free-parts test front back whole = or_parts (list_any test front) (list_any test back) (sym (list_any-append test front back) ∙ whole)

-- what stands behind the content of a line
pub record CutPiece (piece : List ℕ) : Type 0 where
  pub trail : List ℕ
  pub cut : piece ≡ content piece ++ trail
  pub low : BeginsAscii trail
  pub again : (c : List ℕ) → list_any is_cr c ≡ false → ends_solid c ≡ true → content (c ++ trail) ≡ c

blanks-low : (blanks more : List ℕ) → list_all is_blank blanks ≡ true → BeginsAscii more → BeginsAscii (blanks ++ more)
blanks-low [] more all low = low
blanks-low (b ∷ blanks) more all low = blank-ascii b (and_parts (is_blank b) (list_all is_blank blanks) all).0

pub cut-piece : (piece : List ℕ) → CutPiece piece
cut-piece piece = of (cr-cut piece) (trailing (without_cr piece))
  where
    of : (cr : List ℕ) × (piece ≡ without_cr piece ++ cr) × ((cr ≡ []) ⊎ (cr ≡ 13 ∷ [])) → Trailing (without_cr piece) → CutPiece piece
    of r t = record {
      trail = t.blanks ++ r.0;
      cut = r.1 ∙ ap (λ (l : List ℕ). l ++ r.0) t.split ∙ append_assoc (content piece) t.blanks r.0;
      low = blanks-low t.blanks r.0 t.between (low r.2);
      again = λ c free solid.
          ap content (sym (append_assoc c t.blanks r.0))
          ∙ ap without_trailing (without r.2 (c ++ t.blanks) (free-append is_cr c t.blanks free (blanks-free 13 t.blanks refl refl t.between)))
          ∙ without_trailing-more c t.blanks t.between
          ∙ without_trailing-solid c solid;
    }
      where
        low : (r.0 ≡ []) ⊎ (r.0 ≡ 13 ∷ []) → BeginsAscii r.0
        low (inl e) = subst BeginsAscii (sym e) tt
        low (inr e) = let h : BeginsAscii (13 ∷ []) = omega arith in subst BeginsAscii (sym e) h

        without : (r.0 ≡ []) ⊎ (r.0 ≡ 13 ∷ []) → (l : List ℕ) → list_any is_cr l ≡ false → without_cr (l ++ r.0) ≡ l
        without (inl e) l free = ap (λ (x : List ℕ). without_cr (l ++ x)) e ∙ ap without_cr (append-nil l) ∙ without_cr-free l free
        without (inr e) l free = ap (λ (x : List ℕ). without_cr (l ++ x)) e ∙ without_cr-last l

-- the text begins and ends with no blank

past-begins : (bytes : List ℕ) (b : ℕ) (more : List ℕ) → past_leading bytes ≡ b ∷ more → is_blank b ≡ false
past-begins [] b more is = absurd cc
past-begins (c ∷ bytes) b more is = of (past-begins bytes b more) (is_blank c) refl
  where
    first_of : List ℕ → ℕ
    first_of [] = 0
    first_of (x ∷ xs) = x

    of : (past_leading bytes ≡ b ∷ more → is_blank b ≡ false) → (t : Bool) → is_blank c ≡ t → is_blank b ≡ false
    of later true t = later (rw t at is)
    of later false t =
        let e : c ≡ b = ap first_of (rw t at is) in
        ap is_blank (sym e) ∙ t

shut-without_trailing : (bytes : List ℕ) → IsShut (without_trailing bytes)
shut-without_trailing [] = no_byte
shut-without_trailing (b ∷ bytes) = by_all (shut-without_trailing bytes) (list_all is_blank (b ∷ bytes)) refl
  where
    some_left : (l : List ℕ) → (list_all is_blank l ≡ false) → IsShut (without_trailing l) → ends_solid (b ∷ without_trailing l) ≡ true
    some_left [] none is = absurd (true≢false none)
    some_left (c ∷ l) none is = let h = rw none at is in rw none (ends h)
      where
        ends : {x : List ℕ} → IsShut (c ∷ x) → ends_solid (c ∷ x) ≡ true
        ends (shut is) = is

    by_rest : IsShut (without_trailing bytes) → (t : Bool) → list_all is_blank bytes ≡ t → list_all is_blank (b ∷ bytes) ≡ false → ends_solid (b ∷ without_trailing bytes) ≡ true
    by_rest later true t none =
        let blank : is_blank b ≡ false = sym (and_true (is_blank b)) ∙ ap (λ (u : Bool). is_blank b && u) (sym t) ∙ none in
        let nothing : without_trailing bytes ≡ [] = all_blank bytes t in
        ap (λ (l : List ℕ). ends_solid (b ∷ l)) nothing ∙ ap not blank
      where
        and_true : (u : Bool) → (u && true) ≡ u
        and_true true = refl
        and_true false = refl

        all_blank : (l : List ℕ) → list_all is_blank l ≡ true → without_trailing l ≡ []
        all_blank [] is = refl
        all_blank (c ∷ l) is = rw is refl
    by_rest later false t none = some_left bytes t later

    by_all : IsShut (without_trailing bytes) → (t : Bool) → list_all is_blank (b ∷ bytes) ≡ t → IsShut (without_trailing (b ∷ bytes))
    by_all later true t = rw t no_byte
    by_all later false t = rw t (shut (by_rest later (list_all is_blank bytes) refl t))

ends_solid-part : (front : List ℕ) (b : ℕ) (more : List ℕ) → ends_solid (front ++ b ∷ more) ≡ ends_solid (b ∷ more)
ends_solid-part [] b more = refl
ends_solid-part (a ∷ []) b more = refl
ends_solid-part (a ∷ c ∷ front) b more = ends_solid-part (c ∷ front) b more

leading-blanks : (blanks : List ℕ) (b : ℕ) (more : List ℕ) → list_all is_blank blanks ≡ true → is_blank b ≡ false → leading (blanks ++ b ∷ more) ≡ blanks
leading-blanks [] b more all solid = rw solid refl
leading-blanks (c ∷ blanks) b more all solid =
    let parts = and_parts (is_blank c) (list_all is_blank blanks) all in
    let first = parts.0 in
    rw first (ap (λ l. c ∷ l) (leading-blanks blanks b more parts.1 solid))

past-blanks : (blanks : List ℕ) (b : ℕ) (more : List ℕ) → list_all is_blank blanks ≡ true → is_blank b ≡ false → past_leading (blanks ++ b ∷ more) ≡ b ∷ more
past-blanks [] b more all solid = rw solid refl
past-blanks (c ∷ blanks) b more all solid =
    let parts = and_parts (is_blank c) (list_all is_blank blanks) all in
    let first = parts.0 in
    rw first (past-blanks blanks b more parts.1 solid)

-- ---- a line with a tag

-- a text with the id of a number
abbrev pub text_with : ℕ → List ℕ → List ℕ
text_with n text = take (end_of text) text ++ (tag_before (drop (end_of text) text) n ++ drop (end_of text) text)

-- a text that ends there, and may have an id there
pub record FineText (text : List ℕ) : Type 0 where
  pub front : List ℕ
  pub back : List ℕ
  pub cut : text ≡ front ++ back
  pub at : end_of text ≡ length front
  pub some : front ≡ [] → ⊥
  pub rest : IsRest back
  pub no_cr : list_any is_cr text ≡ false

pub tag-put : (n : ℕ) (back : List ℕ) → tag_before back n ++ back ≡ put (id_of n) back
tag-put n back = ap (λ (l : List ℕ). 32 ∷ 35 ∷ l) (append_assoc (id_of n) (gap back) back)

pub with-put : (n : ℕ) (text : List ℕ) (f : FineText text) → text_with n text ≡ f.front ++ put (id_of n) f.back
with-put n text f =
    let one : take (end_of text) text ≡ f.front = ap (λ (m : ℕ). take m text) f.at ∙ ap (take (length f.front)) f.cut ∙ take_at f.front f.back (length f.front) refl in
    let two : drop (end_of text) text ≡ f.back = ap (λ (m : ℕ). drop m text) f.at ∙ ap (drop (length f.front)) f.cut ∙ drop_at f.front f.back (length f.front) refl in
    ap (λ (l : List ℕ). l ++ (tag_before (drop (end_of text) text) n ++ drop (end_of text) text)) one
    ∙ ap (λ (l : List ℕ). f.front ++ (tag_before l n ++ l)) two
    ∙ ap (λ (l : List ℕ). f.front ++ l) (tag-put n f.back)

rest-low : {back : List ℕ} {tags : List (List ℕ)} (trail : List ℕ) → BeginsAscii trail → text.Tags back tags → BeginsAscii (back ++ trail)
rest-low trail low text.no_tag = low
rest-low trail low (text.comment {bytes} is) = of bytes is
  where
    of : (l : List ℕ) → begins_with (codes "//") l ≡ true → BeginsAscii (l ++ trail)
    of [] e = absurd (true≢false (sym e))
    of (b ∷ l) e = let h = begins-first 47 b (47 ∷ []) l e in omega (arith, h)
rest-low trail low (text.blank {b} is later) = blank-ascii b is
rest-low trail low (text.tag solid ended later) = omega arith

put-free : (test : ℕ → Bool) (id back : List ℕ) → test 32 ≡ false → test 35 ≡ false → list_any test id ≡ false → list_any test back ≡ false → list_any test (put id back) ≡ false
put-free test id back space hash own rest =
    or_from (test 32) _ space (or_from (test 35) _ hash (free-append test id (gap back ++ back) own (free-append test (gap back) back (gap_free (begins_with (codes "//") back)) rest)))
  where
    gap_free : (t : Bool) → list_any test (cond t (32 ∷ []) []) ≡ false
    gap_free true = or_from (test 32) false space refl
    gap_free false = refl

put-ends : (n : ℕ) (front back : List ℕ) → ends_solid (front ++ back) ≡ true → ends_solid (put (id_of n) back) ≡ true
put-ends n front [] is = ap (λ (l : List ℕ). ends_solid (32 ∷ 35 ∷ l)) (append-nil (id_of n)) ∙ tag_solid (105 ∷ 110 ∷ 101 ∷ 58 ∷ digits n) 108 (id-solid n).solid
put-ends n front (b ∷ back) is =
    ap (λ (l : List ℕ). ends_solid (32 ∷ 35 ∷ l)) (sym (append_assoc (id_of n) (gap (b ∷ back)) (b ∷ back)))
    ∙ ends_solid-part (32 ∷ 35 ∷ (id_of n ++ gap (b ∷ back))) b back
    ∙ sym (ends_solid-part front b back)
    ∙ is

-- no CR is put
pub with-no_cr : (n : ℕ) (text : List ℕ) → FineText text → list_any is_cr (text_with n text) ≡ false
with-no_cr n text f =
    let parts = free-parts is_cr f.front f.back (ap (list_any is_cr) (sym f.cut) ∙ f.no_cr) in
    ap (list_any is_cr) (with-put n text f)
    ∙ free-append is_cr f.front (put (id_of n) f.back) parts.0 (put-free is_cr (id_of n) f.back refl refl (id-free 13 n (omega arith) refl) parts.1)

-- a line that counts, with a tag: what stands before the tag and behind it, and the line that it is
pub record PieceWith (n : ℕ) (piece : List ℕ) : Type 0 where
  pub front : List ℕ
  pub back : List ℕ
  pub cut : piece ≡ front ++ back
  pub with : piece_with n piece ≡ front ++ (tag_before (drop (end_of (text_of piece)) (text_of piece)) n ++ back)
  pub low : BeginsAscii back
  pub text : text_of (piece_with n piece) ≡ text_with n (text_of piece)
  pub indent : indent_of (piece_with n piece) ≡ indent_of piece
  pub counted : counts (text_of (piece_with n piece)) ≡ true

counts-first : (text : List ℕ) → counts text ≡ true → (b : ℕ) × (more : List ℕ) × (text ≡ b ∷ more) × (begins_with (codes "//") text ≡ false)
counts-first [] is = absurd (true≢false (sym is))
counts-first (b ∷ more) is = of (begins_with (codes "//") (b ∷ more)) refl
  where
    of : (t : Bool) → begins_with (codes "//") (b ∷ more) ≡ t → (c : ℕ) × (l : List ℕ) × (b ∷ more ≡ c ∷ l) × (begins_with (codes "//") (b ∷ more) ≡ false)
    of true t = absurd (true≢false (sym (rw t at is)))
    of false t = (b, more, refl, t)

pub piece-with : (n : ℕ) (piece : List ℕ) → counts (text_of piece) ≡ true → FineText (text_of piece) → PieceWith n piece
piece-with n piece is f = of (cut-piece piece) (counts-first (text_of piece) is) f.front refl
  where
    own : List ℕ
    own = text_of piece

    lead : List ℕ
    lead = leading (content piece)

    inner : content piece ≡ lead ++ own
    inner = leading-split (content piece)

    of : CutPiece piece → (b : ℕ) × (more : List ℕ) × (own ≡ b ∷ more) × (begins_with (codes "//") own ≡ false) → (front : List ℕ) → f.front ≡ front → PieceWith n piece
    of c first [] e = absurd (f.some e)
    of c first (a ∷ more) e = record {
      front = lead ++ f.front;
      back = f.back ++ c.trail;
      cut = cut;
      with = with_tag;
      low = rest-low c.trail c.low f.rest;
      text = ap past_leading content_is ∙ ap (λ (l : List ℕ). past_leading (lead ++ l)) begins ∙ past-blanks lead a _ (leading-blank (content piece)) solid ∙ sym begins ∙ sym same_text;
      indent =
          ap (λ (l : List ℕ). width (leading l)) content_is
          ∙ ap (λ (l : List ℕ). width (leading (lead ++ l))) begins
          ∙ ap width (leading-blanks lead a _ (leading-blank (content piece)) solid);
      counted = counted;
    }
      where
        new : List ℕ
        new = f.front ++ put (id_of n) f.back

        same_text : text_with n own ≡ new
        same_text = with-put n own f

        begins : new ≡ a ∷ (more ++ put (id_of n) f.back)
        begins = ap (λ (l : List ℕ). l ++ put (id_of n) f.back) e

        solid : is_blank a ≡ false
        solid = past-begins (content piece) a (more ++ f.back) (f.cut ∙ ap (λ (l : List ℕ). l ++ f.back) e)

        cut : piece ≡ (lead ++ f.front) ++ (f.back ++ c.trail)
        cut =
            c.cut
            ∙ ap (λ (l : List ℕ). l ++ c.trail) (inner ∙ ap (λ (l : List ℕ). lead ++ l) f.cut ∙ sym (append_assoc lead f.front f.back))
            ∙ append_assoc (lead ++ f.front) f.back c.trail

        place : length (lead ++ f.front) ≡ place_in piece
        place = length-append lead f.front ∙ ap (λ (m : ℕ). length lead + m) (sym f.at)

        tag : List ℕ
        tag = tag_before (drop (end_of own) own) n

        with_tag : piece_with n piece ≡ (lead ++ f.front) ++ (tag ++ (f.back ++ c.trail))
        with_tag =
            let one : take (place_in piece) piece ≡ lead ++ f.front = ap (take (place_in piece)) cut ∙ take_at (lead ++ f.front) (f.back ++ c.trail) (place_in piece) place in
            let two : drop (place_in piece) piece ≡ f.back ++ c.trail = ap (drop (place_in piece)) cut ∙ drop_at (lead ++ f.front) (f.back ++ c.trail) (place_in piece) place in
            ap (λ (l : List ℕ). l ++ (tag ++ drop (place_in piece) piece)) one ∙ ap (λ (l : List ℕ). (lead ++ f.front) ++ (tag ++ l)) two

        behind : drop (end_of own) own ≡ f.back
        behind = ap (λ (m : ℕ). drop m own) f.at ∙ ap (drop (length f.front)) f.cut ∙ drop_at f.front f.back (length f.front) refl

        spread : piece_with n piece ≡ (lead ++ new) ++ c.trail
        spread =
            with_tag
            ∙ ap (λ (l : List ℕ). (lead ++ f.front) ++ (tag_before l n ++ (f.back ++ c.trail))) behind
            ∙ ap (λ (l : List ℕ). (lead ++ f.front) ++ l) (sym (append_assoc (tag_before f.back n) f.back c.trail) ∙ ap (λ (l : List ℕ). l ++ c.trail) (tag-put n f.back))
            ∙ sym (append_assoc (lead ++ f.front) (put (id_of n) f.back) c.trail)
            ∙ ap (λ (l : List ℕ). l ++ c.trail) (append_assoc lead f.front (put (id_of n) f.back))

        no_cr : list_any is_cr (lead ++ new) ≡ false
        no_cr =
            let parts = free-parts is_cr f.front f.back (ap (list_any is_cr) (sym f.cut) ∙ f.no_cr) in
            free-append is_cr lead new (blanks-free 13 lead refl refl (leading-blank (content piece)))
            (free-append is_cr f.front (put (id_of n) f.back) parts.0 (put-free is_cr (id_of n) f.back refl refl (id-free 13 n (omega arith) refl) parts.1))

        own_ends : ends_solid (f.front ++ f.back) ≡ true
        own_ends = by_shut (shut-without_trailing (without_cr piece)) refl
          where
            first_part : ends_solid (lead ++ (f.front ++ f.back)) ≡ ends_solid (f.front ++ f.back)
            first_part =
                ap (λ (l : List ℕ). ends_solid (lead ++ (l ++ f.back))) e ∙ ends_solid-part lead a (more ++ f.back) ∙ ap (λ (l : List ℕ). ends_solid (l ++ f.back)) (sym e)

            whole : content piece ≡ lead ++ (f.front ++ f.back)
            whole = inner ∙ ap (λ (l : List ℕ). lead ++ l) f.cut

            nothing : (l : List ℕ) → [] ≡ lead ++ (l ++ f.back) → l ≡ a ∷ more → ends_solid (f.front ++ f.back) ≡ true
            nothing l none at = absurd (empty lead (none ∙ ap (λ (x : List ℕ). lead ++ (x ++ f.back)) at))
              where
                empty : (x : List ℕ) → [] ≡ x ++ ((a ∷ more) ++ f.back) → ⊥
                empty [] z = absurd cc
                empty (y ∷ x) z = absurd cc

            by_shut : {l : List ℕ} → IsShut l → l ≡ content piece → ends_solid (f.front ++ f.back) ≡ true
            by_shut no_byte z = nothing f.front (z ∙ whole) e
            by_shut (shut is_solid) z = sym first_part ∙ ap ends_solid (sym (z ∙ whole)) ∙ is_solid

        ends : ends_solid (lead ++ new) ≡ true
        ends = ends_solid-behind lead new (ends_solid-behind f.front (put (id_of n) f.back) (put-ends n f.front f.back own_ends))

        content_is : content (piece_with n piece) ≡ lead ++ new
        content_is = ap content spread ∙ c.again (lead ++ new) no_cr ends

        no_comment : begins_with (codes "//") new ≡ false
        no_comment = begins-two 47 47 f.front f.back _ refl f.some (ap (begins_with (codes "//")) (sym f.cut) ∙ first.3)

        counted : counts (text_of (piece_with n piece)) ≡ true
        counted = ap counts (ap past_leading content_is ∙ ap (λ (l : List ℕ). past_leading (lead ++ l)) begins ∙ past-blanks lead a _ (leading-blank (content piece)) solid) ∙ counts_it
          where
            counts_it : counts (a ∷ (more ++ put (id_of n) f.back)) ≡ true
            counts_it = let h : begins_with (codes "//") (a ∷ (more ++ put (id_of n) f.back)) ≡ false = ap (begins_with (codes "//")) (sym begins) ∙ no_comment in rw h refl

-- what holds of the bytes of a line and of a tag holds of those of the line with the tag

tag-free : (n k : ℕ) (rest : List ℕ) → k < 32 → list_any (λ b. nat_eq b k) (codes " #") ≡ false → list_any (λ b. nat_eq b k) (codes "line:") ≡ false → list_any (λ b. nat_eq b k) (tag_before rest n) ≡ false
tag-free n k rest low mark head =
    free-append (λ b. nat_eq b k) (codes " #") (id_of n ++ gap rest) mark
    (free-append (λ b. nat_eq b k) (id_of n) (gap rest) (id-free k n (omega (arith, low)) head) (gap_free (begins_with (codes "//") rest)))
  where
    gap_free : (t : Bool) → list_any (λ b. nat_eq b k) (cond t (32 ∷ []) []) ≡ false
    gap_free true = or_from (nat_eq 32 k) false (or_parts (nat_eq 32 k) _ mark).0 refl
    gap_free false = refl

pub with-free : (n : ℕ) (piece : List ℕ) (p : PieceWith n piece) → list_any is_lf piece ≡ false → list_any is_lf (piece_with n piece) ≡ false
with-free n piece p free =
    let parts = free-parts is_lf p.front p.back (ap (list_any is_lf) (sym p.cut) ∙ free) in
    let tag = tag_before (drop (end_of (text_of piece)) (text_of piece)) n in
    ap (list_any is_lf) p.with
    ∙ free-append is_lf p.front (tag ++ p.back) parts.0 (free-append is_lf tag p.back (tag-free n 10 (drop (end_of (text_of piece)) (text_of piece)) (omega arith) refl refl) parts.1)

tag-utf8 : (n : ℕ) (rest : List ℕ) → IsUtf8 (tag_before rest n)
tag-utf8 n rest = utf8-cons 32 _ (omega arith) (utf8-cons 35 _ (omega arith) (IsUtf8-append (id_of n) _ (id-utf8 n) (of (begins_with (codes "//") rest))))
  where
    of : (t : Bool) → IsUtf8 (cond t (32 ∷ []) [])
    of true = utf8-one 32 (omega arith)
    of false = IsUtf8-nil

pub with-utf8 : (n : ℕ) (piece : List ℕ) (p : PieceWith n piece) → IsUtf8 piece → IsUtf8 (piece_with n piece)
with-utf8 n piece p utf8 =
    let parts = split-utf8 p.front p.back p.low (subst IsUtf8 p.cut utf8) in
    let tag = tag_before (drop (end_of (text_of piece)) (text_of piece)) n in
    subst IsUtf8 (sym p.with) (IsUtf8-append p.front (tag ++ p.back) parts.0 (IsUtf8-append tag p.back (tag-utf8 n (drop (end_of (text_of piece)) (text_of piece))) parts.1))

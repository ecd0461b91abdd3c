-- What is found among headers is what the text of a line is there.
use Rattle.std.proofs.Common.{◌≡◌, ℕ, suc, ◌+◌, ◌<◌, List, [], ◌∷◌, ◌++◌, length, take, drop, Bool, true, false, nat_eq, nat_lt, IsUtf8, get_or, Some, codes, bytes_eq, refl, sym, ap, ◌∙◌, subst, arith, append_assoc, add-one}
use Rattle.std.specs.List.{list_all, list_any}
use Rattle.std.proofs.lemmas.Bool.{eqb-true, or_parts, or_from, false_from_ne_true, lt-ltb, ltb-true}
use Rattle.std.proofs.lemmas.List.{take_at, drop_at, length-append}
use Rattle.std.proofs.lemmas.List.Folds.{list_any-append}
use Rattle.std.proofs.lemmas.Slice.Eq.{bytes_eq-Decides}
use Rattle.yarn_lines.specs.Lines.{without_trailing}
use Rattle.yarn_items.specs.declared.item.Mode.TheVariants.{InHeaders}
use Rattle.yarn_expr.specs.declared.token.Token.{Token}
use Rattle.yarn_items.specs.declared.item.Header.{Header}
use Rattle.yarn_items.specs.declared.item.Item.{Item}
use Rattle.yarn_items.specs.declared.item.Item.TheVariants as item
use Rattle.yarn_items.specs.declared.item.Found.{Found}
use Rattle.std.proofs.lemmas.Str.{IsUtf8-drop, IsCharBoundary-after_ascii}
use Rattle.yarn_items.specs.Text.{is_tag_byte, trimmed}
use Rattle.yarn_items.specs.Item.{is_name_text, IsFileTag, IsHeader, IsForm}
use Rattle.yarn_items.specs.Heading.{bare, length_to_colon, header_found, is_file_tag, file_tag_found, tag_or_header, heading_found}
use Rattle.yarn_items.proofs.NameBytes.{name-bytes, in-no_colon, in-no_hash, is_colon, is_hash}
use Rattle.yarn_items.proofs.BlankLemmas.{blanks-no_colon, blanks-no_hash, trailing-dropped}
use Rattle.yarn_items.proofs.Utf8Lemmas.{trailing, trimmed-utf8}
use Rattle.yarn_items.proofs.FormLemmas.{found_with, HasForm, without}

-- Headers.

colon-place : (front rest : List ℕ) → list_any is_colon front ≡ false → length_to_colon (front ++ 58 ∷ rest) ≡ length front
colon-place [] rest is = refl
colon-place (b ∷ front) rest is =
    let both = or_parts (is_colon b) (list_any is_colon front) is in
    rw (both.0, colon-place front rest both.1, add-one) refl

colon-there : (text : List ℕ) → length_to_colon text < length text → text ≡ take (length_to_colon text) text ++ 58 ∷ drop (length_to_colon text + 1) text
colon-there [] lt = absurd (omega arith)
colon-there (b ∷ bytes) lt = by_test (colon-there bytes) (nat_eq b 58) refl
  where
    by_test : (length_to_colon bytes < length bytes → bytes ≡ take (length_to_colon bytes) bytes ++ 58 ∷ drop (length_to_colon bytes + 1) bytes) →
        (t : Bool) → nat_eq b 58 ≡ t →
        b ∷ bytes ≡ take (length_to_colon (b ∷ bytes)) (b ∷ bytes) ++ 58 ∷ drop (length_to_colon (b ∷ bytes) + 1) (b ∷ bytes)
    by_test later true is = rw is (ap (λ c. c ∷ bytes) (eqb-true b 58 is))
    by_test later false is =
        let shorter : length_to_colon bytes < length bytes = let h = rw is at lt in omega arith in
        let e = ap (λ l. b ∷ l) (later shorter) in
        let n = length_to_colon bytes in
        rw is (rw (add-one n, add-one (suc n)) (rw (add-one n) at e))

header-found : (text key value : List ℕ) → IsHeader text key value → header_found text ≡ Some (bare (item.Header (record { key = key; value = value })))
header-found text key value h =
    let front = key ++ h.blanks in
    let inside = name-bytes key h.named in
    let no_colon : list_any is_colon front ≡ false =
    list_any-append is_colon key h.blanks ∙ or_from (list_any is_colon key) (list_any is_colon h.blanks) (in-no_colon key inside) (blanks-no_colon h.blanks h.between) in
    let split : text ≡ front ++ 58 ∷ h.rest = h.split ∙ sym (append_assoc key h.blanks (58 ∷ h.rest)) in
    let at : length_to_colon text ≡ length front = ap length_to_colon split ∙ colon-place front h.rest no_colon in
    let size : length text ≡ length front + suc (length h.rest) = ap length split ∙ length-append front (58 ∷ h.rest) in
    let within : length_to_colon text < length text = omega (arith, at, size) in
    let key_is : without_trailing (take (length_to_colon text) text) ≡ key =
    ap (λ n. without_trailing (take n text)) at ∙ ap (λ l. without_trailing (take (length front) l)) split
    ∙ ap without_trailing (take_at front (58 ∷ h.rest) (length front) refl) ∙ trailing-dropped key h.blanks inside h.between in
    let one_more : length (front ++ 58 ∷ []) ≡ length front + 1 = length-append front (58 ∷ []) in
    let rest_is : drop (length_to_colon text + 1) text ≡ h.rest =
    ap (λ n. drop (n + 1) text) at ∙ ap (drop (length front + 1)) (split ∙ sym (append_assoc front (58 ∷ []) h.rest))
    ∙ drop_at (front ++ 58 ∷ []) h.rest (length front + 1) one_more in
    rw (lt-ltb (length_to_colon text) (length text) within, key_is, h.named, rest_is, ← h.valued) refl

no_hash-front : (front rest : List ℕ) → list_any is_hash front ≡ false → tag_or_header (front ++ 58 ∷ rest) ≡ header_found (front ++ 58 ∷ rest)
no_hash-front [] rest no_hash = refl
no_hash-front (b ∷ front) rest no_hash = let both = or_parts (is_hash b) (list_any is_hash front) no_hash in rw both.0 refl

header-no_tag : (text key value : List ℕ) → IsHeader text key value → tag_or_header text ≡ header_found text
header-no_tag text key value h =
    let front = key ++ h.blanks in
    let no_hash : list_any is_hash front ≡ false = list_any-append is_hash key h.blanks
    ∙ or_from (list_any is_hash key) (list_any is_hash h.blanks) (in-no_hash key (name-bytes key h.named)) (blanks-no_hash h.blanks h.between) in
    let split : text ≡ front ++ 58 ∷ h.rest = h.split ∙ sym (append_assoc key h.blanks (58 ∷ h.rest)) in
    subst (λ l. tag_or_header l ≡ header_found l) (sym split) (no_hash-front front h.rest no_hash)

header-within : (text key value : List ℕ) → IsHeader text key value → length_to_colon text < length text
header-within text key value h =
    let front = key ++ h.blanks in
    let no_colon : list_any is_colon front ≡ false =
    list_any-append is_colon key h.blanks
    ∙ or_from (list_any is_colon key) (list_any is_colon h.blanks) (in-no_colon key (name-bytes key h.named)) (blanks-no_colon h.blanks h.between) in
    let split : text ≡ front ++ 58 ∷ h.rest = h.split ∙ sym (append_assoc key h.blanks (58 ∷ h.rest)) in
    let at : length_to_colon text ≡ length front = ap length_to_colon split ∙ colon-place front h.rest no_colon in
    let size : length text ≡ length front + suc (length h.rest) = ap length split ∙ length-append front (58 ∷ h.rest) in
    omega (arith, at, size)

-- a text whose colon stands within it is none without a colon
other-text : (text other : List ℕ) → length_to_colon text < length text → length_to_colon other ≡ length other → bytes_eq text other ≡ false
other-text text other within none = false_from_ne_true (bytes_eq text other) (λ e.
    let same = (bytes_eq-Decides text other).0 e in
    omega (arith, ap length_to_colon same, ap length same))

header-only : (text : List ℕ) (f : Found) → header_found text ≡ Some f → HasForm InHeaders text f
header-only text f is = by_test (nat_lt (length_to_colon text) (length text)) (is_name_text (without_trailing (take (length_to_colon text) text))) refl refl
  where
    by_test : (a n : Bool) → nat_lt (length_to_colon text) (length text) ≡ a → is_name_text (without_trailing (take (length_to_colon text) text)) ≡ n →
        HasForm InHeaders text f
    by_test true true a n =
        let name = without_trailing (take (length_to_colon text) text) in
        let cut = trailing (take (length_to_colon text) text) in
        let rest = drop (length_to_colon text + 1) text in
        let told : Some (bare (item.Header (record { key = name; value = trimmed rest }))) ≡ Some f = rw (a, n) at is in
        let same : bare (item.Header (record { key = name; value = trimmed rest })) ≡ f = cc in
        let split : text ≡ name ++ (cut.blanks ++ 58 ∷ rest) =
        colon-there text (ltb-true (length_to_colon text) (length text) a) ∙ ap (λ l. l ++ 58 ∷ rest) cut.split
        ∙ append_assoc name cut.blanks (58 ∷ rest) in
        let whole : IsHeader text name (trimmed rest) = record { blanks = cut.blanks; rest = rest; split = split; named = n; between = cut.between; valued = refl } in
        subst (HasForm InHeaders text) same (record { tokens = []; is = (whole, refl); literals = refl })
    by_test true false a n = let told = rw (a, n) at is in absurd cc
    by_test false n a e = let told = rw a at is in absurd cc

-- File tags.

file_tag-only : (text tag : List ℕ) (f : Found) → text ≡ 35 ∷ tag → file_tag_found tag ≡ Some f → HasForm InHeaders text f
file_tag-only text tag f split is = by_test (is_file_tag tag) refl
  where
    by_some : (s a : Bool) → bytes_eq tag [] ≡ s → list_all is_tag_byte tag ≡ a → is_file_tag tag ≡ true → IsFileTag text tag
    by_some false true s a whole = record { split = split; some = λ none. (let h = sym s ∙ (bytes_eq-Decides tag []).1 none in absurd cc); solid = a }
    by_some true a s e whole = let h = rw s at whole in absurd cc
    by_some false false s a whole = let h = rw (s, a) at whole in absurd cc

    by_test : (t : Bool) → is_file_tag tag ≡ t → HasForm InHeaders text f
    by_test true t =
        let told : Some (bare (item.FileTag tag)) ≡ Some f = rw t at is in
        let same : bare (item.FileTag tag) ≡ f = cc in
        let whole = by_some (bytes_eq tag []) (list_all is_tag_byte tag) refl refl t in
        subst (HasForm InHeaders text) same (record { tokens = []; is = (whole, refl); literals = refl })
    by_test false t = let told = rw t at is in absurd cc

file_tag-found : (tag : List ℕ) → (tag ≡ [] → ⊥) → list_all is_tag_byte tag ≡ true → file_tag_found tag ≡ Some (bare (item.FileTag tag))
file_tag-found tag some solid =
    let no_end = false_from_ne_true (bytes_eq tag []) (λ e. some ((bytes_eq-Decides tag []).0 e)) in
    rw (no_end, solid) refl

tag_or_header-only : (text : List ℕ) (f : Found) → tag_or_header text ≡ Some f → HasForm InHeaders text f
tag_or_header-only [] f is = absurd cc
tag_or_header-only (b ∷ text) f is = by_test (nat_eq b 35) refl
  where
    by_test : (t : Bool) → nat_eq b 35 ≡ t → HasForm InHeaders (b ∷ text) f
    by_test true t = file_tag-only (b ∷ text) text f (ap (λ x. x ∷ text) (eqb-true b 35 t)) (rw t at is)
    by_test false t = header-only (b ∷ text) f (rw t at is)

-- All.

pub heading-only : (text : List ℕ) (f : Found) → heading_found text ≡ Some f → HasForm InHeaders text f
heading-only text f is = by_test (bytes_eq text (codes "---")) (bytes_eq text (codes "===")) refl refl
  where
    by_test : (a e : Bool) → bytes_eq text (codes "---") ≡ a → bytes_eq text (codes "===") ≡ e → HasForm InHeaders text f
    by_test true e a t =
        let told : Some (bare item.BodyBegins) ≡ Some f = rw a at is in
        let same : bare item.BodyBegins ≡ f = cc in
        subst (HasForm InHeaders text) same (record { tokens = []; is = ((bytes_eq-Decides text (codes "---")).0 a, refl); literals = refl })
    by_test false true a e =
        let told : Some (bare item.NodeEnds) ≡ Some f = rw (a, e) at is in
        let same : bare item.NodeEnds ≡ f = cc in
        subst (HasForm InHeaders text) same (record { tokens = []; is = ((bytes_eq-Decides text (codes "===")).0 e, refl); literals = refl })
    by_test false false a e = tag_or_header-only text f (rw (a, e) at is)

header-line : (text : List ℕ) (header : Header) → IsHeader text header.key header.value → heading_found text ≡ Some (bare (item.Header header))
header-line text header is =
    let within = header-within text header.key header.value is in
    rw (other-text text (codes "---") within refl, other-text text (codes "===") within refl)
    (header-no_tag text header.key header.value is ∙ header-found text header.key header.value is)

pub heading-found : (text : List ℕ) (tokens : List Token) (it : Item) → IsForm InHeaders text tokens it → heading_found text ≡ Some (found_with tokens it)
heading-found text tokens item.NodeEnds is = without item.NodeEnds tokens (heading_found text) (ap heading_found is.0) is.1
heading-found text tokens item.BodyBegins is = without item.BodyBegins tokens (heading_found text) (ap heading_found is.0) is.1
heading-found text tokens (item.FileTag tag) is =
    without (item.FileTag tag) tokens (heading_found text) (ap heading_found is.0.split ∙ file_tag-found tag is.0.some is.0.solid) is.1
heading-found text tokens (item.Header header) is = without (item.Header header) tokens (heading_found text) (header-line text header is.0) is.1
heading-found text tokens (item.Line said) is = absurd is
heading-found text tokens (item.Offer said asked) is = absurd is
heading-found text tokens (item.Command own tags) is = absurd is
heading-found text tokens (item.Game said) is = absurd is

-- Values are UTF-8.

colon-at : (text : List ℕ) → length_to_colon text < length text → get_or text (length_to_colon text) 0 ≡ 58
colon-at [] lt = absurd (omega arith)
colon-at (b ∷ bytes) lt = by_test (colon-at bytes) (nat_eq b 58) refl
  where
    by_test : (length_to_colon bytes < length bytes → get_or bytes (length_to_colon bytes) 0 ≡ 58) → (t : Bool) → nat_eq b 58 ≡ t →
        get_or (b ∷ bytes) (length_to_colon (b ∷ bytes)) 0 ≡ 58
    by_test later true t = rw t (eqb-true b 58 t)
    by_test later false t =
        let shorter : length_to_colon bytes < length bytes = let h = rw t at lt in omega arith in
        rw (t, add-one (length_to_colon bytes)) (later shorter)

-- the value of a header
pub value-utf8 : (text : List ℕ) (n : ℕ) → n ≡ length_to_colon text → n < length text → IsUtf8 text → IsUtf8 (trimmed (drop (n + 1) text))
value-utf8 text n is lt utf8 =
    let small : get_or text n 0 < 128 = omega (arith, ap (λ k. get_or text k 0) is ∙ colon-at text (omega (arith, is))) in
    trimmed-utf8 (drop (n + 1) text) (IsUtf8-drop text (n + 1) utf8 (IsCharBoundary-after_ascii text n utf8 lt small))
